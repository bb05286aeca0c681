-- The outline of a netlist, in digits: its limits, and the count of its uninitialised latches. Assumes nothing.
use mathlib.Core.Path.{◌≡◌, refl, ap₂, ◌∙◌}
use mathlib.Core.Bool.{true, false, not, ◌&&◌, ◌||◌, or-true}
use mathlib.Core.List.{List}
use mathlib.Core.Logic.{◌⊎◌, inl, inr}
use Prim.Native.Nat.{ℕ, suc, ◌+◌, ◌≤◌, ◌<◌}
use native.Mathlib.Nat.{add-zero}
use native.Mathlib.Omega.{arith}
use borrow.Author.Tests.{le-leb, lt-leb, eq-eqb}
use lib.Dec.{eqb}
use lib.ListN.{get_or}
use Rattle.netlist.specs.Layout.{maximum, next_at, reset_at, output_at, latch_variable}
use Rattle.netlist.specs.Literals.{literal_of, variable_of}
use Rattle.netlist.specs.Valid.{is_within, is_free, latch_ok, free_count, is_outline}
use Rattle.netlist.specs.Aiger.{Outlined, OutlineMeans}
use Rattle.netlist.proofs.LiteralLaws.{literal-plain, literal-inverted}
use Rattle.netlist.proofs.ValidLaws.{outline}
use Rattle.netlist.proofs.AigerLaws.{means, outline_ok}

pub literal-within : (v lit : ℕ) → variable_of lit ≤ v → lit ≤ literal_of v true
unfolding variable_of
literal-within v lit h = let e = literal-inverted v in omega arith

module _ (net : List ℕ) (k : ℕ) where
  reset_ok : (own : ℕ) → (get_or net (reset_at k) 0 ≤ 1) ⊎ (get_or net (reset_at k) 0 ≡ own)
      → (not (is_free net k) || eqb (get_or net (reset_at k) 0) own) ≡ true
  unfolding is_free
  reset_ok own (inl h) = rw (le-leb _ _ h)
  reset_ok own (inr h) = rw (eq-eqb _ _ h) (or-true (not (is_free net k)))

  pub latch_ok_lem : get_or net (next_at k) 0 ≤ literal_of (maximum net) true
      → (get_or net (reset_at k) 0 ≤ 1) ⊎ (get_or net (reset_at k) 0 ≡ literal_of (latch_variable net k) false) → latch_ok net k ≡ true
  unfolding latch_ok is_within
  latch_ok_lem h r = ap₂ ◌&&◌ (le-leb _ _ h) (reset_ok (literal_of (latch_variable net k) false) r)

module _ (net : List ℕ) where
  outlined : is_outline net ≡ true → Outlined net
  outlined is =
      let o = outline net is in
      let m = literal-inverted (maximum net) in
      record {
        long = o.long;
        sum = o.sum;
        most = o.small;
        inputs = (o.some, o.few);
        outputs = (o.output, o.most);
        output = λ k l. let h = literal-within (maximum net) (get_or net (output_at net k) 0) (o.outputs k l) in omega arith;
        next = λ k l. let h = literal-within (maximum net) (get_or net (next_at k) 0) (o.nexts k l) in omega arith;
        reset = λ k l. elim (o.resets k l) [ inl h ↦ inl h | inr h ↦ inr (h ∙ literal-plain (latch_variable net k)) ];
        free = o.free;
      }

  outlined_is : Outlined net → is_outline net ≡ true
  outlined_is o =
      let m = literal-inverted (maximum net) in
      let n = o.long in
      let i = o.inputs in
      let t = o.outputs in
      outline_ok net (omega arith) ((means net).either _ _ _ _ _ o.sum o.most i.0 i.1 t.0 t.1) n
      (λ k l. let h = o.output k l in omega arith)
      (λ k l. latch_ok_lem net k (let h = o.next k l in omega arith) (elim (o.reset k l) [
        | inl h ↦ inl h
        | inr h ↦ let e = literal-plain (latch_variable net k) in inr (omega arith)
      ]))
      o.free

  counted : (k : ℕ) → (free_count net 0 ≡ 0) × (get_or net (reset_at k) 0 ≤ 1 → free_count net (suc k) ≡ free_count net k)
      × (1 < get_or net (reset_at k) 0 → free_count net (suc k) ≡ free_count net k + 1)
  unfolding free_count is_free
  counted k = (refl, (λ h. rw (le-leb (get_or net (reset_at k) 0) 1 h) (add-zero (free_count net k))), λ h. rw (lt-leb (get_or net (reset_at k) 0) 1 h))

  -- THE OUTLINE is so of every list of numbers
  pub outline_means : OutlineMeans net
  outline_means = record { within = outlined; taken = outlined_is; free = counted }
