-- The first line of an input: a graph name and its LF, or not. Assumes nothing.
use mathlib.Core.Path.{◌≡◌, refl, ap, ap₂, ◌∙◌}
use mathlib.Core.Bool.{Bool, true, false, ◌&&◌}
use mathlib.Core.List.{List, [], ◌∷◌, ◌++◌}
use Prim.Native.Nat.{ℕ, suc, ◌+◌, ◌≤◌, ◌<◌}
use native.Mathlib.Omega.{arith}
use borrow.Author.Tests.{ltb-true, lt-ltb, eqb-true, ne_eqb}
use lib.Dec.{eqb, ltb}
use lib.ListN.{length, get_or, take, drop, length-append}
use lib.Seq.{take_at, drop-append-add}
use Rattle.text.specs.declared.Line.{Line}
use Rattle.text.specs.declared.Line.TheVariants.{Ended, Unended, End}
use Rattle.text.specs.Lines.{to_lf, line_end, line_at}
use Rattle.text.proofs.NumberLaws.{and_both}
use Rattle.session_text.specs.Claims.{WordByte}
use Rattle.session_text.specs.Claims.WordByte.{capital, small, digit, underscore}
use Rattle.session_page.specs.LayOut.{is_graph_name}
use Rattle.session_page.proofs.PrintableLaws.{graph-name, is_graph_name_lem}
use Rattle.sheet_page.specs.Sheets.{first_line, after_line, has_name}
use Rattle.sheet_page.specs.Claims.{Named}

-- ---- a text is what stands before its first LF, the LF, and the rest
abbrev lf_at : Bool → List ℕ → ℕ
lf_at t s = elim t [ true ↦ 0 | false ↦ suc (to_lf s) ]

lf_parts : (s : List ℕ) → to_lf s < length s → s ≡ take (to_lf s) s ++ (10 ∷ drop (suc (to_lf s)) s)
unfolding to_lf
lf_parts [] h = absurd (omega arith)
lf_parts (b ∷ s) h = go (eqb b 10) refl (lf_parts s) h
  where
    go : (t : Bool) → eqb b 10 ≡ t → (to_lf s < length s → s ≡ take (to_lf s) s ++ (10 ∷ drop (suc (to_lf s)) s))
        → lf_at t s < suc (length s) → b ∷ s ≡ take (lf_at t s) (b ∷ s) ++ (10 ∷ drop (suc (lf_at t s)) (b ∷ s))
    go true e ih l = ap (λ (x : ℕ). x ∷ s) (eqb-true b 10 e)
    go false e ih l = ap (◌∷◌ b) (ih (omega arith))

lf_after : (name rest : List ℕ) → ((k : ℕ) → k < length name → get_or name k 0 ≡ 10 → ⊥) → to_lf (name ++ (10 ∷ rest)) ≡ length name
unfolding to_lf
lf_after [] rest h = refl
lf_after (b ∷ name) rest h = rw (ne_eqb b 10 (h 0 (omega arith)), to_lf) (ap suc (lf_after name rest (λ k l. h (suc k) (omega arith))))

-- an LF is no byte of a name
word_no_lf : (b : ℕ) → WordByte b → b ≡ 10 → ⊥
word_no_lf b (capital l h) e = omega arith
word_no_lf b (small l h) e = omega arith
word_no_lf b (digit l h) e = omega arith
word_no_lf b (underscore u) e = omega arith

-- ---- an input that has a graph name
module _ {input name rest : List ℕ} (n : Named input name rest) where
  name-ends : to_lf input ≡ length name
  name-ends = ap to_lf n.parts ∙ lf_after name rest (λ k l. word_no_lf (get_or name k 0) (n.named.words k l))

  pub first-is : first_line input ≡ name
  first-is = ap₂ take name-ends n.parts ∙ take_at name (10 ∷ rest) (length name) refl

  pub after_is : after_line input ≡ rest
  after_is =
      let place : suc (to_lf input) ≡ length name + 1 = omega (arith, name-ends) in
      ap₂ drop place n.parts ∙ drop-append-add name (10 ∷ rest) 1

  pub rest_shorter : length rest + 2 ≤ length input
  rest_shorter = omega (arith, ap length n.parts, length-append name (10 ∷ rest), n.named.some)

  pub has_name_lem : has_name input ≡ true
  unfolding has_name
  has_name_lem =
      let inside : to_lf input < length input = omega (arith, name-ends, ap length n.parts, length-append name (10 ∷ rest)) in
      rw (lt-ltb (to_lf input) (length input) inside, first-is) (is_graph_name_lem name n.named)

module _ (input : List ℕ) (short : length input ≤ 65536) where
  pub named_so : has_name input ≡ true → Named input (first_line input) (after_line input)
  unfolding has_name
  named_so h =
      let both = and_both (ltb (to_lf input) (length input)) (is_graph_name (first_line input)) h in
      record { short = short; parts = lf_parts input (ltb-true (to_lf input) (length input) both.0); named = graph-name (first_line input) both.1 }

  pub not_named : ((name rest : List ℕ) → Named input name rest → ⊥) → has_name input ≡ false
  not_named never = go (has_name input) refl
    where
      go : (b : Bool) → has_name input ≡ b → b ≡ false
      go true e = absurd (never (first_line input) (after_line input) (named_so e))
      go false e = refl

pub name-within : (input : List ℕ) → has_name input ≡ true → to_lf input < length input
unfolding has_name
name-within input h = ltb-true (to_lf input) (length input) (and_both (ltb (to_lf input) (length input)) (is_graph_name (first_line input)) h).0

-- ---- as the code finds its end
pub record EndsAt (input : List ℕ) (end : ℕ) : Type 0 where
  pub place : end ≡ to_lf input
  pub within : to_lf input < length input

module _ (input : List ℕ) where
  abbrev line : Bool → Bool → Line
  line a b = elim a [ true ↦ elim b [ true ↦ Ended (0 + to_lf input) | false ↦ Unended ] | false ↦ End ]

  pub line-ended : {end : ℕ} → line_at input 0 ≡ Ended end → EndsAt input end
  unfolding line_at line_end
  line-ended {end} = go (ltb 0 (length input)) (ltb (0 + to_lf input) (length input)) refl
    where
      go : (a b : Bool) → ltb (0 + to_lf input) (length input) ≡ b → line a b ≡ Ended end → EndsAt input end
      go true true l e =
          let same : 0 + to_lf input ≡ end = cc in
          record { place = omega (arith, same); within = omega (arith, ltb-true (0 + to_lf input) (length input) l) }
      go true false l e = let z : ◌≡◌ {A = ℕ} 0 1 = cc in absurd (omega arith)
      go false b l e = let z : ◌≡◌ {A = ℕ} 0 1 = cc in absurd (omega arith)

  pub line_unnamed : ((end : ℕ) → line_at input 0 ≡ Ended end → ⊥) → has_name input ≡ false
  unfolding has_name line_at line_end
  line_unnamed never = go (ltb (to_lf input) (length input)) refl
    where
      go : (b : Bool) → ltb (to_lf input) (length input) ≡ b → (b && is_graph_name (first_line input)) ≡ false
      go true l =
          let inside = ltb-true (to_lf input) (length input) l in
          absurd (never (0 + to_lf input) (rw (lt-ltb 0 (length input) (omega arith), lt-ltb (0 + to_lf input) (length input) (omega arith), line_at)))
      go false l = refl

  module _ {end : ℕ} (e : EndsAt input end) {named : Bool} (tested : named ≡ is_graph_name (take end input)) where
    pub has_tested : has_name input ≡ named
    unfolding has_name
    has_tested = rw (lt-ltb (to_lf input) (length input) e.within, tested, e.place)

  pub tested_name : {end : ℕ} → EndsAt input end → has_name input ≡ true → is_graph_name (take end input) ≡ true
  unfolding has_name
  tested_name {end} e h = rw e.place (and_both (ltb (to_lf input) (length input)) (is_graph_name (first_line input)) h).1
