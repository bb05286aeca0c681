-- `name` meets its contract: a name and what belongs to it are one word. Assumes nothing.
use mathlib.Core.Path.{◌≡◌, refl, ap, sym, subst, ◌∙◌}
use mathlib.Core.Bool.{Bool, true, false, ◌&&◌}
use mathlib.Core.List.{List, [], ◌∷◌}
use Rattle.std.specs.Prelude.{Some, None}
use Prim.Native.Nat.{ℕ, ◌+◌, ◌≤◌, ◌<◌}
use native.Mathlib.Omega.{arith}
use lib.Dec.{leb, eqb}
use lib.ListN.{length, get_or, drop, set}
use lib.Seq.{sets}
use Rattle.text.specs.Numbers.{leading_digits, value_from}
use Rattle.formula.specs.declared.Start.TheVariants.{Name}
use Rattle.formula.specs.declared.names.Word.{Word}
use Rattle.formula.specs.declared.readers.Read.{Read}
use Rattle.formula.specs.Classes.{pick, class_of, is_letter, start_of, run}
use Rattle.formula.specs.Grammar.{Tree, name, bit_of, alike, Got, failed, got, is_index, index_of, right_of, name_of, depth_of}
use Rattle.formula.specs.Reading.{postfix}
use Rattle.formula.specs.Private.Readers.{Reads, word_read}
use Rattle.formula.proofs.GrammarSound.{Gives, name-inside}
use Rattle.formula.proofs.Steps.{starts, reads-none}
use Rattle.formula.proofs.readers.name.Goals as goal

-- one word, and no depth
abbrev One : Tree → ℕ → Type 0
One e to = (postfix e ≡ get_or (postfix e) 0 0 ∷ []) × (depth_of e ≡ 0)

either : (t : Bool) (g h : Got) → Gives One g → Gives One h → Gives One (pick t g h)
either true g h x y = x
either false g h x y = y

index_one : (s : List ℕ) (at n to : ℕ) (ds : List ℕ) → Gives One (index_of s at n to ds)
unfolding index_of postfix depth_of
index_one s at n to ds = either (is_index ds && eqb (get_or s (to + length ds) 0) 93) (got (bit_of at n (value_from 0 ds)) (to + length ds + 1)) failed (refl, refl) tt

right-one : (s : List ℕ) (at n to m : ℕ) → Gives One (right_of s at n to m)
unfolding right_of postfix depth_of
right-one s at n to m = either (is_letter (class_of (get_or s to 0)) && leb m 15) (got (alike at n to m) (to + m)) failed (refl, refl) tt

name-one : (s : List ℕ) (at n : ℕ) → Gives One (name_of s at n)
unfolding name_of postfix depth_of
name-one s at n = either (leb n 15) (pick (eqb (get_or s (at + n) 0) 91) index others) failed (either (eqb (get_or s (at + n) 0) 91) index others (index_one s at n (at + n + 1) _) none) tt
  where
    index : Got
    index = index_of s at n (at + n + 1) (leading_digits (drop (at + n + 1) s))

    right : Got
    right = right_of s at n (at + n + 2) (run (drop (at + n + 2) s))

    others : Got
    others = pick (eqb (get_or s (at + n) 0) 61 && eqb (get_or s (at + n + 1) 0) 61) right (got (name at n) (at + n))

    none : Gives One others
    none = either (eqb (get_or s (at + n) 0) 61 && eqb (get_or s (at + n + 1) 0) 61) right (got (name at n) (at + n)) (right-one s at n (at + n + 2) _) (refl, refl)

module _ (s out : List ℕ) (at n : ℕ) (letter : start_of (get_or s at 0) ≡ Name) where
  here : Got
  here = name_of s at (run (drop at s))

  none : None ≡ word_read here → Reads out n out None (name_of s at (run (drop at s)))
  unfolding here
  none is = reads-none out n out here (go here is)
    where
      go : (g : Got) → None ≡ word_read g → g ≡ failed
      go failed x = refl
      go (got e to) x = let z : ◌≡◌ {A = ℕ} 0 1 = cc x in absurd (omega arith)

  module _ (found : Word) (is : Some found ≡ word_read here) where
    one_read : Read
    one_read = record { next = found.next; count = n + 1; depth = 0 }

    -- what a name's word tells
    record Known : Type 0 where
      pub more : at < found.next
      pub inside : found.next ≤ length s
      pub reads : Reads out n (set out n found.word) (Some one_read) here

    known : Known
    unfolding Reads one_read here
    known = go here refl is
      where
        go : (g : Got) → here ≡ g → Some found ≡ word_read g → Known
        go failed y x = let z : ◌≡◌ {A = ℕ} 0 1 = cc x in absurd (omega arith)
        go (got e to) y x =
            let one : One e to = subst (Gives One) y (name-one s at (run (drop at s))) in
            let f : found ≡ record { next = to; word = get_or (postfix e) 0 0 } = cc x in
            let t : found.next ≡ to = ap (λ (w : Word). w.next) f in
            let w : found.word ≡ get_or (postfix e) 0 0 = ap (λ (w : Word). w.word) f in
            let i : (at < to) × (to ≤ length s) = name-inside s at e to letter y in
            let c : n + 1 ≡ n + length (postfix e) = omega (arith, ap length one.0) in
            let d : Some one_read ≡ Some (record { next = to; count = n + length (postfix e); depth = depth_of e }) = rw (t, c, one.1) in
            record {
              more = omega (arith, i, t);
              inside = omega (arith, i, t);
              reads = subst (Reads out n (set out n found.word) (Some one_read)) (sym y) (d, ap (set out n) w ∙ sym (ap (sets out n) one.0));
            }

pub returns-in_err-found-clause-reads : goal.returns-in_err-found-clause-reads
unfolding here
returns-in_err-found-clause-reads c =
    let a = c.args in
    rw c.from_residual.ensures (none a.s.now a.out.now a.at a.n c.requires.1 c.in_err-found.ensures)

pub bounds-out-n : goal.bounds-out-n
bounds-out-n c =
    omega (arith, starts c.args.s.now c.args.at Name c.requires.1 (omega arith), c.requires.0)

pub returns : goal.returns
unfolding here one_read
returns c =
    let a = c.args in
    let k = known a.s.now a.out.now a.at a.n c.requires.1 c.in_ok-found.found c.in_ok-found.ensures in
    record { bounds = omega (arith, k.more, k.inside); reads = k.reads }
