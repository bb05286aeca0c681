-- Which names and verdict bytes can be laid out, as the code tests them and as the claims say it. Assumes nothing.
use Rattle.std.specs.Prelude.{Some, None}
use mathlib.Core.Path.{◌≡◌, refl, sym, ap, ◌∙◌}
use mathlib.Core.Bool.{Bool, true, false, ◌&&◌, and-false, true≢false}
use mathlib.Core.List.{List, [], ◌∷◌, ◌++◌}
use Prim.Native.Nat.{ℕ, zero, suc, ◌+◌, ◌<◌, ◌≤◌}
use native.Mathlib.Numerals.{add-one}
use native.Mathlib.Omega.{arith}
use native.Mathlib.Decide.{dec_lt}
use borrow.Author.Tests.{le-leb, lt-leb, leb-true, eq-eqb, eqb-true}
use lib.Dec.{eqb, leb}
use lib.ListN.{length, get_or, take, drop, length-append, get_or-eq_default}
use lib.Seq.{take-suc, take_all}
use Rattle.text.proofs.NumberLaws.{and_both}
use Rattle.formula.specs.declared.Class.{Class}
use Rattle.formula.specs.declared.Class.TheVariants.{Other, Letter, Digit, Underscore, Operator, Opening, Closing, OpeningSquare, ClosingSquare, Tab, Lf}
use Rattle.formula.specs.Classes.{pick, within, class_of, is_word_class, in_name, run, name_bytes}
use Rattle.formula.proofs.NameLaws.{all-run}
use Rattle.trace.specs.Verdicts.{all_bits}
use Rattle.trace.proofs.VerdictLaws.{bits, bits_of_all, bits_end}
use Rattle.session_text.specs.Pages.{rejected_from, rejected_of}
use Rattle.session_text.specs.Claims.{WordByte, GraphName, Printable}
use Rattle.session_text.specs.Claims.WordByte.{capital, small, digit, underscore}
use Rattle.session_text.proofs.RejectedLaws.{rejected_yes, rejected_no, rejected-none, rejected_snoc}
use Rattle.session_page.specs.LayOut.{is_graph_name}
use Rattle.session_page.specs.Claims.{NameMeans}
use Rattle.session_page.specs.Private.Writers.{count_of}

-- ---- a graph name, by the code's tests
pub name-empty : (name : List ℕ) → length name ≡ 0 → is_graph_name name ≡ false
unfolding is_graph_name
name-empty name e = rw e

pub name-long : (name : List ℕ) → 24 < length name → is_graph_name name ≡ false
unfolding is_graph_name
name-long name h = rw (lt-leb (length name) 24 h) (and-false (leb 1 (length name)))

pub name_bytes_lem : (name : List ℕ) → 0 < length name → length name ≤ 24 → eqb (0 + run (drop 0 name)) (length name) ≡ is_graph_name name
unfolding is_graph_name
name_bytes_lem name some most =
    let z : 0 + run name ≡ run name = omega arith in
    rw (z, le-leb 1 (length name) (omega arith), le-leb (length name) 24 most) (sym (all-run name))

-- ---- the bytes of a name
within-is : (lo hi b : ℕ) → lo ≤ b → b ≤ hi → within lo hi b ≡ true
within-is lo hi b l h = rw (le-leb lo b l, le-leb b hi h)

within-told : (lo hi b : ℕ) → within lo hi b ≡ true → (lo ≤ b) × (b ≤ hi)
within-told lo hi b = go (leb lo b) refl (leb b hi) refl
  where
    go : (t : Bool) → leb lo b ≡ t → (u : Bool) → leb b hi ≡ u → pick t u false ≡ true → (lo ≤ b) × (b ≤ hi)
    go true l true h e = (leb-true lo b l, leb-true b hi h)
    go true l false h e = absurd (true≢false (sym e))
    go false l u h e = absurd (true≢false (sym e))

-- one of two classes
pick_word : (t : Bool) (c d : Class) → is_word_class c ≡ true → is_word_class d ≡ true → is_word_class (pick t c d) ≡ true
pick_word true c d p q = p
pick_word false c d p q = q

pick_other : (t : Bool) (c d : Class) → is_word_class c ≡ false → is_word_class d ≡ false → is_word_class (pick t c d) ≡ false
pick_other true c d p q = p
pick_other false c d p q = q

-- the class of a byte that is no letter, digit or `_`
abbrev other_class : ℕ → Class
other_class b =
    pick (eqb b 33) Operator
    (pick (eqb b 38) Operator
    (pick (eqb b 94) Operator
    (pick (eqb b 124) Operator
    (pick (eqb b 61) Operator
    (pick (eqb b 40) Opening
    (pick (eqb b 41) Closing
    (pick (eqb b 91) OpeningSquare
    (pick (eqb b 93) ClosingSquare
    (pick (eqb b 9) Tab
    (pick (eqb b 10) Lf Other))))))))))

other-is : (b : ℕ) → is_word_class (other_class b) ≡ false
unfolding is_word_class
other-is b =
    pick_other (eqb b 33) Operator _ refl
    (pick_other (eqb b 38) Operator _ refl
    (pick_other (eqb b 94) Operator _ refl
    (pick_other (eqb b 124) Operator _ refl
    (pick_other (eqb b 61) Operator _ refl
    (pick_other (eqb b 40) Opening _ refl
    (pick_other (eqb b 41) Closing _ refl
    (pick_other (eqb b 91) OpeningSquare _ refl
    (pick_other (eqb b 93) ClosingSquare _ refl
    (pick_other (eqb b 9) Tab _ refl
    (pick_other (eqb b 10) Lf Other refl refl))))))))))

word-told : (b : ℕ) → in_name b ≡ true → WordByte b
unfolding class_of is_word_class
word-told b = go (within 65 90 b) refl (within 97 122 b) refl (within 48 57 b) refl (eqb b 95) refl
  where
    go : (t1 : Bool) → within 65 90 b ≡ t1 → (t2 : Bool) → within 97 122 b ≡ t2 → (t3 : Bool) → within 48 57 b ≡ t3 → (t4 : Bool) → eqb b 95 ≡ t4
        → is_word_class (pick t1 Letter (pick t2 Letter (pick t3 Digit (pick t4 Underscore (other_class b))))) ≡ true → WordByte b
    go true e1 t2 e2 t3 e3 t4 e4 h = let w = within-told 65 90 b e1 in capital w.0 w.1
    go false e1 true e2 t3 e3 t4 e4 h = let w = within-told 97 122 b e2 in small w.0 w.1
    go false e1 false e2 true e3 t4 e4 h = let w = within-told 48 57 b e3 in digit w.0 w.1
    go false e1 false e2 false e3 true e4 h = underscore (eqb-true b 95 e4)
    go false e1 false e2 false e3 false e4 h = absurd (true≢false (sym h ∙ other-is b))

word-is : (b : ℕ) → WordByte b → in_name b ≡ true
unfolding class_of is_word_class
word-is b (capital l h) = rw (within-is 65 90 b l h)
word-is b (small l h) = rw (within-is 97 122 b l h) (pick_word (within 65 90 b) Letter Letter refl refl)
word-is b (digit l h) = rw (within-is 48 57 b l h) (pick_word (within 65 90 b) Letter _ refl (pick_word (within 97 122 b) Letter Digit refl refl))
word-is b (underscore e) =
    rw (eq-eqb b 95 e)
    (pick_word (within 65 90 b) Letter _ refl (pick_word (within 97 122 b) Letter _ refl (pick_word (within 48 57 b) Digit Underscore refl refl)))

words-told : (name : List ℕ) → name_bytes name ≡ true → (k : ℕ) → k < length name → WordByte (get_or name k 0)
unfolding name_bytes
words-told [] h k l = absurd (omega arith)
words-told (b ∷ name) h k l = go (in_name b) refl h k l (words-told name)
  where
    go : (t : Bool) → in_name b ≡ t → pick t (name_bytes name) false ≡ true → (k : ℕ) → k < suc (length name)
        → (name_bytes name ≡ true → (i : ℕ) → i < length name → WordByte (get_or name i 0)) → WordByte (get_or (b ∷ name) k 0)
    go true e h zero l ih = word-told b e
    go true e h (suc k) l ih = ih h k (omega arith)
    go false e h k l ih = absurd (true≢false (sym h))

words_are : (name : List ℕ) → ((k : ℕ) → k < length name → WordByte (get_or name k 0)) → name_bytes name ≡ true
unfolding name_bytes
words_are [] h = refl
words_are (b ∷ name) h = rw (word-is b (h 0 (omega arith))) (words_are name (λ k l. h (suc k) (omega arith)))

-- ---- both
pub graph-name : (name : List ℕ) → is_graph_name name ≡ true → GraphName name
unfolding is_graph_name
graph-name name e =
    let a = and_both (leb 1 (length name)) (leb (length name) 24 && name_bytes name) e in
    let b = and_both (leb (length name) 24) (name_bytes name) a.1 in
    record { some = leb-true 1 (length name) a.0; most = leb-true (length name) 24 b.0; words = words-told name b.1 }

pub is_graph_name_lem : (name : List ℕ) → GraphName name → is_graph_name name ≡ true
unfolding is_graph_name
is_graph_name_lem name n = rw (le-leb 1 (length name) n.some, le-leb (length name) 24 n.most, words_are name n.words)

-- what is claimed of an answer that is what the definition gives
pub name-answered : (name : List ℕ) {answer : Bool} → answer ≡ is_graph_name name → (answer ≡ is_graph_name name) × NameMeans name answer
name-answered name e =
    (e, record { is = λ h. graph-name name (sym e ∙ h); is_none = λ h n. true≢false (sym (is_graph_name_lem name n) ∙ sym e ∙ h) })

pub printable : (name verdicts : List ℕ) → is_graph_name name ≡ true → all_bits verdicts ≡ true → Printable name verdicts
printable name verdicts e judged = record { named = graph-name name e; bits = λ k l. bits verdicts judged k }

pub bits_are : (name verdicts : List ℕ) → Printable name verdicts → all_bits verdicts ≡ true
bits_are name verdicts p = bits_of_all verdicts (λ k. go k (dec_lt k (length verdicts)))
  where
    go : (k : ℕ) → Dec (k < length verdicts) → get_or verdicts k 0 ≤ 1
    go k (yes l) = p.bits k l
    go k (no l) = omega (arith, get_or-eq_default verdicts 0 {n = k} (omega (arith, l)))

pub not_named : (name verdicts : List ℕ) → is_graph_name name ≡ false → Printable name verdicts → ⊥
not_named name verdicts e p = true≢false (sym (is_graph_name_lem name p.named) ∙ e)

pub not-bits : (name verdicts : List ℕ) → all_bits verdicts ≡ false → Printable name verdicts → ⊥
not-bits name verdicts e p = true≢false (sym (bits_are name verdicts p) ∙ e)

-- ---- the count, where k bytes have been counted
module _ (v : List ℕ) where
  pub count_none : all_bits v ≡ false → None ≡ count_of v
  unfolding count_of
  count_none e = rw e

  pub count-all : {k rejected : ℕ} → length v ≤ k → rejected ≡ length (rejected_of (take k v)) → all_bits (drop k v) ≡ all_bits v → Some rejected ≡ count_of v
  unfolding count_of
  count-all {k} {rejected} l e b = rw (sym b ∙ bits_end v k l, e, take_all k v l)

  pub count_next : (k rejected : ℕ) → k < length v → get_or v k 0 ≤ 1 → rejected ≡ length (rejected_of (take k v)) → rejected + get_or v k 0 ≡ length (rejected_of (take (k + 1) v))
  count_next k rejected l bit e =
      let t : take (k + 1) v ≡ take k v ++ (get_or v k 0 ∷ []) = rw (add-one k) (take-suc v k 0 l) in
      rw (t, rejected_snoc 1 (take k v) (get_or v k 0), length-append) (go (1 + length (take k v)) (get_or v k 0) bit)
    where
      go : (i b : ℕ) → b ≤ 1 → rejected + b ≡ length (rejected_of (take k v)) + length (rejected_from i (b ∷ []))
      go i zero h = let n = ap length (rejected-none (suc i)) in rw (rejected_no i 0 [] (λ z. omega arith)) (omega arith)
      go i (suc b) h = let z : suc b ≡ 1 = omega arith in let n = ap length (rejected-none (suc i)) in rw (rejected_yes i (suc b) [] z) (omega arith)
