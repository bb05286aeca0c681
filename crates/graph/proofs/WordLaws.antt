-- The names of a formula and their widths, looked up in its words. Assumes nothing.
use Rattle.std.specs.Prelude.{is_some, Option, Some, None, Ok, Err}
use Prim.Native.Nat.{ℕ, ◌-◌, ◌/◌, ◌%◌, ◌≤◌, ◌<◌, min}
use mathlib.Core.Path.{subst, ◌≡◌, refl, sym, ap, ◌∙◌}
use mathlib.Core.Logic.{◌⊎◌, ⊎_elim}
use mathlib.Core.Bool.{Bool, true, false, ◌&&◌}
use mathlib.Core.List.{List, [], ◌∷◌, ◌++◌, Memᴰ}
use native.Mathlib.Omega.{arith}
use native.Mathlib.Decide.{dec_lt}
use borrow.Author.Tests.{lt-ltb, le-ltb, lt-leb, le-leb}
use lib.Dec.{ltb, eqb}
use lib.ListN.{length, take, drop, replicate}
use lib.Seq.{take-append_seam}
use Rattle.text.specs.Quoted.{bytes}
use Rattle.formula.specs.declared.Formula.{Formula}
use Rattle.formula.specs.Classes.{pick}
use Rattle.formula.specs.Grammar.{Tree, name, bit_of, alike, bit, not, group, join, Parsed, none, tree, tree_of, depth_of}
use Rattle.formula.specs.Reading.{name_word, bit_word, alike_word, byte_word, postfix, padded, answer_of, formula_of}
use Rattle.formula.specs.Claims.{operators}
use Rattle.formula.proofs.ByteLaws.{start_bit_lem, operator}
use Rattle.formula.proofs.PostfixLaws.{NameIn, InField, name-place, name-length, name_word-small, byte_word-large, byte_word-small, bit_word-large, bit_word-small, bit_word-name, bit_word-bit, alike_word-large, alike_word-left, alike_word-right, field-short, words-few, in_field}
use Rattle.assertion.specs.Graph.{Bytes}
use Rattle.graph.specs.Pieces.{width_in, Declared, same, look_up_name}
use Rattle.graph.specs.Reading.{found_at, known, fits, judged_tree, judged_formula}
use Rattle.graph.specs.Private.Steps.{EachNarrow, name_found, word_known, word_fits, all_words}
use Rattle.graph.specs.declared.Fault.TheVariants.{NotFormula, TooDeep, UnknownName, WrongWidth}
use Rattle.graph.specs.declared.FoundName.{FoundName}
use Rattle.graph.proofs.MeaningLaws.{pick-both}

and_none : (t u : Bool) → pick (t && false) u false ≡ false
and_none true u = refl
and_none false u = refl

-- ---- one word by its kind
module _ (ns : List Declared) (s : Bytes) (w : ℕ) where
  pub known-byte : 4096 ≤ w → w < 8192 → word_known ns s w ≡ true
  unfolding word_known
  known-byte l h = rw (le-leb 4096 w l, lt-ltb w 8192 h)

  pub known-name : w < 4096 → word_known ns s w ≡ (is_some (name_found ns s (w % 4096)))
  unfolding word_known
  known-name l = rw (lt-leb 4096 w l, lt-leb 16777216 w (omega arith))

  pub known-bit : 8192 ≤ w → w < 16777216 → word_known ns s w ≡ (is_some (name_found ns s (w % 4096)))
  unfolding word_known
  known-bit l h = rw (le-leb 4096 w (omega arith), le-ltb w 8192 l, lt-leb 16777216 w h)

  pub known_alike : 16777216 ≤ w → word_known ns s w ≡ pick (is_some (name_found ns s ((w - 16777216) / 4096))) (is_some (name_found ns s (w % 4096))) false
  unfolding word_known
  known_alike l = rw (le-leb 4096 w (omega arith), le-ltb w 8192 (omega arith), le-leb 16777216 w l)

  -- the names of a word found, the left one first
  pub left-unknown : {x : Option FoundName} → 16777216 ≤ w → x ≡ name_found ns s ((w - 16777216) / 4096) → is_some x ≡ false → false ≡ word_known ns s w
  left-unknown l e f = rw (known_alike l, ← e, f)

  pub both_found : {x y : Option FoundName} → 16777216 ≤ w → x ≡ name_found ns s ((w - 16777216) / 4096) → is_some x ≡ true → y ≡ name_found ns s (w % 4096) → is_some y ≡ word_known ns s w
  both_found l e f k = rw (known_alike l, ← e, f, ← k)

  pub one_found : {y : Option FoundName} → (w < 4096) ⊎ (8192 ≤ w) → w < 16777216 → y ≡ name_found ns s (w % 4096) → is_some y ≡ word_known ns s w
  one_found names h k = rw (⊎_elim (λ l. known-name l) (λ l. known-bit l h) names, ← k)

  pub fits_byte : 4096 ≤ w → w < 8192 → word_fits ns s w ≡ true
  unfolding word_fits
  fits_byte l h = rw (le-leb 4096 w l, lt-ltb w 8192 h)

  pub fits-name : w < 4096 → word_fits ns s w ≡ eqb (width_in (name_found ns s (w % 4096))) 1
  unfolding word_fits
  fits-name l = rw (lt-leb 4096 w l, lt-ltb w 4096 l)

  pub fits-bit : 8192 ≤ w → w < 16777216 → word_fits ns s w ≡ ltb (w / 8192 - 1) (width_in (name_found ns s (w % 4096)))
  unfolding word_fits
  fits-bit l h = rw (le-leb 4096 w (omega arith), le-ltb w 8192 l, le-ltb w 4096 (omega arith), lt-ltb w 16777216 h)

  pub fits-alike : 16777216 ≤ w → word_fits ns s w ≡ pick ((is_some (name_found ns s ((w - 16777216) / 4096))) && (is_some (name_found ns s (w % 4096)))) (eqb (width_in (name_found ns s ((w - 16777216) / 4096))) (width_in (name_found ns s (w % 4096)))) false
  unfolding word_fits
  fits-alike l = rw (le-leb 4096 w (omega arith), le-ltb w 8192 (omega arith), le-ltb w 4096 (omega arith), le-ltb w 16777216 l)

  -- the names of a word found, the right one first
  module _ {y : Option FoundName} (k : y ≡ name_found ns s (w % 4096)) where
    pub right-missing : (w < 4096) ⊎ (8192 ≤ w) → y ≡ None → false ≡ word_fits ns s w
    right-missing names e = by (dec_lt w 4096) (dec_lt w 16777216)
      where
        none : name_found ns s (w % 4096) ≡ None
        none = sym k ∙ e

        by : Dec (w < 4096) → Dec (w < 16777216) → false ≡ word_fits ns s w
        by (yes l) m = rw (fits-name l, none)
        by (no l) (yes m) = rw (fits-bit (omega (arith, names)) m, none) (sym (le-ltb (w / 8192 - 1) 0 (omega arith)))
        by (no l) (no m) = rw (fits-alike (omega arith), none) (sym (and_none (is_some (name_found ns s ((w - 16777216) / 4096))) _))

    module _ {found : FoundName} (e : y ≡ Some found) where
      pub name-found : w < 4096 → eqb found.width 1 ≡ word_fits ns s w
      name-found l = rw (fits-name l, ← k, e)

      pub bit-found : 8192 ≤ w → w < 16777216 → ltb (w / 8192 - 1) found.width ≡ word_fits ns s w
      bit-found l h = rw (fits-bit l h, ← k, e)

      -- two names compared
      module _ (l : 16777216 ≤ w) {x : Option FoundName} (h : x ≡ name_found ns s ((w - 16777216) / 4096)) where
        pub left-missing : x ≡ None → false ≡ word_fits ns s w
        left-missing f = rw (fits-alike l, ← h, f)

        pub alike-found : {left : FoundName} → x ≡ Some left → eqb left.width found.width ≡ word_fits ns s w
        alike-found f = rw (fits-alike l, ← h, ← k, f, e)

-- ---- the words of a tree
-- the bytes of a tree's words are bytes
EachSmall : List ℕ → Type 0
EachSmall [] = Unit
EachSmall (b ∷ bs) = (b < 256) × EachSmall bs

small : {b : ℕ} {bs : List ℕ} → EachSmall bs → Memᴰ b bs → b < 256
unfolding EachSmall
small h (Memᴰ.head e) = omega (arith, h.0)
small h (Memᴰ.tail m) = small h.1 m

bits_small : EachSmall (bytes "01")
unfolding EachSmall
bits_small = (omega arith, (omega arith, tt))

operators-small : EachSmall operators
unfolding EachSmall
operators-small = (omega arith, (omega arith, (omega arith, (omega arith, tt))))

alone : (t : Bool) → pick t true false ≡ t
alone true = refl
alone false = refl

pick-and : (t u : Bool) → pick t u false ≡ (t && u)
pick-and true u = refl
pick-and false u = refl

-- a test of words that is one of trees: each operand's word passes where the operand does, and each byte's passes
record Tests (s : Bytes) (word : ℕ → Bool) (all : Tree → Bool) : Type 0 where
  at_name : (p n : ℕ) → NameIn s p n → word (name_word p n) ≡ all (name p n)
  at-bit : (p n i : ℕ) → NameIn s p n → word (bit_word p n i) ≡ all (bit_of p n i)
  at-alike : (p n q m : ℕ) → NameIn s p n → NameIn s q m → word (alike_word p n q m) ≡ all (alike p n q m)
  at_byte : (b : ℕ) → b < 256 → word (byte_word b) ≡ true
  of_bit : (b : ℕ) → all (bit b) ≡ true
  of_not : (e : Tree) → all (not e) ≡ all e
  of_group : (e : Tree) → all (group e) ≡ all e
  of_join : (b : ℕ) (e e2 : Tree) → all (join b e e2) ≡ pick (all e) (all e2) false

module _ (test : ℕ → Bool) where
  all_one : (w : ℕ) → all_words test (w ∷ []) ≡ test w
  unfolding all_words
  all_one w = alone (test w)

  all_append : (a b : List ℕ) → all_words test (a ++ b) ≡ pick (all_words test a) (all_words test b) false
  unfolding all_words
  all_append [] b = refl
  all_append (w ∷ a) b = go (test w) (all_append a b)
    where
      go : (t : Bool) → all_words test (a ++ b) ≡ pick (all_words test a) (all_words test b) false → pick t (all_words test (a ++ b)) false ≡ pick (pick t (all_words test a) false) (all_words test b) false
      go true e = e
      go false e = refl

  -- a word that passes, after others
  all_then : (a : List ℕ) (w : ℕ) → test w ≡ true → all_words test (a ++ (w ∷ [])) ≡ all_words test a
  all_then a w e = all_append a (w ∷ []) ∙ rw (all_one w ∙ e) (alone (all_words test a))

words-tree : (s : Bytes) (word : ℕ → Bool) (all : Tree → Bool) → Tests s word all → (e : Tree) → InField s e → all_words word (postfix e) ≡ all e
unfolding postfix
words-tree s word all t (name p n) h = all_one word (name_word p n) ∙ t.at_name p n h
words-tree s word all t (bit_of p n i) h = all_one word (bit_word p n i) ∙ t.at-bit p n i h
words-tree s word all t (alike p n q m) h = all_one word (alike_word p n q m) ∙ t.at-alike p n q m h.0 h.1
words-tree s word all t (bit b) h = all_one word (byte_word b) ∙ t.at_byte b (small bits_small (start_bit_lem b h)) ∙ sym (t.of_bit b)
words-tree s word all t (not e) h =
    all_then word (postfix e) (byte_word 33) (t.at_byte 33 (omega arith)) ∙ words-tree s word all t e h ∙ sym (t.of_not e)
words-tree s word all t (group e) h = words-tree s word all t e h ∙ sym (t.of_group e)
words-tree s word all t (join b e e2) h =
    all_then word (postfix e ++ postfix e2) (byte_word b) (t.at_byte b (small operators-small (operator b h.0))) ∙ all_append word (postfix e) (postfix e2) ∙ rw (words-tree s word all t e h.1, words-tree s word all t e2 h.2) (sym (t.of_join b e e2))

-- ---- widths of at most 16
-- a bit cut at 16 is below such a width where the bit is
cut-bit : (i w : ℕ) → w ≤ 16 → ltb (min i 16) w ≡ ltb i w
cut-bit i w h = go (dec_lt i w)
  where
    go : Dec (i < w) → ltb (min i 16) w ≡ ltb i w
    go (yes l) = lt-ltb (min i 16) w (omega arith) ∙ sym (lt-ltb i w l)
    go (no l) = le-ltb (min i 16) w (omega arith) ∙ sym (le-ltb i w (omega arith))

pub found_narrow : (n : Bytes) (ns : List Declared) → EachNarrow ns → (width_in (look_up_name n ns)) ≤ 16
unfolding look_up_name
found_narrow n [] h = omega arith
found_narrow n (d ∷ ds) h = go (same n d.name) refl (found_narrow n ds h.1)
  where
    go : (t : Bool) → same n d.name ≡ t → (width_in (look_up_name n ds)) ≤ 16 → (width_in (look_up_name n (d ∷ ds))) ≤ 16
    go true e i = rw (e, look_up_name) h.0
    go false e i = rw (e, look_up_name) i

-- a name that is not found has no width, so what a width passes, and 0 does not, tells that it is found
found_too : (test : ℕ → Bool) (f : Option FoundName) → test 0 ≡ false → test (width_in f) ≡ pick (is_some f) (test (width_in f)) false
found_too test None z = z
found_too test (Some f) z = refl

-- what two formulas pass by both tests, each passes by both
both_pass : (k f k2 f2 : Bool) → pick (pick k k2 false) (pick f f2 false) false ≡ pick (pick k f false) (pick k2 f2 false) false
both_pass true true k2 f2 = refl
both_pass true false true f2 = refl
both_pass true false false f2 = refl
both_pass false f k2 f2 = refl

module _ (ns : List Declared) (s : Bytes) where
  -- ---- names and widths of a tree's words
  found_name : (p n : ℕ) {w : ℕ} → NameIn s p n → w ≡ name_word p n → name_found ns s w ≡ found_at ns s p n
  found_name p n i e = rw (e, name-place p n i.short, name-length p n i.short)

  module _ (short : length s ≤ 255) where
    word_small : (p n : ℕ) → NameIn s p n → name_word p n < 4096
    word_small p n i = name_word-small s p n short i

    found-alone : (p n : ℕ) → NameIn s p n → name_found ns s (name_word p n % 4096) ≡ found_at ns s p n
    found-alone p n i = let e : name_word p n % 4096 ≡ name_word p n = omega (arith, word_small p n i) in found_name p n i e

    found-bit : (p n k : ℕ) → NameIn s p n → name_found ns s (bit_word p n k % 4096) ≡ found_at ns s p n
    found-bit p n k i = found_name p n i (bit_word-name p n k (word_small p n i))

    found_left : (p n q m : ℕ) → NameIn s p n → NameIn s q m → name_found ns s ((alike_word p n q m - 16777216) / 4096) ≡ found_at ns s p n
    found_left p n q m i k = found_name p n i (alike_word-left p n q m (word_small p n i) (word_small q m k))

    found_right : (p n q m : ℕ) → NameIn s p n → NameIn s q m → name_found ns s (alike_word p n q m % 4096) ≡ found_at ns s q m
    found_right p n q m i k = found_name q m k (alike_word-right p n q m (word_small p n i) (word_small q m k))

    tests-known : Tests s (word_known ns s) (known ns s)
    unfolding known
    tests-known =
        record {
          at_name = λ p n i. known-name ns s (name_word p n) (word_small p n i) ∙ ap (λ (f : Option FoundName). is_some f) (found-alone p n i);
          at-bit = λ p n k i.
              known-bit ns s (bit_word p n k) (bit_word-large p n k) (bit_word-small p n k (word_small p n i)) ∙ ap (λ (f : Option FoundName). is_some f) (found-bit p n k i);
          at-alike = λ p n q m i k.
              known_alike ns s (alike_word p n q m) (alike_word-large p n q m) ∙ rw (found_left p n q m i k, found_right p n q m i k) (pick-and (is_some (found_at ns s p n)) (is_some (found_at ns s q m)));
          at_byte = λ b h. known-byte ns s (byte_word b) (byte_word-large b) (byte_word-small b h);
          of_bit = λ b. refl;
          of_not = λ e. refl;
          of_group = λ e. refl;
          of_join = λ b e e2. refl;
        }

    tests-fits : EachNarrow ns → Tests s (word_fits ns s) (λ e. pick (known ns s e) (fits ns s e) false)
    unfolding known fits
    tests-fits narrow =
        record {
          at_name = λ p n i. fits-name ns s (name_word p n) (word_small p n i) ∙ rw (found-alone p n i) (found_too (λ w. eqb w 1) (found_at ns s p n) refl);
          at-bit = λ p n k i.
              fits-bit ns s (bit_word p n k) (bit_word-large p n k) (bit_word-small p n k (word_small p n i)) ∙ rw (found-bit p n k i, bit_word-bit p n k (word_small p n i)) (cut-bit k (width_in (found_at ns s p n)) (found_narrow (take n (drop p s)) ns narrow)) ∙ found_too (λ w. ltb k w) (found_at ns s p n) (le-ltb k 0 (omega arith));
          at-alike = λ p n q m i k. fits-alike ns s (alike_word p n q m) (alike_word-large p n q m) ∙ rw (found_left p n q m i k, found_right p n q m i k);
          at_byte = λ b h. fits_byte ns s (byte_word b) (byte_word-large b) (byte_word-small b h);
          of_bit = λ b. refl;
          of_not = λ e. refl;
          of_group = λ e. refl;
          of_join = λ b e e2. both_pass (known ns s e) (fits ns s e) (known ns s e2) (fits ns s e2);
        }

  -- ---- a field as the formula's reader answers it
  -- a formula: its depth, its words, its names, their widths
  pub record Formed (f : Formula) : Type 0 where
    pub depth : 16 < f.depth → Err TooDeep ≡ judged_formula ns s
    pub few : f.count ≤ 255
    pub fine : true ≡ all_words (word_fits ns s) (take f.count f.words) → f.depth ≤ 16 → EachNarrow ns → (Ok tt) ≡ judged_formula ns s
    pub widths : false ≡ all_words (word_fits ns s) (take f.count f.words) → true ≡ all_words (word_known ns s) (take f.count f.words) → f.depth ≤ 16 → EachNarrow ns → Err WrongWidth ≡ judged_formula ns s
    pub unknown : false ≡ all_words (word_known ns s) (take f.count f.words) → f.depth ≤ 16 → Err UnknownName ≡ judged_formula ns s

  module _ (x : Tree) (e : tree_of s ≡ tree x) where
    of_words : {t : Bool} (word : ℕ → Bool) (all : Tree → Bool) → Tests s word all → t ≡ all_words word (take (length (postfix x)) (padded (postfix x))) → all x ≡ t
    unfolding padded
    of_words word all i k =
        rw (k, take-append_seam (postfix x) (replicate (255 - length (postfix x)) 0)) (sym (words-tree s word all i x (in_field s x e)))

    of_tree : Formed (record { depth = depth_of x; count = length (postfix x); words = padded (postfix x) })
    unfolding judged_tree padded
    of_tree =
        let short = field-short s x e in
        record {
          depth = λ l. rw (e, lt-ltb 16 (depth_of x) l);
          few = words-few s x e;
          fine = λ q l narrow.
              let b = pick-both (known ns s x) (fits ns s x) (of_words (word_fits ns s) (λ e. pick (known ns s e) (fits ns s e) false) (tests-fits short narrow) q) in
              rw (e, le-ltb 16 (depth_of x) l, b.0, b.1);
          widths = λ q k l narrow.
              let a = of_words (word_known ns s) (known ns s) (tests-known short) k in
              let b : fits ns s x ≡ false = rw a at (of_words (word_fits ns s) (λ e. pick (known ns s e) (fits ns s e) false) (tests-fits short narrow) q) in
              rw (e, le-ltb 16 (depth_of x) l, a, b);
          unknown = λ k l. rw (e, le-ltb 16 (depth_of x) l, of_words (word_known ns s) (known ns s) (tests-known short) k);
        }

  formed : (t : Parsed) → tree_of s ≡ t → {f : Formula} → Some f ≡ answer_of t → Formed f
  unfolding answer_of
  formed none q e = let z : ◌≡◌ {A = ℕ} 0 1 = cc in absurd (omega arith)
  formed (tree x) q {f} e =
      let is : f ≡ record { depth = depth_of x; count = length (postfix x); words = padded (postfix x) } = cc in
      subst Formed (sym is) (of_tree x q)

  unformed : (t : Parsed) → None ≡ answer_of t → Err NotFormula ≡ judged_tree ns s t
  unfolding answer_of judged_tree
  unformed none e = refl
  unformed (tree x) e = let z : ◌≡◌ {A = ℕ} 0 1 = cc in absurd (omega arith)

  module _ {o : Option Formula} (h : o ≡ formula_of s) where
    pub judge_unformed : o ≡ None → Err NotFormula ≡ judged_formula ns s
    unfolding formula_of
    judge_unformed k = unformed (tree_of s) (sym k ∙ h)

    pub judge_formed : {f : Formula} → o ≡ Some f → Formed f
    unfolding formula_of
    judge_formed k = formed (tree_of s) refl (sym k ∙ h)
