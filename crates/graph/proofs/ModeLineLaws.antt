-- Laws of `M` lines: what record such a line is, and which lines are such records. Byte 77 is `M`, 9 a tab, 10
-- LF. Assumes nothing.
use Prim.Native.Nat.{ℕ}
use mathlib.Core.Path.{◌≡◌, refl, subst, ◌∙◌}
use mathlib.Core.Bool.{Bool, true, false}
use mathlib.Core.List.{List, [], ◌∷◌}
use native.Mathlib.Omega.{arith}
use lib.Dec.{eqb}
use Rattle.text.specs.Quoted.{bytes}
use Rattle.formula.specs.Classes.{pick, is_name}
use Rattle.assertion.specs.Graph.{Bytes}
use Rattle.assertion.specs.declared.Mode.{Mode}
use Rattle.assertion.specs.declared.Mode.TheVariants.{Terminal, Strong}
use Rattle.graph.specs.Pieces.{onto, split, same}
use Rattle.graph.specs.Records.{Record, shapeless, mode, signal, constant, vertex, edge, moded, width_of, sized, named, marked, edged, of_fields, record_of}
use Rattle.graph.specs.Reading.{mode_lines}
use Rattle.graph.specs.ModeClaims.{ModeWord}
use Rattle.graph.specs.ModeClaims.ModeWord.{terminal, strong}
use Rattle.graph.proofs.SplitLaws.{two_pieces, one_piece, same_equal}

-- ---- which lines are `M` records
-- if the record is a mode, then the fields are `M` and its word
From : List Bytes → Record → Type 0
From fs shapeless = Unit {0}
From fs (mode m) = (word : Bytes) × (fs ≡ (77 ∷ []) ∷ word ∷ []) × ModeWord word m
From fs (signal n w) = Unit {0}
From fs (constant n w) = Unit {0}
From fs (vertex n) = Unit {0}
From fs (edge f t m a c) = Unit {0}

pick-from : (fs : List Bytes) (t : Bool) (x y : Record) → (t ≡ true → From fs x) → From fs y → From fs (pick t x y)
pick-from fs true x y h k = h refl
pick-from fs false x y h k = k

word-from : (k n : Bytes) → k ≡ 77 ∷ [] → From (k ∷ n ∷ []) (moded n)
unfolding From moded
word-from k n e =
    pick-from (k ∷ n ∷ []) (same n (bytes "terminal")) (mode Terminal) _
    (λ s. let w = same_equal n (bytes "terminal") s in (n, rw e, rw w terminal))
    (pick-from (k ∷ n ∷ []) (same n (bytes "strong")) (mode Strong) shapeless
    (λ s. let w = same_equal n (bytes "strong") s in (n, rw e, rw w strong)) tt)

sized-from : (fs : List Bytes) (k n : Bytes) (w : ℕ) → From fs (sized k n w)
unfolding From sized
sized-from fs k n w =
    pick-from fs (is_name n) _ shapeless
    (λ s. pick-from fs (eqb w 0) shapeless _ (λ u. tt)
    (pick-from fs (same k (83 ∷ [])) (signal n w) _ (λ u. tt) (pick-from fs (same k (75 ∷ [])) (constant n w) shapeless (λ u. tt) tt))) tt

named-from : (k n : Bytes) → From (k ∷ n ∷ []) (named k n)
unfolding From named
named-from k n =
    pick-from fs (same k (77 ∷ [])) (moded n) _ (λ s. word-from k n (same_equal k (77 ∷ []) s))
    (pick-from fs (same k (86 ∷ [])) _ (sized k n 1) (λ s. pick-from fs (is_name n) (vertex n) shapeless (λ u. tt) tt) (sized-from fs k n 1))
  where
    fs : List Bytes
    fs = k ∷ n ∷ []

edged-from : (fs : List Bytes) (k f t m a c : Bytes) → From fs (edged k f t m a c)
unfolding From edged marked
edged-from fs k f t m a c =
    pick-from fs (same k (69 ∷ [])) _ shapeless
    (λ s. pick-from fs (is_name f) _ shapeless
    (λ u. pick-from fs (is_name t) _ shapeless
    (λ v. pick-from fs (same m (116 ∷ [])) (edge f t true a c) _ (λ w. tt) (pick-from fs (same m (45 ∷ [])) (edge f t false a c) shapeless (λ w. tt) tt)) tt) tt) tt

fields-from : (fs : List Bytes) → From fs (of_fields fs)
unfolding From of_fields
fields-from [] = tt
fields-from (k ∷ []) = tt
fields-from (k ∷ n ∷ []) = named-from k n
fields-from (k ∷ n ∷ w ∷ []) = sized-from _ k n (width_of w)
fields-from (k ∷ f ∷ t ∷ m ∷ []) = tt
fields-from (k ∷ f ∷ t ∷ m ∷ a ∷ []) = tt
fields-from (k ∷ f ∷ t ∷ m ∷ a ∷ c ∷ []) = edged-from _ k f t m a c
fields-from (k ∷ f ∷ t ∷ m ∷ a ∷ c ∷ x ∷ xs) = tt

pub mode-from : (line : Bytes) {m : Mode} → record_of line ≡ mode m → (word : Bytes) × (line ≡ 77 ∷ 9 ∷ word) × ModeWord word m
unfolding From record_of
mode-from line {m} e =
    let w : From (split 9 line) (mode m) = subst (From (split 9 line)) e (fields-from (split 9 line)) in
    (w.0, two_pieces 9 line w.1, w.2)

-- an `M` line says a mode
pub word_said : {word : Bytes} {m : Mode} → ModeWord word m → mode_lines m ≡ 1
unfolding mode_lines
word_said terminal = refl
word_said strong = refl

pub mode_said : (line : Bytes) {m : Mode} → record_of line ≡ mode m → mode_lines m ≡ 1
mode_said line e = word_said (mode-from line e).2

-- ---- what record an `M` line is
line-fields : (word : Bytes) → record_of (77 ∷ 9 ∷ word) ≡ of_fields ((77 ∷ []) ∷ split 9 word)
unfolding record_of split onto
line-fields word = refl

pub line_said : {word : Bytes} {m : Mode} → ModeWord word m → record_of (77 ∷ 9 ∷ word) ≡ mode m
unfolding record_of split onto of_fields named moded same
line_said terminal = refl
line_said strong = refl

-- a word that is none
not-word : (word : Bytes) → ((m : Mode) → ModeWord word m → ⊥) → moded word ≡ shapeless
unfolding moded
not-word word h = by (same word (bytes "terminal")) (same word (bytes "strong")) refl refl
  where
    by : (a b : Bool) → same word (bytes "terminal") ≡ a → same word (bytes "strong") ≡ b → moded word ≡ shapeless
    by true b p q = absurd (h Terminal (rw (same_equal word (bytes "terminal") p) terminal))
    by false true p q = absurd (h Strong (rw (same_equal word (bytes "strong") q) strong))
    by false false p q = rw (moded, p, q)

-- two fields more: an `M` line has no width
no_size : (a b : Bool) → pick a (pick b shapeless shapeless) shapeless ≡ shapeless
no_size true true = refl
no_size true false = refl
no_size false b = refl

not-fields : (word : Bytes) (fs : List Bytes) → split 9 word ≡ fs → ((m : Mode) → ModeWord word m → ⊥) → of_fields ((77 ∷ []) ∷ fs) ≡ shapeless
unfolding of_fields named sized edged same
not-fields word [] e h = refl
not-fields word (x ∷ []) e h = rw (← one_piece 9 word e) (not-word word h)
not-fields word (x ∷ a ∷ []) e h = no_size (is_name x) (eqb (width_of a) 0)
not-fields word (x ∷ a ∷ b ∷ []) e h = refl
not-fields word (x ∷ a ∷ b ∷ c ∷ []) e h = refl
not-fields word (x ∷ a ∷ b ∷ c ∷ d ∷ []) e h = refl
not-fields word (x ∷ a ∷ b ∷ c ∷ d ∷ f ∷ fs) e h = refl

pub line-not : (word : Bytes) → ((m : Mode) → ModeWord word m → ⊥) → record_of (77 ∷ 9 ∷ word) ≡ shapeless
line-not word h = line-fields word ∙ not-fields word (split 9 word) refl h

-- a line that begins so is a mode or of no shape
pub data Line (line : Bytes) : Type 0 where
  good : (m : Mode) → record_of line ≡ mode m → Line line
  bad : record_of line ≡ shapeless → Line line

word_same : {word : Bytes} {m : Mode} → ModeWord word m → same word (bytes "terminal") ≡ false → same word (bytes "strong") ≡ false → ⊥
unfolding same
word_same terminal a b = let z : ◌≡◌ {A = ℕ} 0 1 = cc in omega arith
word_same strong a b = let z : ◌≡◌ {A = ℕ} 0 1 = cc in omega arith

pub good_or_bad : (word : Bytes) → Line (77 ∷ 9 ∷ word)
good_or_bad word = by (same word (bytes "terminal")) (same word (bytes "strong")) refl refl
  where
    by : (a b : Bool) → same word (bytes "terminal") ≡ a → same word (bytes "strong") ≡ b → Line (77 ∷ 9 ∷ word)
    by true b p q = good Terminal (rw (same_equal word (bytes "terminal") p) (line_said terminal))
    by false true p q = good Strong (rw (same_equal word (bytes "strong") q) (line_said strong))
    by false false p q = bad (line-not word (λ m w. word_same w p q))
