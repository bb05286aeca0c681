-- `class_of` meets its contract, by one test of the whole table. Assumes nothing.
use mathlib.Core.Path.{◌≡◌, refl, sym, ap, ◌∙◌}
use mathlib.Core.List.{List, [], ◌∷◌, ◌++◌}
use mathlib.Core.Bool.{Bool, true, false}
use Prim.Native.Nat.{ℕ, ◌<◌}
use lib.Dec.{T, eqb}
use lib.ListN.{get_or, replicate}
use borrow.Author.Tests.{eqb-true}
use Rattle.formula.specs.Classes.{pick, class_of}
use Rattle.formula.specs.declared.Class.{Class}
use Rattle.formula.specs.declared.Class.TheVariants.{Other, Letter, Digit, Underscore, Operator, Opening, Closing, OpeningSquare, ClosingSquare, Tab, Lf}
use Rattle.formula.proofs.Table.{at}
use borrow.Author.Rules.{rules}
use Rattle.formula.proofs.classes.class_of.Goals as goal

number_of : Class → ℕ
number_of Other = 0
number_of Letter = 1
number_of Digit = 2
number_of Underscore = 3
number_of Operator = 4
number_of Opening = 5
number_of Closing = 6
number_of OpeningSquare = 9
number_of ClosingSquare = 10
number_of Tab = 7
number_of Lf = 8

-- the classes by their numbers
class_at : ℕ → Class
class_at n =
    pick (eqb n 1) Letter
    (pick (eqb n 2) Digit
    (pick (eqb n 3) Underscore
    (pick (eqb n 4) Operator
    (pick (eqb n 5) Opening
    (pick (eqb n 6) Closing
    (pick (eqb n 9) OpeningSquare
    (pick (eqb n 10) ClosingSquare
    (pick (eqb n 7) Tab
    (pick (eqb n 8) Lf Other)))))))))

back : (c : Class) → class_at (number_of c) ≡ c
unfolding number_of class_at
back Other = refl
back Letter = refl
back Digit = refl
back Underscore = refl
back Operator = refl
back Opening = refl
back Closing = refl
back OpeningSquare = refl
back ClosingSquare = refl
back Tab = refl
back Lf = refl

same : (x y : Class) → eqb (number_of x) (number_of y) ≡ true → x ≡ y
same x y h = sym (back x) ∙ ap class_at (eqb-true (number_of x) (number_of y) h) ∙ back y

abbrev of : ℕ → Class → List Class
of n x = replicate n x

-- the table
abbrev classes : List Class
classes =
    of 9 Other ++ (Tab ∷ Lf ∷ []) ++ of 22 Other ++ (Operator ∷ []) ++ of 4 Other ++ (Operator ∷ Other ∷ Opening ∷ Closing ∷ []) ++ of 6 Other ++ of 10 Digit ++ of 3 Other ++ (Operator ∷ []) ++ of 3 Other
    ++ of 26 Letter ++ (OpeningSquare ∷ Other ∷ ClosingSquare ∷ Operator ∷ Underscore ∷ Other ∷ []) ++ of 26 Letter ++ (Other ∷ Operator ∷ []) ++ of 131 Other

right : ℕ → Class → Bool
unfolding class_of number_of
right k x = eqb (number_of x) (number_of (class_of k))

holds : (t : Bool) → T t → t ≡ true
holds true h = refl
holds false h = absurd h

entry : (b : ℕ) → b < 256 → get_or classes b Other ≡ class_of b
unfolding right class_of number_of
entry b h = same (get_or classes b Other) (class_of b) (holds _ (at right Other classes tt b h))

pub returns : goal.returns
returns c = entry _ (search rules)
