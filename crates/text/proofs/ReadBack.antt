-- A number that was written is read back. Assumes nothing.
use mathlib.Core.Path.{◌≡◌, refl, ap}
use mathlib.Core.List.{List, [], ◌∷◌, ◌++◌}
use mathlib.Core.Bool.{Bool, true, false, not, ◌||◌}
use Prim.Native.Nat.{ℕ, ◌+◌, ◌<◌}
use native.Mathlib.Omega.{arith}
use native.Mathlib.Decide.{dec_lt}
use borrow.Author.Tests.{le-leb, ne_eqb}
use lib.Dec.{eqb}
use lib.ListN.{length, get_or}
use lib.Seq.{drop-append_seam}
use Rattle.std.specs.Prelude.{Some}
use Rattle.text.specs.Numbers.{digits, is_digit, leading_digits, is_numeral, read_number, ReadsBack}
use Rattle.text.proofs.NumberLaws.{digits-small, digits-length, digits-some, digits_lead, EachDigit, each-digits, leading_stop, value-digits}

leading_append : (ds post : List ℕ) → EachDigit ds → is_digit (get_or post 0 0) ≡ false → leading_digits (ds ++ post) ≡ ds
unfolding leading_digits EachDigit
leading_append [] post e stop = leading_stop post 0 stop
leading_append (d ∷ ds) post e stop = rw (e.0, leading_digits) (ap (λ (l : List ℕ). d ∷ l) (leading_append ds post e.1 stop))

or_right : (a : Bool) → (a || true) ≡ true
or_right true = refl
or_right false = refl

numeral_digits : (n : ℕ) → n < 100000 → is_numeral (digits n) ≡ true
unfolding is_numeral
numeral_digits n h =
    rw (le-leb 1 (length (digits n)) (digits-some n), le-leb (length (digits n)) 5 (digits-length 4 n h)) (go (dec_lt n 10))
  where
    go : Dec (n < 10) → (eqb (length (digits n)) 1 || not (eqb (get_or (digits n) 0 0) 48)) ≡ true
    go (yes l) = rw (digits-small n l)
    go (no l) = rw (ne_eqb (get_or (digits n) 0 0) 48 (digits_lead n (omega arith))) (or_right (eqb (length (digits n)) 1))

-- a number of up to five digits, written where no digit follows
pub reads-digits : (n : ℕ) (pre post : List ℕ) → n < 100000 → is_digit (get_or post 0 0) ≡ false → read_number (pre ++ (digits n ++ post)) (length pre) ≡ Some (n, length pre + length (digits n))
unfolding read_number
reads-digits n pre post h stop =
    rw (drop-append_seam pre (digits n ++ post), leading_append (digits n) post (each-digits n) stop, numeral_digits n h, value-digits n)

pub reads-back : ReadsBack
reads-back = record { reads = λ n pre post h stop. reads-digits n pre post (omega arith) stop }
