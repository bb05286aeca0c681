-- A number that has few enough digits is a field of its width, and the field tells the number; a text of bytes that are
-- not blank is told by its field. Assumes nothing.
use mathlib.Core.Path.{◌≡◌, refl, sym, ap, ap₂, subst, ◌∙◌}
use mathlib.Core.List.{List, [], ◌∷◌, ◌++◌, append_assoc}
use Prim.Native.Nat.{ℕ, zero, suc, ◌+◌, ◌-◌, ◌*◌, ◌/◌, ◌%◌, ◌^◌, ◌<◌, ◌≤◌}
use native.Mathlib.Nat.{pow-succ', pow-zero}
use native.Mathlib.Omega.{arith}
use lib.ListN.{length, length-append, length-replicate}
use Rattle.text.specs.Numbers.{digits, value_from}
use Rattle.text.proofs.NumberLaws.{tens, digits-small, digits_more, digits_ind, digits-length, digits-some, digit_range, EachDigit, each-digits, value-digits}
use Rattle.session_text.specs.Fields.{blanks, left, right, row}
use Rattle.session_text.specs.Claims.{Decimal, Left, Right, Widths, rest_blank}
use Rattle.session_text.specs.Claims.Decimal.{one, more}

abbrev heads : List ℕ → ℕ
heads [] = 0
heads (x ∷ xs) = x

abbrev tails : List ℕ → List ℕ
tails [] = []
tails (x ∷ xs) = xs

-- ---- how many digits a number has
tens_power : (k : ℕ) → tens k ≡ 10 ^ k
tens_power zero = sym (pow-zero 10)
tens_power (suc k) = let e = tens_power k in omega (arith, e, pow-succ' 10 k)

pub digits_fit : (width n : ℕ) → 1 ≤ width → n < 10 ^ width → length (digits n) ≤ width
digits_fit zero n some h = absurd (omega arith)
digits_fit (suc k) n some h = digits-length k n (omega (arith, h, tens_power (suc k)))

-- ---- a number's field
right-length : (width n : ℕ) → length (digits n) ≤ width → length (right width n) ≡ width
unfolding right
right-length width n h =
    omega (arith, length-append (blanks (width - length (digits n))) (digits n), length-replicate {A = ℕ} (width - length (digits n)) 32)

-- digits are a number in base ten, and no other bytes are
pub decimal : (n : ℕ) → Decimal n (digits n)
decimal =
    digits_ind (λ n. Decimal n (digits n)) (λ n h. let e : 48 + n % 10 ≡ 48 + n = omega arith in rw (digits-small n h, e) (one n h))
    (λ n h ih.
    let e : 10 * (n / 10) + n % 10 ≡ n = omega arith in
    rw (digits_more n h) (subst (λ (m : ℕ). Decimal m (digits (n / 10) ++ ((48 + n % 10) ∷ []))) e (more (n / 10) (n % 10) (digits (n / 10)) ih (omega arith) (omega arith))))

decimal-digits : {n : ℕ} {s : List ℕ} → Decimal n s → s ≡ digits n
decimal-digits (one n h) = let e : 48 + n ≡ 48 + n % 10 = omega arith in ap (λ (b : ℕ). b ∷ []) e ∙ sym (digits-small n h)
decimal-digits (more tens last front d some small) =
    let n = 10 * tens + last in
    let q : n / 10 ≡ tens = omega arith in
    let r : n % 10 ≡ last = omega arith in
    ap₂ (λ (t : List ℕ) (b : ℕ). t ++ ((48 + b) ∷ [])) (decimal-digits d ∙ ap digits (sym q)) (sym r) ∙ sym (digits_more n (omega arith))

pub right-digits : {width n : ℕ} {field : List ℕ} (p : Right width n field) → field ≡ blanks p.blanks ++ digits n
right-digits {width} {n} {field} p = p.filled ∙ ap (λ (s : List ℕ). blanks p.blanks ++ s) (decimal-digits p.decimal)

pub right_is : (width n : ℕ) → length (digits n) ≤ width → Right width n (right width n)
unfolding right
right_is width n h = record { blanks = width - length (digits n); digits = digits n; decimal = decimal n; filled = refl; wide = right-length width n h }

-- digits begin with a byte that is no blank
record Begins (s : List ℕ) : Type 0 where
  byte : ℕ
  more : List ℕ
  is : s ≡ byte ∷ more
  not_blank : byte ≡ 32 → ⊥

begins : (n : ℕ) → Begins (digits n)
unfolding EachDigit
begins n = go (digits n) (digits-some n) (each-digits n)
  where
    go : (s : List ℕ) → 0 < length s → EachDigit s → Begins s
    go [] some e = absurd (omega arith)
    go (b ∷ s) some e = record { byte = b; more = s; is = refl; not_blank = λ z. omega (arith, digit_range b e.0) }

-- blanks before such a byte can be told from it
stripped : (i j b c : ℕ) (s t : List ℕ) → (b ≡ 32 → ⊥) → (c ≡ 32 → ⊥) → blanks i ++ (b ∷ s) ≡ blanks j ++ (c ∷ t) → b ∷ s ≡ c ∷ t
stripped zero zero b c s t x y e = e
stripped zero (suc j) b c s t x y e = absurd (x (ap heads e))
stripped (suc i) zero b c s t x y e = absurd (y (sym (ap heads e)))
stripped (suc i) (suc j) b c s t x y e = stripped i j b c s t x y (ap tails e)

digits-told : (m n : ℕ) → digits m ≡ digits n → m ≡ n
digits-told m n e = sym (value-digits m) ∙ ap (value_from 0) e ∙ value-digits n

number-told : (i j m n : ℕ) → blanks i ++ digits m ≡ blanks j ++ digits n → m ≡ n
number-told i j m n e =
    let a = begins m in
    let b = begins n in
    let q : blanks i ++ (a.byte ∷ a.more) ≡ blanks j ++ (b.byte ∷ b.more) = ap (λ (s : List ℕ). blanks i ++ s) (sym a.is) ∙ e ∙ ap (λ (s : List ℕ). blanks j ++ s) b.is in
    digits-told m n (a.is ∙ stripped i j a.byte b.byte a.more b.more a.not_blank b.not_blank q ∙ sym b.is)

-- one field is that of one number
pub right_tells : {width m n : ℕ} {field : List ℕ} → Right width m field → Right width n field → m ≡ n
right_tells {width} {m} {n} p q = number-told p.blanks q.blanks m n (sym (right-digits p) ∙ right-digits q)

-- THE STATEMENT OVER WIDTH AND DIGITS
pub widths : Widths
unfolding right
widths width n some h =
    record {
      field = right_is width n (digits_fit width n some h);
      told = λ m e. number-told (width - length (digits m)) (width - length (digits n)) m n e;
    }

-- ---- a text's field
pub left-length : (width : ℕ) (s : List ℕ) → length s ≤ width → length (left width s) ≡ width
unfolding left
left-length width s h = omega (arith, length-append s (blanks (width - length s)), length-replicate {A = ℕ} (width - length s) 32)

pub left_is : (width : ℕ) (s : List ℕ) → length s ≤ width → Left width s (left width s)
unfolding left
left_is width s h = record { blanks = width - length s; filled = refl; wide = left-length width s h }

-- no byte is blank
unfoldable pub Unblank : List ℕ → Type 0
Unblank [] = Unit {0}
Unblank (b ∷ s) = (b ≡ 32 → ⊥) × Unblank s

trimmed : (i j : ℕ) (s t : List ℕ) → Unblank s → Unblank t → s ++ blanks i ≡ t ++ blanks j → s ≡ t
unfolding Unblank
trimmed i j [] [] x y e = refl
trimmed zero j [] (c ∷ t) x y e = absurd (let l : 0 ≡ suc (length (t ++ blanks j)) = ap length e in omega arith)
trimmed (suc i) j [] (c ∷ t) x y e = absurd (y.0 (sym (ap heads e)))
trimmed i zero (b ∷ s) [] x y e = absurd (let l : suc (length (s ++ blanks i)) ≡ 0 = ap length e in omega arith)
trimmed i (suc j) (b ∷ s) [] x y e = absurd (x.0 (ap heads e))
trimmed i j (b ∷ s) (c ∷ t) x y e = ap₂ ◌∷◌ (ap heads e) (trimmed i j s t x.1 y.1 (ap tails e))

pub left_tells : {width : ℕ} {s t field : List ℕ} → Unblank s → Unblank t → Left width s field → Left width t field → s ≡ t
left_tells {width} {s} {t} x y p q = trimmed p.blanks q.blanks s t x y (sym p.filled ∙ q.filled)

-- ---- a line of which so many bytes are given
pub row_is : (s : List ℕ) (k : ℕ) → length s ≡ k → row s ≡ s ++ rest_blank k
unfolding row left
row_is s k e = append_assoc s (blanks (80 - length s)) (10 ∷ []) ∙ ap (λ (n : ℕ). s ++ (blanks (80 - n) ++ (10 ∷ []))) e
