-- What stands in the columns of the last line. Assumes nothing.
use mathlib.Core.Path.{◌≡◌, refl, sym, ap, subst, ◌∙◌}
use mathlib.Core.List.{List, [], ◌++◌, append_assoc, append-nil}
use Prim.Native.Nat.{ℕ, ◌+◌, ◌*◌, ◌<◌, ◌≤◌}
use native.Mathlib.Omega.{arith}
use native.Mathlib.Decide.{dec_lt}
use lib.ListN.{length, length-append, length-replicate}
use Rattle.calls.specs.declared.tally.Tally.{Tally}
use Rattle.rate.specs.Rates.{per_million, rate_of}
use Rattle.rate.specs.Claims.{Division}
use Rattle.rate.proofs.RateLaws.{refused_none, rated, division}
use Rattle.session_text.specs.Fields.{blanks, right}
use Rattle.session_text.specs.Pages.{rate_fields, last_line}
use Rattle.session_text.specs.Claims.{Right, columns, rest_blank, LastLine}
use Rattle.session_text.proofs.FieldLaws.{widths, row_is}
use Rattle.session_text.proofs.PieceLaws.{piece_at_lem}

-- ---- the last line's rate
record RateFields (cycles rejected : ℕ) : Type 0 where
  whole : ℕ
  remainder : ℕ
  told : 0 < cycles → (rate_fields (rate_of (record { cycles = cycles; rejected = rejected; checked = 0 })) ≡ right 7 whole ++ right 10 remainder) × Division cycles rejected whole remainder
  none : cycles ≡ 0 → rate_fields (rate_of (record { cycles = cycles; rejected = rejected; checked = 0 })) ≡ blanks 17

rate_fields_lem : (cycles rejected : ℕ) → rejected ≤ cycles → RateFields cycles rejected
unfolding rate_fields
rate_fields_lem cycles rejected most =
    let t : Tally = record { cycles = cycles; rejected = rejected; checked = 0 } in
    record {
      whole = (per_million t).whole;
      remainder = (per_million t).remainder;
      told = λ some. (ap rate_fields (rated t some most), division t some most);
      none = λ e. ap rate_fields (refused_none t e);
    }

module _ (cycles rejected : ℕ) (few : cycles ≤ 524288) (most : rejected ≤ cycles) where
  abbrev rate : List ℕ
  rate = rate_fields (rate_of (record { cycles = cycles; rejected = rejected; checked = 0 }))

  whole-field : (some : 0 < cycles) → Right 7 (rate_fields_lem cycles rejected most).whole (right 7 (rate_fields_lem cycles rejected most).whole)
  whole-field some = (widths 7 (rate_fields_lem cycles rejected most).whole (omega arith) (omega (arith, ((rate_fields_lem cycles rejected most).told some).1.most))).field

  remainder-field : (some : 0 < cycles) → Right 10 (rate_fields_lem cycles rejected most).remainder (right 10 (rate_fields_lem cycles rejected most).remainder)
  remainder-field some =
      (widths 10 (rate_fields_lem cycles rejected most).remainder (omega arith) (omega (arith, ((rate_fields_lem cycles rejected most).told some).1.below))).field

  rate-length : length rate ≡ 17
  rate-length = go (dec_lt 0 cycles)
    where
      go : Dec (0 < cycles) → length rate ≡ 17
      go (yes some) =
          let f = rate_fields_lem cycles rejected most in
          omega (
            arith,
            ap length (f.told some).0,
            length-append (right 7 f.whole) (right 10 f.remainder),
            (whole-field some).wide,
            (remainder-field some).wide,
          )
      go (no none) =
          let e : cycles ≡ 0 = omega (arith, none) in
          omega (arith, ap length ((rate_fields_lem cycles rejected most).none e), length-replicate {A = ℕ} 17 32)

  count-field : Right 10 rejected (right 10 rejected)
  count-field = (widths 10 rejected (omega arith) (omega arith)).field

  -- the line as its fields
  pub last-is : last_line cycles rejected ≡ right 10 rejected ++ (rate ++ rest_blank 27)
  unfolding last_line
  last-is =
      row_is (right 10 rejected ++ rate) 27 (omega (arith, length-append (right 10 rejected) rate, count-field.wide, rate-length))
      ∙ append_assoc (right 10 rejected) rate (rest_blank 27)

  pub last-length : length (last_line cycles rejected) ≡ 81
  last-length =
      omega (
        arith,
        ap length last-is,
        length-append (right 10 rejected) (rate ++ rest_blank 27),
        length-append rate (rest_blank 27),
        count-field.wide,
        rate-length,
      )

  -- its columns, where it ends a page whose lines before it are these
  module _ (before : List ℕ) (line : ℕ) (lines : length before ≡ 81 * line) where
    abbrev page : List ℕ
    page = before ++ last_line cycles rejected

    apart : page ≡ before ++ (right 10 rejected ++ (rate ++ rest_blank 27))
    apart = ap (λ (s : List ℕ). before ++ s) last-is

    count_at : columns page line 0 10 ≡ right 10 rejected
    count_at =
        ap (λ (p : List ℕ). columns p line 0 10) apart
        ∙ piece_at_lem before (right 10 rejected) (rate ++ rest_blank 27) (81 * line + 0) 10 (omega (arith, lines)) count-field.wide

    -- what stands before the rate
    abbrev front : List ℕ
    front = before ++ right 10 rejected

    front_length : length front ≡ 81 * line + 10
    front_length = omega (arith, length-append before (right 10 rejected), lines, count-field.wide)

    from-rate : page ≡ front ++ (rate ++ rest_blank 27)
    from-rate = apart ∙ sym (append_assoc before (right 10 rejected) (rate ++ rest_blank 27))

    no_rate-at : cycles ≡ 0 → columns page line 10 17 ≡ blanks 17
    no_rate-at e =
        ap (λ (p : List ℕ). columns p line 10 17) from-rate
        ∙ piece_at_lem front rate (rest_blank 27) (81 * line + 10) 17 front_length rate-length
        ∙ (rate_fields_lem cycles rejected most).none e

    rest_at : columns page line 27 54 ≡ rest_blank 27
    rest_at =
        ap (λ (p : List ℕ). columns p line 27 54) (from-rate ∙ sym (append_assoc front rate (rest_blank 27)) ∙ ap (λ (s : List ℕ). (front ++ rate) ++ s) (sym (append-nil (rest_blank 27))))
        ∙ piece_at_lem (front ++ rate) (rest_blank 27) [] (81 * line + 27) 54 (omega (arith, length-append front rate, front_length, rate-length)) refl

    module _ (some : 0 < cycles) where
      abbrev whole : List ℕ
      whole = right 7 (rate_fields_lem cycles rejected most).whole

      abbrev remainder : List ℕ
      remainder = right 10 (rate_fields_lem cycles rejected most).remainder

      from-whole : page ≡ front ++ (whole ++ (remainder ++ rest_blank 27))
      from-whole =
          from-rate
          ∙ ap (λ (s : List ℕ). front ++ (s ++ rest_blank 27)) ((rate_fields_lem cycles rejected most).told some).0
          ∙ ap (λ (s : List ℕ). front ++ s) (append_assoc whole remainder (rest_blank 27))

      whole-at : columns page line 10 7 ≡ whole
      whole-at =
          ap (λ (p : List ℕ). columns p line 10 7) from-whole
          ∙ piece_at_lem front whole (remainder ++ rest_blank 27) (81 * line + 10) 7 front_length (whole-field some).wide

      remainder-at : columns page line 17 10 ≡ remainder
      remainder-at =
          ap (λ (p : List ℕ). columns p line 17 10) (from-whole ∙ sym (append_assoc front whole (remainder ++ rest_blank 27)))
          ∙ piece_at_lem (front ++ whole) remainder (rest_blank 27) (81 * line + 17) 10 (omega (arith, length-append front whole, front_length, (whole-field some).wide)) (remainder-field some).wide

    pub last-columns : LastLine cycles rejected page line
    last-columns =
        record {
          count = subst (Right 10 rejected) (sym count_at) count-field;
          whole = (rate_fields_lem cycles rejected most).whole;
          remainder = (rate_fields_lem cycles rejected most).remainder;
          division = λ some. ((rate_fields_lem cycles rejected most).told some).1;
          whole-field = λ some. subst (Right 7 (rate_fields_lem cycles rejected most).whole) (sym (whole-at some)) (whole-field some);
          remainder-field = λ some. subst (Right 10 (rate_fields_lem cycles rejected most).remainder) (sym (remainder-at some)) (remainder-field some);
          no_cycle = no_rate-at;
          rest = rest_at;
        }
