-- What lay_out answers and leaves at each of its ends, and that it is what its contract claims. Assumes nothing.
use Rattle.std.specs.Prelude.{Some, None, Result, Ok, Err}
use mathlib.Core.Path.{◌≡◌, refl, sym, ap, subst, ◌∙◌}
use mathlib.Core.Bool.{Bool, true, false, cond, and-false}
use mathlib.Core.List.{List, ◌++◌}
use Prim.Native.Nat.{ℕ, ◌+◌, ◌*◌, ◌/◌, ◌<◌, ◌≤◌}
use native.Mathlib.Nat.{zero-add}
use native.Mathlib.Omega.{arith}
use borrow.Author.Tests.{lt-ltb, le-ltb}
use lib.ListN.{length, take, drop}
use lib.Seq.{take_at}
use Rattle.text.specs.Writer.{top, Wrote}
use Rattle.text.proofs.WriterLaws.{fits}
use Rattle.trace.specs.Verdicts.{all_bits}
use Rattle.session_text.specs.Pages.{rejected_of, session_page}
use Rattle.session_text.specs.Claims.{Printable, Tells, Widths}
use Rattle.session_text.proofs.FieldLaws.{widths}
use Rattle.session_text.proofs.RejectedLaws.{rejected-are}
use Rattle.session_text.proofs.PageLaws.{page-length, in_columns}
use Rattle.session_text.proofs.TellLaws.{page_tells}
use Rattle.session_page.specs.declared.Cause.{Cause}
use Rattle.session_page.specs.declared.Cause.TheVariants.{TooManyCycles, ShortBuffer, NotPrintable}
use Rattle.session_page.specs.LayOut.{refusal_of, is_graph_name, is_printable, laid_end, lay_out_of}
use Rattle.session_page.specs.Claims.{LaysOut, RefusedFor, GivenTells}
use Rattle.session_page.specs.Claims.LaysOut.{too_many, not_printable, short, laid_out}
use Rattle.session_page.specs.Private.Writers.{count_of}
use Rattle.session_page.proofs.PrintableLaws.{printable, not_named, not-bits}

-- ---- what the count tells
pub record Counted (v : List ℕ) (n : ℕ) : Type 0 where
  pub bits : all_bits v ≡ true
  pub all : n ≡ length (rejected_of v)

pub counted-bits : (v : List ℕ) {n : ℕ} → count_of v ≡ Some n → Counted v n
unfolding count_of
counted-bits v {n} = go (all_bits v) refl
  where
    go : (b : Bool) → all_bits v ≡ b → cond b (Some (length (rejected_of v))) None ≡ Some n → Counted v n
    go true e h = record { bits = e; all = cc }
    go false e h = let z : ◌≡◌ {A = ℕ} 0 1 = cc in absurd (omega arith)

not-counted : (v : List ℕ) → count_of v ≡ None → all_bits v ≡ false
unfolding count_of
not-counted v = go (all_bits v)
  where
    go : (b : Bool) → cond b (Some (length (rejected_of v))) None ≡ None → b ≡ false
    go true h = let z : ◌≡◌ {A = ℕ} 0 1 = cc in absurd (omega arith)
    go false h = refl

-- ---- the ends
module _ (name v before : List ℕ) where
  -- what lay_out promises of an answer and what it leaves
  abbrev Ends : Result ℕ Cause → List ℕ → Type 0
  Ends r after =
      (laid_end r after ≡ lay_out_of name v before)
      × (LaysOut name v before after (RefusedFor r) (λ n. r ≡ Ok n) × (GivenTells name v after (λ n. r ≡ Ok n) × Widths))

  given-none : (cause : Cause) (after : List ℕ) → GivenTells name v after (λ n. Err cause ≡ Ok n)
  given-none cause after n e = let z : ◌≡◌ {A = ℕ} 0 1 = cc in absurd (omega arith)

  pub ends_many : 524288 < length v → Ends (Err TooManyCycles) before
  unfolding lay_out_of refusal_of
  ends_many h = (rw (lt-ltb 524288 (length v) h), (too_many (refl, refl) refl h, (given-none TooManyCycles before, widths)))

  module _ (few : length v ≤ 524288) where
    unprintable : is_printable name v ≡ false → (Printable name v → ⊥) → Ends (Err NotPrintable) before
    unfolding lay_out_of refusal_of
    unprintable e d = (rw (le-ltb 524288 (length v) few, e), (not_printable (refl, refl) refl few d, (given-none NotPrintable before, widths)))

    pub ends_unnamed : is_graph_name name ≡ false → Ends (Err NotPrintable) before
    unfolding is_printable
    ends_unnamed e = unprintable (rw e) (not_named name v e)

    pub ends_uncounted : count_of v ≡ None → Ends (Err NotPrintable) before
    unfolding is_printable
    ends_uncounted h = let e = not-counted v h in unprintable (rw e (and-false (is_graph_name name))) (not-bits name v e)

    module _ {rejected : ℕ} (named : is_graph_name name ≡ true) (h : count_of v ≡ Some rejected) where
      pub may_print : Printable name v
      may_print = printable name v named (counted-bits v h).bits

      passes : is_printable name v ≡ true
      unfolding is_printable
      passes = rw (named, (counted-bits v h).bits)

      abbrev text : List ℕ
      text = session_page name v

      long : length text ≡ 81 * (2 + (length (rejected_of v) + 9) / 10)
      long = page-length name v may_print.named.most few

      counted-long : length text ≡ 81 * (2 + (rejected + 9) / 10)
      counted-long = long ∙ ap (λ (n : ℕ). 81 * (2 + (n + 9) / 10)) (sym (counted-bits v h).all)

      pub ends-short : length before < 81 * (2 + (rejected + 9) / 10) → Ends (Err ShortBuffer) before
      unfolding lay_out_of refusal_of
      ends-short l = (
        rw (le-ltb 524288 (length v) few, passes, lt-ltb (length before) (length text) (omega (arith, counted-long, l))),
        (
          short (rejected_of v) (refl, refl) refl few may_print (rejected-are v) (omega (arith, counted-long, long, l)),
          (given-none ShortBuffer before, widths),
        ),
      )

      pub ends_laid : {end : ℕ} {after : List ℕ} → length before < top → 81 * (2 + (rejected + 9) / 10) ≤ length before → Wrote before after 0 end text → Ends (Ok end) after
      unfolding lay_out_of
      ends_laid {end} {after} small l w =
          let room : length text ≤ length before = omega (arith, counted-long, l) in
          let e : end ≡ length text = omega (arith, w.place, small) in
          let f : after ≡ text ++ drop (length text) before = rw zero-add at (fits w (rw zero-add room)) in (
            rw (le-ltb 524288 (length v) few, passes, le-ltb (length before) (length text) room, e, f),
            (
              laid_out (rejected_of v) text (ap Ok e) f few may_print (rejected-are v) (in_columns name v may_print.named.most few) room,
              (
                (λ n g.
                    let same : n ≡ length text = cc in
                    subst (Tells name v) (sym (ap (λ (m : ℕ). take m after) same ∙ ap (take (length text)) f ∙ take_at text (drop (length text) before) (length text) refl))
                    (page_tells name v few may_print)),
                widths,
              ),
            ),
          )
