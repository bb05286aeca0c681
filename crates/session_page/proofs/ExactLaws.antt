-- The clause `lays` leaves nothing open: whatever answer and buffer it holds of are those that the definition gives.
-- Assumes nothing.
use Rattle.std.specs.Prelude.{Result, Ok}
use mathlib.Core.Path.{◌≡◌, refl, ap, subst, ◌∙◌}
use mathlib.Core.Bool.{Bool, true, false, ◌&&◌}
use mathlib.Core.List.{List}
use Prim.Native.Nat.{ℕ, ◌+◌, ◌*◌, ◌/◌, ◌≤◌}
use native.Mathlib.Omega.{arith}
use borrow.Author.Tests.{lt-ltb, le-ltb}
use lib.ListN.{length}
use Rattle.text.proofs.NumberLaws.{and_both}
use Rattle.trace.specs.Verdicts.{all_bits}
use Rattle.session_text.specs.Pages.{rejected_of, session_page}
use Rattle.session_text.specs.Claims.{Printable, InColumns}
use Rattle.session_text.proofs.RejectedLaws.{rejected-are}
use Rattle.session_text.proofs.PageLaws.{page-length, in_columns}
use Rattle.session_text.proofs.ExactLaws.{one_list, one-page}
use Rattle.session_page.specs.declared.Cause.{Cause}
use Rattle.session_page.specs.LayOut.{is_graph_name, is_printable, laid_end, lay_out_of}
use Rattle.session_page.specs.Claims.{LaysOut, RefusedFor}
use Rattle.session_page.specs.Claims.LaysOut.{too_many, not_printable, short, laid_out}
use Rattle.session_page.proofs.PrintableLaws.{printable, is_graph_name_lem, bits_are}

module _ (name v : List ℕ) where
  printable_is : Printable name v → is_printable name v ≡ true
  unfolding is_printable
  printable_is p = rw (is_graph_name_lem name p.named, bits_are name v p)

  not_printable_is : (Printable name v → ⊥) → is_printable name v ≡ false
  unfolding is_printable
  not_printable_is d = go (is_printable name v) refl
    where
      go : (b : Bool) → (is_graph_name name && all_bits v) ≡ b → b ≡ false
      go true e = let w = and_both (is_graph_name name) (all_bits v) e in absurd (d (printable name v w.0 w.1))
      go false e = refl

  pub lays_exact : (before after : List ℕ) (answer : Result ℕ Cause) → LaysOut name v before after (RefusedFor answer) (λ n. answer ≡ Ok n)
      → laid_end answer after ≡ lay_out_of name v before
  unfolding lay_out_of
  lays_exact before after answer (too_many r same many) = rw (r.0, same, lt-ltb 524288 (length v) many)
  lays_exact before after answer (not_printable r same few d) = rw (r.0, same, le-ltb 524288 (length v) few, not_printable_is d)
  lays_exact before after answer (short rejected r same few p are long) =
      let one : rejected_of v ≡ rejected = one_list (rejected-are v) are in
      let size : length (session_page name v) ≡ 81 * (2 + (length rejected + 9) / 10) = page-length name v p.named.most few ∙ ap (λ (s : List ℕ). 81 * (2 + (length s + 9) / 10)) one in
      rw (r.0, same, le-ltb 524288 (length v) few, printable_is p, lt-ltb (length before) (length (session_page name v)) (omega (arith, size, long)))
  lays_exact before after answer (laid_out rejected page g left few p are columns room) =
      let one : rejected_of v ≡ rejected = one_list (rejected-are v) are in
      let same : page ≡ session_page name v = one-page columns (subst (λ (s : List ℕ). InColumns name v s (session_page name v)) one (in_columns name v p.named.most few)) in
      let fits : length (session_page name v) ≤ length before = omega (arith, room, ap length same) in
      rw (g, left, same, le-ltb 524288 (length v) few, printable_is p, le-ltb (length before) (length (session_page name v)) fits)
