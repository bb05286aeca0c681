-- What a read answers and leaves in each of its three cases. Assumes nothing.
use Rattle.std.specs.Prelude.{Result, Ok, Err}
use mathlib.Core.Path.{◌≡◌, refl, ap, ◌∙◌}
use mathlib.Core.Bool.{Bool, true, false, cond, not}
use mathlib.Core.List.{List, ◌++◌}
use Prim.Native.Nat.{ℕ, ◌≤◌, ◌<◌}
use native.Mathlib.Omega.{arith}
use borrow.Author.Tests.{lt-leb, le-leb}
use lib.Dec.{leb}
use lib.ListN.{length, take, drop, length-append}
use lib.Seq.{take-append_seam}
use Rattle.netlist.specs.Layout.{size_of}
use Rattle.netlist.proofs.ValidLaws.{outline}
use Rattle.gate_order.specs.Loose.{is_loose}
use Rattle.gate_order.specs.Placing.{Placing, ordered, waiting, placing_of}
use Rattle.gate_order.proofs.LooseLaws.{loose_outline}
use Rattle.aiger_order.specs.declared.Unplaced.{Unplaced}
use Rattle.aiger_order.specs.Place.{PlaceEnd, place_end, place_as, place_of}
use Rattle.aiger_lines.specs.declared.Fault.{Fault}
use Rattle.aiger_lines.specs.declared.Fault.TheVariants.{WrongShape, OutOfLimits}
use Rattle.aiger_lines.specs.declared.Cursor.{Cursor}
use Rattle.aiger_lines.specs.Blocks.{rows}
use Rattle.aiger_lines.specs.Private.Steps.{number_of, Took}
use Rattle.aiger_lines.proofs.ReadLaws.{took-fault, took-past, took_stored}
use Rattle.aiger_read.specs.declared.Cause.{Cause}
use Rattle.aiger_read.specs.declared.Cause.TheVariants.{TextTooLong, FaultyLine}
use Rattle.aiger_read.specs.Files.{file_read}
use Rattle.aiger_read.specs.Read.{refusal_of, ReadEnd, read_end, max_text, placed_end, read_as, read_of}
use Rattle.aiger_read.specs.Claims.{IsFile}
use Rattle.aiger_read.specs.Private.Steps.{most, cause_of}
use Rattle.aiger_read.proofs.FileLaws.{sound}

-- the number of a faulty line
pub faulty-line : (e : Fault) (line : ℕ) → refusal_of (FaultyLine e line) ≡ record { number = number_of e; line = line }
unfolding refusal_of number_of
faulty-line WrongShape line = refl
faulty-line OutOfLimits line = refl

-- ---- loose numbers are placed as a read says

-- the answer, by that of placing
unfoldable pub outcome_of : Result ℕ Unplaced → Result ℕ Cause
outcome_of (Ok n) = Ok n
outcome_of (Err e) = Err (cause_of e)

abbrev placed : PlaceEnd → ReadEnd
placed e = read_end (outcome_of e.answer) e.net

placed_if : (t : Bool) (a b : PlaceEnd) → placed (cond t a b) ≡ cond t (placed a) (placed b)
placed_if true a b = refl
placed_if false a b = refl

placed_as : (p : Placing) (ns net : List ℕ) → length ns ≡ size_of ns → placed (place_as p ns net) ≡ placed_end p ns net
unfolding place_as placed_end outcome_of cause_of
placed_as (waiting order) ns net n = refl
placed_as (ordered order) ns net n = rw n (placed_if (not (leb (size_of ns) (length net))) _ _)

placed-loose : (ns net : List ℕ) → is_loose ns ≡ true → length ns ≡ size_of ns → placed (place_of ns net) ≡ placed_end (placing_of ns) ns net
unfolding place_of
placed-loose ns net is n = rw is (placed_as (placing_of ns) ns net n)

-- ---- case by case

module _ (text net : List ℕ) where
  pub read-long : max_text < length text → read_end (Err TextTooLong) net ≡ read_of text net
  unfolding read_of
  read-long h = rw (lt-leb (length text) max_text h)

  module _ (h : length text ≤ max_text) (before after : List ℕ) (first : Result Cursor (Fault × ℕ)) (t : Took (file_read text) before after 0 first) where
    -- within the length the lines decide
    within : (e : ReadEnd) → e ≡ read_as (file_read text) net → e ≡ read_of text net
    unfolding read_of
    within e x = rw (le-leb (length text) max_text h) x

    pub read-failed : (e : Fault) (line : ℕ) → first ≡ Err (e, line) → read_end (Err (FaultyLine e line)) net ≡ read_of text net
    unfolding read_as
    read-failed e line f = within _ (rw (took-fault (file_read text) before after 0 first e line t f))

    module _ (m : length before ≡ most) (c : Cursor) (f : first ≡ Ok c) where
      few : (ns : List ℕ) → is_loose ns ≡ true → size_of ns ≤ most
      few ns is = let o = outline ns (loose_outline ns is) in omega (arith, o.sum, o.small, o.most)

      -- the numbers of the file stand first
      past : (R : Type 0) → ((ns : List ℕ) (free q : ℕ) → file_read text ≡ rows ns free q → IsFile text ns → c.place ≡ length ns → after ≡ ns ++ drop (length ns) before → R) → R
      past R k =
          took-past R (file_read text) before after first c t f
          (λ ns free q e n.
          let w = sound text ns free q e in
          let room : length ns ≤ length before = omega (arith, w.exact, few ns w.numbers) in
          k ns free q e w n (took_stored ns free q before after first (rw e at t) room))

      pub read-few : c.place ≤ length after
      read-few = past _ (λ ns free q e w n stored. rw (stored, length-append) (omega (arith, n)))

      pub read-placed : (r : Result ℕ Unplaced) (net' : List ℕ) → place_end r net' ≡ place_of (take c.place after) net → read_end (outcome_of r) net' ≡ read_of text net
      unfolding read_as
      read-placed r net' p =
          within _ (past _
          (λ ns free q e w n stored.
          let same : take c.place after ≡ ns = rw (n, stored) (take-append_seam ns (drop (length ns) before)) in
          rw e (ap placed (rw same at p) ∙ placed-loose ns net w.numbers w.exact)))
