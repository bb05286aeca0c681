-- THE CLAIM: read takes exactly the files, their gates in whatever order, and gives the netlists that mean what they
-- mean; gates that wait on each other are told as such, and a faulty header, input, latch, output or gate and what
-- stands behind the last line at their own lines. Assumes nothing.
use Rattle.std.specs.Prelude.{Result, Ok, Err}
use mathlib.Core.Path.{◌≡◌, refl, sym, ap, ap₂, ◌∙◌, subst}
use mathlib.Core.Bool.{Bool, true, false, cond, not, and-false}
use mathlib.Core.List.{List, [], ◌∷◌, ◌++◌, append_assoc}
use mathlib.Core.Logic.{◌⊎◌, inl, inr}
use Prim.Native.Nat.{ℕ, suc, ◌+◌, ◌-◌, ◌*◌, ◌<◌, ◌≤◌}
use native.Mathlib.Omega.{arith}
use native.Mathlib.Decide.{dec_lt}
use borrow.Author.Tests.{le-leb, lt-leb, eq-eqb, ne_eqb}
use lib.Dec.{eqb, leb}
use lib.ListN.{length, get_or, take, drop, length-append, get_or-append}
use lib.Seq.{take-length, get_or-append_seam}
use Rattle.text.specs.Numbers.{digits}
use Rattle.text.specs.Quoted.{bytes}
use Rattle.text.specs.Writer.{joined}
use Rattle.text.proofs.WriterLaws.{joined_same}
use Rattle.netlist.specs.Layout.{maximum, input_count, latch_count, output_count, gate_count, size_of, latch_variable}
use Rattle.netlist.specs.Literals.{literal_of, variable_of}
use Rattle.netlist.specs.Valid.{header_ok, free_count, is_netlist}
use Rattle.netlist.proofs.LiteralLaws.{literal-plain, literal-inverted}
use Rattle.netlist.proofs.ValidLaws.{outline}
use Rattle.gate_order.specs.Loose.{first_gate, left_of, right_of, is_loose, Once}
use Rattle.gate_order.specs.Order.{PlacedAs, Stuck}
use Rattle.gate_order.specs.Placing.{Placing, ordered, waiting, placing_of}
use Rattle.gate_order.specs.Renumbered.{renumbered}
use Rattle.gate_order.proofs.LooseLaws.{loose_outline, loose-within, netlist-loose}
use Rattle.gate_order.proofs.OrderLaws.{placing_order, placing_stuck, order_placing, not-both}
use Rattle.gate_order.proofs.MeaningLaws.{placed-netlist, placed-meaning}
use Rattle.gate_order.proofs.RenumberedLaws.{length-renumbered, renumbered-placed, placed-renumbered, up_from, up_length, up_at, netlist-placed}
use Rattle.aiger.specs.Rows.{line, header_row, literal_row, latch_row, gate_row}
use Rattle.aiger.specs.Format.{input_line, latch_line, output_line, gate_line, file_with, file_of}
use Rattle.aiger.proofs.FormatLaws.{trimmed_size, trimmed_file, trimmed_length, trimmed_netlist}
use Rattle.aiger.proofs.LengthLaws.{gate-length, joined_length, own, outline_length}
use Rattle.aiger_lines.specs.declared.Fault.{Fault}
use Rattle.aiger_lines.specs.declared.Fault.TheVariants.{WrongShape, OutOfLimits}
use Rattle.aiger_lines.specs.Blocks.{Rows, rows, failed}
use Rattle.aiger_lines.proofs.PlaceLaws.{At, at_split, at-whole, at_rest}
use Rattle.aiger_lines.proofs.FieldLaws.{Small}
use Rattle.aiger_lines.proofs.TextLaws.{output-above, output-wrong}
use Rattle.aiger_read.specs.declared.Cause.{Cause}
use Rattle.aiger_read.specs.declared.Cause.TheVariants.{TextTooLong, ShortBuffer, FaultyLine, WaitingGates}
use Rattle.aiger_read.specs.Files.{file_read}
use Rattle.aiger_read.specs.Read.{refusal_of, ReadEnd, read_end, max_text, placed_end, read_as, read_of}
use Rattle.aiger_read.specs.Claims.{to_input, to_latch, file_to, gate_lines, file_by, IsFile, line_of_output, line_of_gate, StartsWithHeader, StartsWithNumber, StartsWithTwo, StartsWithThree, NoLatch, Defines, Refuses, ReadMeans}
use Rattle.aiger_read.proofs.TextLaws.{input-wrong, input_misfit, latch_wrong, latch_misfit, gate-wrong, gate_misfit}
use Rattle.aiger_read.proofs.FileLaws.{sound}
use Rattle.aiger_read.proofs.CompleteLaws.{header-fault, header-none, input-fault, latch_fault, file-fault, still_fresh, gate-fault, file-extra, complete}

-- ---- no file is too long

module _ (loose : List ℕ) (explicit : ℕ → Bool) (order : List ℕ) (is : is_loose loose ≡ true) (once : Once loose order) (whole : length order ≡ gate_count loose) where
  gate_fits_lem : (k : ℕ) → k < length order → length (gate_row (literal_of (get_or order k 0) false) (left_of loose (get_or order k 0)) (right_of loose (get_or order k 0))) ≤ 15
  gate_fits_lem k h =
      let x = get_or order k 0 in
      let o = loose_outline loose is in
      let v = outline loose o in
      let i = once.inside k h in
      let w = loose-within loose is (x - first_gate loose) (omega arith) in
      let m = literal-inverted (maximum loose) in
      gate-length (literal_of x false) (left_of loose x) (right_of loose x) (own loose o x (omega (arith, v.sum))) (omega (arith, v.small, w.0)) (omega (arith, v.small, w.1))

  by_length : length (file_by loose explicit order) ≤ 65536
  unfolding file_by file_to gate_lines
  by_length =
      rw (append_assoc, append_assoc, append_assoc) (outline_length loose (loose_outline loose is) explicit (gate_lines loose order) (rw (← whole) (joined_length _ 15 (length order) gate_fits_lem)))

-- ---- a file is read as the netlist of its gates, placed, and no limit is in its way

module _ (text loose : List ℕ) (f : IsFile text loose) (buf : List ℕ) where
  fits : leb (length text) max_text ≡ true
  fits = rw f.is (le-leb (length (file_by loose f.explicit f.order)) max_text (by_length loose f.explicit f.order f.numbers f.once f.all))

  file_end : read_of text buf ≡ placed_end (placing_of loose) loose buf
  unfolding read_of read_as
  file_end = rw (fits, (complete text loose f).2)

  module _ (net : List ℕ) (p : PlacedAs loose net) where
    same_length : length loose ≡ length net
    same_length = f.exact ∙ sym p.size

    takes : length net ≤ length buf → read_of text buf ≡ read_end (Ok (length net)) (net ++ drop (length net) buf)
    unfolding placed_end
    takes h =
        file_end
        ∙ rw (order_placing loose p.order p.ordered, same_length, le-leb (length net) (length buf) h, ← (placed-renumbered loose net p))

    short : length buf < length net → Refuses text buf ShortBuffer
    unfolding placed_end
    short h = file_end ∙ rw (order_placing loose p.order p.ordered, same_length, lt-leb (length net) (length buf) h)

-- ---- its gates are placed, or some wait

module _ (loose : List ℕ) (is : is_loose loose ≡ true) where
  placed : (order : List ℕ) → placing_of loose ≡ ordered order → PlacedAs loose (renumbered loose order)
  placed order e = renumbered-placed loose order is (placing_order loose order e)

  decided : ((net : List ℕ) × PlacedAs loose net) ⊎ Stuck loose
  decided = go (placing_of loose) refl
    where
      go : (x : Placing) → placing_of loose ≡ x → ((net : List ℕ) × PlacedAs loose net) ⊎ Stuck loose
      go (ordered order) e = inl (renumbered loose order, placed order e)
      go (waiting order) e = inr (placing_stuck loose order is e)

waits : (text loose buf : List ℕ) → IsFile text loose → Stuck loose → Refuses text buf WaitingGates
unfolding placed_end
waits text loose buf f w = file_end text loose f buf ∙ go (placing_of loose) refl
  where
    go : (x : Placing) → placing_of loose ≡ x → placed_end x loose buf ≡ read_end (Err WaitingGates) buf
    go (ordered order) e = absurd (not-both loose order (placing_order loose order e) w)
    go (waiting order) e = refl

-- ---- nothing else is

module _ (text buf : List ℕ) where
  answers : {a b : Result ℕ Cause} {before after : List ℕ} → read_end a before ≡ read_end b after → a ≡ b
  answers h = ap (λ (e : ReadEnd). e.answer) h

  -- of a text that is not refused for its length or a faulty line, the numbers are placed
  ended : (r : Result ℕ Cause) (after : List ℕ) (R : Type 0) → ((c : Cause) → r ≡ Err c → c ≡ WaitingGates) → read_of text buf ≡ read_end r after
      → ((loose : List ℕ) → IsFile text loose → placed_end (placing_of loose) loose buf ≡ read_end r after → R) → R
  unfolding read_of read_as
  ended r after R waits h k = go (leb (length text) max_text) h
    where
      for_rows : (x : Rows) → file_read text ≡ x → read_as x buf ≡ read_end r after → R
      for_rows (rows ns free q) e g = k ns (sound text ns free q e) g
      for_rows (failed fault line) e g = absurd (let z = waits (FaultyLine fault line) (sym (answers g)) in let y : ◌≡◌ {A = ℕ} 0 1 = cc in omega arith)

      go : (t : Bool) → cond (not t) (read_end (Err TextTooLong) buf) (read_as (file_read text) buf) ≡ read_end r after → R
      go true g = for_rows (file_read text) refl g
      go false g = absurd (let z = waits TextTooLong (sym (answers g)) in let y : ◌≡◌ {A = ℕ} 0 1 = cc in omega arith)

  refused-numbers : {c : Cause} {n : ℕ} → Ok n ≡ Err c → ⊥
  refused-numbers h = let z : ◌≡◌ {A = ℕ} 0 1 = cc in omega arith

  only : (n : ℕ) (after : List ℕ) → read_of text buf ≡ read_end (Ok n) after
      → (loose net : List ℕ) × IsFile text loose × PlacedAs loose net × (n ≡ length net) × (after ≡ net ++ drop n buf)
  unfolding placed_end
  only n after h = ended (Ok n) after _ (λ c e. absurd (refused-numbers e)) h (λ loose f g. by loose f (placing_of loose) refl g)
    where
      room : (loose order : List ℕ) (t : Bool) → IsFile text loose → PlacedAs loose (renumbered loose order)
          → cond (not t) (read_end (Err ShortBuffer) buf) (read_end (Ok (length loose)) (renumbered loose order ++ drop (length loose) buf)) ≡ read_end (Ok n) after
          → (loose net : List ℕ) × IsFile text loose × PlacedAs loose net × (n ≡ length net) × (after ≡ net ++ drop n buf)
      room loose order true f p g =
          let a = answers g in
          let e : n ≡ length loose = cc in
          (loose, renumbered loose order, f, p, e ∙ f.exact ∙ sym (length-renumbered loose order), rw e (sym (ap (λ (x : ReadEnd). x.net) g)))
      room loose order false f p g = absurd (refused-numbers (sym (answers g)))

      by : (loose : List ℕ) → IsFile text loose → (x : Placing) → placing_of loose ≡ x → placed_end x loose buf ≡ read_end (Ok n) after
          → (loose net : List ℕ) × IsFile text loose × PlacedAs loose net × (n ≡ length net) × (after ≡ net ++ drop n buf)
      by loose f (ordered order) e g = room loose order (leb (length loose) (length buf)) f (placed loose f.numbers order e) g
      by loose f (waiting order) e g = absurd (refused-numbers (sym (answers g)))

  stuck : (after : List ℕ) → read_of text buf ≡ read_end (Err WaitingGates) after → (loose : List ℕ) × IsFile text loose × Stuck loose
  unfolding placed_end
  stuck after h = ended (Err WaitingGates) after _ (λ c e. cc) h (λ loose f g. by loose f (placing_of loose) refl g)
    where
      room : (loose order : List ℕ) (t : Bool) → cond (not t) (read_end (Err ShortBuffer) buf) (read_end (Ok (length loose)) (renumbered loose order ++ drop (length loose) buf)) ≡ read_end (Err WaitingGates) after → ⊥
      room loose order true g = refused-numbers (answers g)
      room loose order false g = let a = answers g in let z : ◌≡◌ {A = ℕ} 0 1 = cc in omega arith

      by : (loose : List ℕ) → IsFile text loose → (x : Placing) → placing_of loose ≡ x → placed_end x loose buf ≡ read_end (Err WaitingGates) after
          → (loose : List ℕ) × IsFile text loose × Stuck loose
      by loose f (ordered order) e g = absurd (room loose order (leb (length loose) (length buf)) g)
      by loose f (waiting order) e g = (loose, f, placing_stuck loose order f.numbers e)

  module _ (small : length text ≤ 65536) (no : (loose : List ℕ) → IsFile text loose → ⊥) where
    other_as : (x : Rows) → file_read text ≡ x → (fault : Fault) × (line : ℕ) × (read_as x buf ≡ read_end (Err (FaultyLine fault line)) buf)
    unfolding read_as
    other_as (rows ns free q) e = absurd (no ns (sound text ns free q e))
    other_as (failed fault line) e = (fault, line, refl)

    other : (fault : Fault) × (line : ℕ) × Refuses text buf (FaultyLine fault line)
    unfolding read_of
    other =
        let x = other_as (file_read text) refl in
        (x.0, x.1, rw (le-leb (length text) max_text (omega (arith, small))) x.2)

  long : 65536 < length text → Refuses text buf TextTooLong
  unfolding read_of
  long h = rw (lt-leb (length text) max_text (omega (arith, h)))

-- a text is a file of one list of numbers
one : (text loose other : List ℕ) → IsFile text loose → IsFile text other → loose ≡ other
one text loose other f g =
    let a = complete text loose f in
    let b = complete text other g in
    let c : rows loose a.0 a.1 ≡ rows other b.0 b.1 = sym a.2 ∙ b.2 in
    cc

-- ---- a fault of the header, an input, a latch, an output or a gate, and what stands behind the last line

faulty : (buf text : List ℕ) (fault : Fault) (line : ℕ) → length text ≤ 65536 → file_read text ≡ failed fault line → Refuses text buf (FaultyLine fault line)
unfolding read_of read_as
faulty buf text fault line small e = rw (le-leb (length text) max_text (omega (arith, small)), e)

header-shape : (text buf : List ℕ) → (StartsWithHeader text → ⊥) → length text ≤ 65536 → Refuses text buf (FaultyLine WrongShape 1)
unfolding Small
header-shape text buf none small =
    faulty buf text WrongShape 1 small
    (header-none text
    (λ m i l o a q few at.
    none (record { m = m; i = i; l = l; o = o; a = a; more = drop q text; small = (few.0, few.1.0, few.1.1.0, few.1.1.1.0, few.1.1.1.1.0); is = at.text })))

header : (buf : List ℕ) (m i l o a : ℕ) (more : List ℕ) → m < 100000 → i < 100000 → l < 100000 → o < 100000 → a < 100000 → header_ok m i l o a ≡ false → length (header_row m i l o a ++ more) ≤ 65536
    → Refuses (header_row m i l o a ++ more) buf (FaultyLine OutOfLimits 1)
unfolding Small
header buf m i l o a more hm hi hl ho ha e small =
    let h = header_row m i l o a in
    faulty buf (h ++ more) OutOfLimits 1 small
    (header-fault (h ++ more) m i l o a (0 + length h) (at_split h more (at-whole (h ++ more) refl)).0 (hm, (hi, (hl, (ho, (ha, tt))))) e)

-- input k is due, and no latch is read yet
module _ (loose buf : List ℕ) (k : ℕ) where
  input-shape : (more : List ℕ) → is_loose loose ≡ true → k < input_count loose → (StartsWithNumber more → ⊥) → length (to_input loose k ++ more) ≤ 65536
      → Refuses (to_input loose k ++ more) buf (FaultyLine WrongShape (2 + k))
  input-shape more h l none small =
      let s = to_input loose k ++ more in
      faulty buf s WrongShape (2 + k) small
      (input-fault s loose (λ _. false) h WrongShape k more refl l
      (λ p a. input-wrong s 0 p (literal_of (1 + k) false) (λ v r few b. none (record { lit = v; more = drop r s; small = few; is = at_rest a ∙ b.text }))))

  input-limits : (lit : ℕ) (more : List ℕ) → is_loose loose ≡ true → k < input_count loose → lit < 100000 → (lit ≡ 2 * (1 + k) → ⊥) → length (to_input loose k ++ (literal_row lit ++ more)) ≤ 65536
      → Refuses (to_input loose k ++ (literal_row lit ++ more)) buf (FaultyLine OutOfLimits (2 + k))
  input-limits lit more h l few other small =
      let s = to_input loose k ++ (literal_row lit ++ more) in
      faulty buf s OutOfLimits (2 + k) small
      (input-fault s loose (λ _. false) h OutOfLimits k (literal_row lit ++ more) refl l
      (λ p a.
      input_misfit s 0 p (literal_of (1 + k) false) lit (p + length (literal_row lit)) few (λ e. other (e ∙ literal-plain (1 + k))) (at_split (literal_row lit) more a).0))

-- the row of a latch, with its reset or without
row_of : (lit next reset : ℕ) (row : List ℕ) → (row ≡ line lit (next ∷ reset ∷ [])) ⊎ ((reset ≡ 0) × (row ≡ line lit (next ∷ []))) → (written : Bool) × (row ≡ latch_row written lit next reset)
unfolding latch_row
row_of lit next reset row (inl e) = (true, e ∙ rw (and-false (eqb reset 0)))
row_of lit next reset row (inr e) = (false, e.1 ∙ rw (eq-eqb reset 0 e.0))

module _ (loose buf : List ℕ) (explicit : ℕ → Bool) (k : ℕ) where
  latch_shape : (more : List ℕ) → is_loose loose ≡ true → k < latch_count loose → (StartsWithTwo more → ⊥) → (StartsWithThree more → ⊥) → length (to_latch loose explicit k ++ more) ≤ 65536
      → Refuses (to_latch loose explicit k ++ more) buf (FaultyLine WrongShape (input_count loose + 2 + k))
  latch_shape more h l none nor small =
      let s = to_latch loose explicit k ++ more in
      faulty buf s WrongShape (input_count loose + 2 + k) small
      (latch_fault s loose explicit h WrongShape k more refl l
      (λ p a.
      latch_wrong s (free_count loose k) p (literal_of (latch_variable loose k) false) (literal_of (maximum loose) true)
      (λ v w r few b. none (record { lit = v; next = w; more = drop r s; small = few; is = at_rest a ∙ b.text }))
      (λ v w x r few b. nor (record { lit = v; r0 = w; r1 = x; more = drop r s; small = few; is = at_rest a ∙ b.text }))))

  latch_limits : (lit next reset : ℕ) (row more : List ℕ) → is_loose loose ≡ true → k < latch_count loose → (lit < 100000) × (next < 100000) × (reset < 100000)
      → (row ≡ line lit (next ∷ reset ∷ [])) ⊎ ((reset ≡ 0) × (row ≡ line lit (next ∷ []))) → NoLatch loose k lit next reset → length (to_latch loose explicit k ++ (row ++ more)) ≤ 65536
      → Refuses (to_latch loose explicit k ++ (row ++ more)) buf (FaultyLine OutOfLimits (input_count loose + 2 + k))
  latch_limits lit next reset row more h l few stands misfit small =
      let s = to_latch loose explicit k ++ (row ++ more) in
      let w = row_of lit next reset row stands in
      faulty buf s OutOfLimits (input_count loose + 2 + k) small
      (latch_fault s loose explicit h OutOfLimits k (row ++ more) refl l
      (λ p a.
      latch_misfit s (free_count loose k) p (literal_of (latch_variable loose k) false) (literal_of (maximum loose) true) w.0 lit next reset (p + length row) few
      (subst (λ (t : List ℕ). At s p t (p + length row)) w.1 (at_split row more a).0) (rw (literal-plain (latch_variable loose k), literal-inverted (maximum loose)) misfit)))

  above : (lit : ℕ) (more : List ℕ) → is_loose loose ≡ true → k < output_count loose → 2 * maximum loose + 1 < lit → lit < 100000 → length (file_to loose explicit k ++ (literal_row lit ++ more)) ≤ 65536
      → Refuses (file_to loose explicit k ++ (literal_row lit ++ more)) buf (FaultyLine OutOfLimits (line_of_output loose k))
  above lit more h l over few small =
      let s = file_to loose explicit k ++ (literal_row lit ++ more) in
      faulty buf s OutOfLimits (line_of_output loose k) small
      (file-fault s loose explicit h OutOfLimits k (literal_row lit ++ more) refl l
      (λ f p a. output-above s f p (literal_of (maximum loose) true) lit (p + length (literal_row lit)) (omega (arith, over, literal-inverted (maximum loose))) few (at_split (literal_row lit) more a).0))

  shape : (more : List ℕ) → is_loose loose ≡ true → k < output_count loose → (StartsWithNumber more → ⊥) → length (file_to loose explicit k ++ more) ≤ 65536
      → Refuses (file_to loose explicit k ++ more) buf (FaultyLine WrongShape (line_of_output loose k))
  shape more h l none small =
      let s = file_to loose explicit k ++ more in
      faulty buf s WrongShape (line_of_output loose k) small
      (file-fault s loose explicit h WrongShape k more refl l
      (λ f p a. output-wrong s f p (literal_of (maximum loose) true)
      (λ v r few b. none (record { lit = v; more = drop r s; small = few; is = at_rest a ∙ b.text }))))

module _ (loose order buf : List ℕ) (explicit : ℕ → Bool) where
  gate-shape : (more : List ℕ) → is_loose loose ≡ true → Once loose order → length order < gate_count loose → (StartsWithThree more → ⊥) → length (file_by loose explicit order ++ more) ≤ 65536
      → Refuses (file_by loose explicit order ++ more) buf (FaultyLine WrongShape (line_of_gate loose (length order)))
  gate-shape more h once l none small =
      let s = file_by loose explicit order ++ more in
      faulty buf s WrongShape (line_of_gate loose (length order)) small
      (gate-fault s loose explicit h order once WrongShape more refl l
      (λ f p a. gate-wrong s (first_gate loose) (maximum loose) _ f p
      (λ v r0 r1 r few b. none (record { lit = v; r0 = r0; r1 = r1; more = drop r s; small = few; is = at_rest a ∙ b.text }))))

  gate-limits : (lit r0 r1 : ℕ) (more : List ℕ) → is_loose loose ≡ true → Once loose order → length order < gate_count loose → (lit < 100000) × (r0 < 100000) × (r1 < 100000)
      → (Defines loose order lit r0 r1 → ⊥) → length (file_by loose explicit order ++ (gate_row lit r0 r1 ++ more)) ≤ 65536
      → Refuses (file_by loose explicit order ++ (gate_row lit r0 r1 ++ more)) buf (FaultyLine OutOfLimits (line_of_gate loose (length order)))
  gate-limits lit r0 r1 more h once l few none small =
      let s = file_by loose explicit order ++ (gate_row lit r0 r1 ++ more) in
      faulty buf s OutOfLimits (line_of_gate loose (length order)) small
      (gate-fault s loose explicit h order once OutOfLimits (gate_row lit r0 r1 ++ more) refl l
      (λ f p a. gate_misfit s (first_gate loose) (maximum loose) _ f p lit r0 r1 (p + length (gate_row lit r0 r1)) few (at_split (gate_row lit r0 r1) more a).0
      (λ t.
      none
      (record {
        variable = variable_of lit;
        literal = t.own ∙ literal-plain (variable_of lit);
        gate = (t.from, t.to);
        fresh = still_fresh s loose explicit h order once (variable_of lit) t.fresh;
        operands = (rw (literal-inverted (maximum loose)) at t.left, rw (literal-inverted (maximum loose)) at t.right);
      }))))

extra : (text loose buf more : List ℕ) → IsFile text loose → 0 < length more → length (text ++ more) ≤ 65536
    → Refuses (text ++ more) buf (FaultyLine WrongShape (input_count loose + latch_count loose + output_count loose + gate_count loose + 2))
extra text loose buf more f some small =
    faulty buf (text ++ more) WrongShape _ small
    (file-extra (text ++ more) loose f.explicit f.numbers f.order f.once f.all more (ap (λ (t : List ℕ). t ++ more) f.is) some)

-- ---- the texts

line-text : (n m : ℕ) (ms : List ℕ) → (line n [] ≡ digits n ++ (10 ∷ [])) × (line n (m ∷ ms) ≡ digits n ++ (32 ∷ line m ms))
unfolding line
line-text n m ms = (refl, refl)

rows_are : (m i l o a lit next r0 r1 : ℕ) → (header_row m i l o a ≡ bytes "aag " ++ line m (i ∷ l ∷ o ∷ a ∷ [])) × (literal_row lit ≡ line lit [])
    × (gate_row lit r0 r1 ≡ line lit (r0 ∷ r1 ∷ [])) × (latch_row false lit next 0 ≡ line lit (next ∷ [])) × (latch_row true lit next 0 ≡ line lit (next ∷ 0 ∷ []))
    × ((explicit : Bool) (r : ℕ) → 1 ≤ r → latch_row explicit lit next r ≡ line lit (next ∷ r ∷ []))
unfolding header_row literal_row gate_row latch_row
rows_are m i l o a lit next r0 r1 = (refl, refl, refl, refl, refl, λ explicit r h. rw (ne_eqb r 0 (λ e. omega arith)))

lines_are : (loose : List ℕ) (explicit : ℕ → Bool) (k : ℕ) → (input_line k ≡ literal_row (2 * (1 + k)))
    × (latch_line loose explicit k ≡ latch_row (explicit k) (2 * (get_or loose 1 0 + 1 + k)) (get_or loose (5 + 2 * k) 0) (get_or loose (5 + 2 * k + 1) 0))
    × (output_line loose k ≡ literal_row (get_or loose (5 + 2 * get_or loose 2 0 + k) 0))
unfolding input_line latch_line output_line
lines_are loose explicit k = (rw (literal-plain (1 + k)), rw (literal-plain (latch_variable loose k)), refl)

gate_line_at : (loose order : List ℕ) (k : ℕ) → gate_lines loose (order ++ ((first_gate loose + k) ∷ []))
    ≡ gate_lines loose order ++ line (2 * (get_or loose 1 0 + get_or loose 2 0 + 1 + k))
    (get_or loose (5 + 2 * get_or loose 2 0 + get_or loose 3 0 + 2 * k) 0 ∷ get_or loose (5 + 2 * get_or loose 2 0 + get_or loose 3 0 + 2 * k + 1) 0 ∷ [])
unfolding gate_lines gate_row
gate_line_at loose order k =
    let x = first_gate loose + k in
    let n : first_gate loose + k - first_gate loose ≡ k = omega arith in
    let m : length (order ++ (x ∷ [])) ≡ suc (length order) = omega (arith, length-append order (x ∷ [])) in
    rw m
    (ap₂ ◌++◌
    (joined_same _ _ (length order) (λ j h. rw (get_or-append order (x ∷ []) 0 j h)))
    (rw (get_or-append_seam order x [] 0, n, literal-plain x)))

in_order_lem : (net order : List ℕ) (explicit : ℕ → Bool) → length order ≡ gate_count net → ((k : ℕ) → k < gate_count net → get_or order k 0 ≡ first_gate net + k)
    → file_with net explicit ≡ file_by net explicit order
unfolding file_with file_by file_to gate_lines gate_line
in_order_lem net order explicit all ups =
    let same : joined (gate_line net) (gate_count net) ≡ gate_lines net order =
    rw all (sym (joined_same _ _ (gate_count net) (λ k h. let n : first_gate net + k - first_gate net ≡ k = omega arith in rw (ups k h, n)))) in
    rw (same, append_assoc, append_assoc, append_assoc)

orders : (loose order : List ℕ)
    → ((k : ℕ) → k < length order → (get_or loose 1 0 + get_or loose 2 0 < get_or order k 0) × (get_or order k 0 ≤ get_or loose 1 0 + get_or loose 2 0 + get_or loose 4 0))
    → ((j k : ℕ) → j < k → k < length order → get_or order j 0 ≡ get_or order k 0 → ⊥) → Once loose order
orders loose order inside apart =
    record {
      inside = λ k h. let w = inside k h in (omega arith, omega arith);
      once = λ j k h g e.
          elim (dec_lt j k) [
            | yes l ↦ absurd (apart j k l g e)
            | no l ↦ elim (dec_lt k j) [ yes m ↦ absurd (apart k j m h (sym e)) | no m ↦ omega arith ]
          ];
    }

-- ---- the file of a netlist

module _ (net : List ℕ) (is : is_netlist net ≡ true) (exact : length net ≡ size_of net) (explicit : ℕ → Bool) where
  -- its gates are placed already
  own-placed : PlacedAs net net
  own-placed = rw (← exact, take-length net) at (netlist-placed net is)

  file_of_lem : (order : List ℕ) → Once net order → length order ≡ gate_count net → IsFile (file_by net explicit order) net
  file_of_lem order once all = record { numbers = netlist-loose net is; exact = exact; explicit = explicit; order = order; once = once; all = all; is = refl }

  abbrev gates : List ℕ
  gates = up_from (first_gate net) (gate_count net)

  gates-all : length gates ≡ gate_count net
  gates-all = up_length (first_gate net) (gate_count net)

  gates_at_lem : (k : ℕ) → k < gate_count net → get_or gates k 0 ≡ first_gate net + k
  gates_at_lem k h = up_at (first_gate net) (gate_count net) k h

  gates-once : Once net gates
  gates-once =
      record {
        inside = λ k h. let e = gates_at_lem k (omega (arith, gates-all)) in (omega arith, omega (arith, gates-all));
        once = λ j k h g e. omega (arith, gates-all, gates_at_lem j (omega (arith, gates-all)), gates_at_lem k (omega (arith, gates-all)));
      }

  with_file : IsFile (file_with net explicit) net
  with_file = rw (in_order_lem net gates explicit gates-all gates_at_lem) (file_of_lem gates gates-once gates-all)

trip : (net : List ℕ) → is_netlist net ≡ true → IsFile (file_of net) (take (size_of net) net)
unfolding file_of
trip net h =
    rw (← (trimmed_file net (λ _. false)))
    (with_file (take (size_of net) net) (trimmed_netlist net h) (trimmed_length net h ∙ sym (trimmed_size net)) (λ _. false))

back : (net buf : List ℕ) → is_netlist net ≡ true → size_of net ≤ length buf → read_of (file_of net) buf ≡ read_end (Ok (size_of net)) (take (size_of net) net ++ drop (size_of net) buf)
back net buf h l =
    let e = trimmed_length net h in
    rw e at (takes (file_of net) (take (size_of net) net) (trip net h) buf (take (size_of net) net) (own-placed (take (size_of net) net) (trimmed_netlist net h) (e ∙ sym (trimmed_size net)) (λ _. false)) (rw e l))

same : (net other : List ℕ) → is_netlist net ≡ true → is_netlist other ≡ true → file_of net ≡ file_of other → take (size_of net) net ≡ take (size_of other) other
same net other h g e = one (file_of net) (take (size_of net) net) (take (size_of other) other) (trip net h) (rw e (trip other g))

pub read-means : ReadMeans
unfolding refusal_of
read-means =
    record {
      ends = λ r n. (refl, refl);
      numbered = λ line. (refl, refl, refl, refl, refl);
      takes = λ text loose net buf f p. takes text loose f buf net p;
      short = λ text loose net buf f p. short text loose f buf net p;
      waits = waits;
      either = λ text loose f. decided loose f.numbers;
      only = only;
      stuck = stuck;
      means = λ text loose net f p. (placed-netlist loose net f.numbers p, placed-meaning loose net f.numbers p);
      one = one;
      shuffled = λ net order buf explicit is exact once all. takes (file_by net explicit order) net (file_of_lem net is exact explicit order once all) buf net (own-placed net is exact explicit);
      before = λ net buf explicit is exact. takes (file_with net explicit) net (with_file net is exact explicit) buf net (own-placed net is exact explicit);
      before-short = λ net buf explicit is exact. short (file_with net explicit) net (with_file net is exact explicit) buf net (own-placed net is exact explicit);
      long = long;
      other = other;
      back = back;
      same = same;
      line-text = line-text;
      rows = rows_are;
      lines = lines_are;
      gate_line_at = gate_line_at;
      in_order_lem = in_order_lem;
      orders = orders;
      header-shape = header-shape;
      header = header;
      input-shape = input-shape;
      input-limits = input-limits;
      latch_shape = latch_shape;
      latch_limits = latch_limits;
      above = above;
      shape = shape;
      gate-shape = gate-shape;
      gate-limits = gate-limits;
      extra = extra;
    }
