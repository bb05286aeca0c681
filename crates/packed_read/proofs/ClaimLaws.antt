-- THE CLAIM: read takes exactly the packed files, reading what was written gives the same numbers, and each fault is
-- told with its number and line. Assumes nothing.
use Rattle.std.specs.Prelude.{Result, Ok, Err}
use mathlib.Core.Path.{◌≡◌, refl, sym, ap, ◌∙◌}
use mathlib.Core.Bool.{Bool, true, false, cond, not, and-false}
use mathlib.Core.List.{List, [], ◌∷◌, ◌++◌, append_assoc, append-nil}
use mathlib.Core.Logic.{◌⊎◌, inl, inr}
use Prim.Native.Nat.{ℕ, zero, suc, ◌+◌, ◌-◌, ◌*◌, ◌<◌, ◌≤◌}
use native.Mathlib.Omega.{arith}
use borrow.Author.Tests.{le-leb, lt-leb, eq-eqb}
use lib.Dec.{eqb, leb}
use lib.ListN.{length, get_or, take, drop}
use lib.Seq.{get_or-drop}
use Rattle.text.specs.Quoted.{bytes}
use Rattle.text.specs.Writer.{joined}
use Rattle.netlist.specs.Layout.{maximum, input_count, latch_count, output_count, gate_count, size_of, latch_variable, gate_variable}
use Rattle.netlist.specs.Literals.{literal_of}
use Rattle.netlist.specs.Valid.{header_ok, free_count, is_netlist}
use Rattle.netlist.proofs.ValidLaws.{valid, outline_of}
use Rattle.aiger.specs.Rows.{line, literal_row}
use Rattle.aiger.specs.Format.{output_line}
use Rattle.aiger.proofs.FormatLaws.{trimmed_size, trimmed_length, trimmed_netlist}
use Rattle.packed.specs.Runs.{run}
use Rattle.packed.specs.Format.{packed_header, packed_latch_row, packed_latch, packed_gate, packed_with, packed_of}
use Rattle.packed.proofs.FormatLaws.{trimmed_packed}
use Rattle.packed.proofs.LengthLaws.{packed-length}
use Rattle.aiger_lines.specs.declared.Fault.{Fault}
use Rattle.aiger_lines.specs.declared.Fault.TheVariants.{WrongShape, OutOfLimits}
use Rattle.aiger_lines.specs.Lines.{fault}
use Rattle.aiger_lines.specs.Blocks.{Rows, rows, failed}
use Rattle.aiger_lines.specs.Heads.{on_head}
use Rattle.aiger_lines.proofs.PlaceLaws.{At, at_split, at-whole, at_rest}
use Rattle.aiger_lines.proofs.FieldLaws.{Small}
use Rattle.aiger_lines.proofs.HeadLaws.{head-fault, head-none}
use Rattle.aiger_lines.proofs.TextLaws.{output-above, output-wrong}
use Rattle.aiger_lines.proofs.NetLaws.{own-small}
use Rattle.packed_read.specs.declared.Cause.{Cause}
use Rattle.packed_read.specs.declared.Cause.TheVariants.{TextTooLong, ShortBuffer, FaultyLine, FaultyRun}
use Rattle.packed_read.specs.Lines.{second_at}
use Rattle.packed_read.specs.Files.{read_packed}
use Rattle.packed_read.specs.Read.{refusal_of, ReadEnd, read_end, max_text, read_as, read_of}
use Rattle.packed_read.specs.Claims.{IsPacked, to_latch, to_output, to_gate, Refuses, PackedMeans}
use Rattle.packed_read.specs.Private.Steps.{cause_of}
use Rattle.packed_read.proofs.RunLaws.{EachByte, BytesFrom, run_complete, run_none}
use Rattle.packed_read.proofs.GateLaws.{second_none, second_above, gate-none, gate-zero, gate-above, gate_good}
use Rattle.packed_read.proofs.ReadLaws.{faulty_as, line-cause}
use Rattle.packed_read.proofs.TextLaws.{latch_above, latch_wrong}
use Rattle.packed_read.proofs.SoundLaws.{sound}
use Rattle.packed_read.proofs.CompleteLaws.{latch_fault, output-fault, gate-fault, file-extra, complete}

-- a text starts with a header, with the line of one number or of two, with a byte run: numbers have at most five
-- digits, a byte run at most three bytes
record StartsWithHeader (text : List ℕ) : Type 0 where
  m : ℕ
  i : ℕ
  l : ℕ
  o : ℕ
  a : ℕ
  more : List ℕ
  small : (m < 100000) × (i < 100000) × (l < 100000) × (o < 100000) × (a < 100000)
  is : text ≡ packed_header m i l o a ++ more

record StartsWithOne (text : List ℕ) : Type 0 where
  n : ℕ
  more : List ℕ
  small : n < 100000
  is : text ≡ line n [] ++ more

record StartsWithTwo (text : List ℕ) : Type 0 where
  n : ℕ
  m : ℕ
  more : List ℕ
  small : (n < 100000) × (m < 100000)
  is : text ≡ line n (m ∷ []) ++ more

record StartsWithRun (text : List ℕ) : Type 0 where
  n : ℕ
  more : List ℕ
  small : n < 2097152
  is : text ≡ run n ++ more

-- ---- a packed file is read as its netlist, and no limit is in its way

module _ (text net buf : List ℕ) (f : IsPacked text net) where
  fits : leb (length text) max_text ≡ true
  fits = rw f.is (le-leb (length (packed_with net f.explicit)) max_text (omega (arith, packed-length net f.netlist f.explicit)))

  takes : length net ≤ length buf → read_of text buf ≡ read_end (Ok (length net)) (net ++ drop (length net) buf)
  unfolding read_of read_as
  takes h = rw (fits, (complete text net f).2, le-leb (length net) (length buf) h)

  short : length buf < length net → Refuses text buf ShortBuffer
  unfolding read_of read_as
  short h = rw (fits, (complete text net f).2, lt-leb (length net) (length buf) h)

-- ---- nothing else is

module _ (text buf : List ℕ) where
  answers : {a b : Result ℕ Cause} {before after : List ℕ} → read_end a before ≡ read_end b after → a ≡ b
  answers h = ap (λ (e : ReadEnd). e.answer) h

  refused-numbers : {c : Cause} {n : ℕ} {after : List ℕ} → read_end (Err c) buf ≡ read_end (Ok n) after → ⊥
  refused-numbers h =
      let a = answers h in
      let z : ◌≡◌ {A = ℕ} 0 1 = cc in
      omega arith

  module _ (n : ℕ) (after : List ℕ) (bytes : EachByte text) where
    abbrev File : Type 0
    File = (net : List ℕ) × IsPacked text net × (n ≡ length net) × (after ≡ net ++ drop n buf)

    only-room : (ns : List ℕ) (t : Bool) → IsPacked text ns
        → cond (not t) (read_end (Err ShortBuffer) buf) (read_end (Ok (length ns)) (ns ++ drop (length ns) buf)) ≡ read_end (Ok n) after → File
    only-room ns true f h =
        let a = answers h in
        let e : n ≡ length ns = cc in
        (ns, f, e, rw e (sym (ap (λ (e : ReadEnd). e.net) h)))
    only-room ns false f h = absurd (refused-numbers h)

    only_as : (x : Rows) → read_packed text ≡ x → read_as x buf ≡ read_end (Ok n) after → File
    unfolding read_as
    only_as (rows ns free q) e h = only-room ns (leb (length ns) (length buf)) (sound text ns free q bytes e) h
    only_as (failed c n) e h = absurd (refused-numbers (sym (faulty_as c n buf) ∙ h))

    only : read_of text buf ≡ read_end (Ok n) after → File
    unfolding read_of
    only h = go (leb (length text) max_text) h
      where
        go : (t : Bool) → cond (not t) (read_end (Err TextTooLong) buf) (read_as (read_packed text) buf) ≡ read_end (Ok n) after → File
        go true g = only_as (read_packed text) refl g
        go false g = absurd (refused-numbers g)

  long : 65536 < length text → Refuses text buf TextTooLong
  unfolding read_of
  long h = rw (lt-leb (length text) max_text (omega (arith, h)))

  -- ---- a fault, of a line or of the byte part

  module _ (small : length text ≤ 65536) where
    faulty : (e : Fault) (n : ℕ) → read_packed text ≡ failed e n → Refuses text buf (cause_of e n)
    unfolding read_of
    faulty e n h = rw (le-leb (length text) max_text (omega (arith, small)), h) (faulty_as e n buf)

    faulty_run : (e : Fault) → read_packed text ≡ failed e 0 → Refuses text buf (FaultyRun e)
    unfolding cause_of
    faulty_run e h = faulty e 0 h

    faulty_line : (e : Fault) (n : ℕ) → 0 < n → read_packed text ≡ failed e n → Refuses text buf (FaultyLine e n)
    faulty_line e n some h = rw (line-cause e n (λ (z : n ≡ 0). absurd (omega arith))) (faulty e n h)

    abbrev Faulty : Type 0
    Faulty = ((e : Fault) × (n : ℕ) × Refuses text buf (FaultyLine e n)) ⊎ ((e : Fault) × Refuses text buf (FaultyRun e))

    other : EachByte text → ((net : List ℕ) → IsPacked text net → ⊥) → Faulty
    other bytes none = go (read_packed text) refl
      where
        go : (x : Rows) → read_packed text ≡ x → Faulty
        go (rows ns free q) h = absurd (none ns (sound text ns free q bytes h))
        go (failed e zero) h = inr (e, faulty_run e h)
        go (failed e (suc n)) h = inl (e, suc n, faulty_line e (suc n) (omega arith) h)

    -- ---- the header

    header-shape : (StartsWithHeader text → ⊥) → Refuses text buf (FaultyLine WrongShape 1)
    unfolding read_packed on_head packed_header Small
    header-shape none =
        let h =
        head-none 105 text
        (λ m i l o a q few at. none (record { m = m; i = i; l = l; o = o; a = a; more = drop q text; small = (few.0, few.1.0, few.1.1.0, few.1.1.1.0, few.1.1.1.1.0); is = at.text })) in
        faulty_line WrongShape 1 (omega arith) (rw h)

header-limits : (buf : List ℕ) (m i l o a : ℕ) (more : List ℕ) → m < 100000 → i < 100000 → l < 100000 → o < 100000 → a < 100000 → header_ok m i l o a ≡ false → length (packed_header m i l o a ++ more) ≤ 65536
    → Refuses (packed_header m i l o a ++ more) buf (FaultyLine OutOfLimits 1)
unfolding read_packed on_head packed_header Small
header-limits buf m i l o a more hm hi hl ho ha e small =
    let h = packed_header m i l o a in
    let b = head-fault 105 (h ++ more) m i l o a (0 + length h) (at_split h more (at-whole (h ++ more) refl)).0 (hm, (hi, (hl, (ho, (ha, tt))))) e in
    faulty_line (h ++ more) buf small OutOfLimits 1 (omega arith) (rw b)

-- ---- a latch, an output and a gate

-- what a text is from a place on
bytes_rest : {s : List ℕ} {p : ℕ} {t : List ℕ} → At s p t (length s) → EachByte t → BytesFrom s p
bytes_rest {s} {p} {t} a bytes k h =
    let n : p + (k - p) ≡ k = omega arith in
    let e : get_or t (k - p) 0 ≡ get_or s k 0 = ap (λ (l : List ℕ). get_or l (k - p) 0) (at_rest a) ∙ get_or-drop p s (k - p) 0 ∙ ap (λ (j : ℕ). get_or s j 0) n in
    rw (← e) (bytes (k - p))

no_run : {s : List ℕ} {p : ℕ} {t : List ℕ} → At s p t (length s) → (StartsWithRun t → ⊥) → (v q : ℕ) → v < 2097152 → At s p (run v) q → ⊥
no_run {s} a none v q small b = none (record { n = v; more = drop q s; small = small; is = at_rest a ∙ b.text })

module _ (net buf : List ℕ) (explicit : ℕ → Bool) (k : ℕ) (is : is_netlist net ≡ true) where
  latch_shape : (more : List ℕ) → k < latch_count net → (StartsWithOne more → ⊥) → (StartsWithTwo more → ⊥) → length (to_latch net explicit k ++ more) ≤ 65536
      → Refuses (to_latch net explicit k ++ more) buf (FaultyLine WrongShape (2 + k))
  latch_shape more l none nor small =
      let s = to_latch net explicit k ++ more in
      faulty_line s buf small WrongShape (2 + k) (omega arith)
      (latch_fault s net explicit is WrongShape k more refl l
      (λ p a.
      latch_wrong s (free_count net k) p (literal_of (maximum net) true) (literal_of (latch_variable net k) false)
      (λ v r few b. none (record { n = v; more = drop r s; small = few; is = at_rest a ∙ b.text }))
      (λ v w r few b. nor (record { n = v; m = w; more = drop r s; small = few; is = at_rest a ∙ b.text }))))

  latch_limits : (written : Bool) (next reset : ℕ) (more : List ℕ) → k < latch_count net → next < 100000 → reset < 100000
      → (literal_of (maximum net) true < next) ⊎ ((1 < reset) × ((reset ≡ literal_of (latch_variable net k) false → ⊥) ⊎ (6 ≤ free_count net k)))
      → length (to_latch net explicit k ++ (packed_latch_row written next reset ++ more)) ≤ 65536
      → Refuses (to_latch net explicit k ++ (packed_latch_row written next reset ++ more)) buf (FaultyLine OutOfLimits (2 + k))
  latch_limits written next reset more l m1 m2 over small =
      let t = packed_latch_row written next reset in
      let s = to_latch net explicit k ++ (t ++ more) in
      faulty_line s buf small OutOfLimits (2 + k) (omega arith)
      (latch_fault s net explicit is OutOfLimits k (t ++ more) refl l
      (λ p a. latch_above s (free_count net k) p (p + length t) written (literal_of (maximum net) true) (literal_of (latch_variable net k) false) next reset m1 m2 (at_split t more a).0 over))

  output-shape : (more : List ℕ) → k < output_count net → (StartsWithOne more → ⊥) → length (to_output net explicit k ++ more) ≤ 65536
      → Refuses (to_output net explicit k ++ more) buf (FaultyLine WrongShape (latch_count net + 2 + k))
  unfolding literal_row
  output-shape more l none small =
      let s = to_output net explicit k ++ more in
      faulty_line s buf small WrongShape (latch_count net + 2 + k) (omega arith)
      (output-fault s net explicit is WrongShape k more refl l
      (λ f p a. output-wrong s f p (literal_of (maximum net) true) (λ v r few b. none (record { n = v; more = drop r s; small = few; is = at_rest a ∙ b.text }))))

  output-limits : (lit : ℕ) (more : List ℕ) → k < output_count net → literal_of (maximum net) true < lit → lit < 100000 → length (to_output net explicit k ++ (literal_row lit ++ more)) ≤ 65536
      → Refuses (to_output net explicit k ++ (literal_row lit ++ more)) buf (FaultyLine OutOfLimits (latch_count net + 2 + k))
  output-limits lit more l over few small =
      let s = to_output net explicit k ++ (literal_row lit ++ more) in
      faulty_line s buf small OutOfLimits (latch_count net + 2 + k) (omega arith)
      (output-fault s net explicit is OutOfLimits k (literal_row lit ++ more) refl l
      (λ f p a. output-above s f p (literal_of (maximum net) true) lit (p + length (literal_row lit)) over few (at_split (literal_row lit) more a).0))

  first-shape : (more : List ℕ) → EachByte more → k < gate_count net → (StartsWithRun more → ⊥) → length (to_gate net explicit k ++ more) ≤ 65536
      → Refuses (to_gate net explicit k ++ more) buf (FaultyRun WrongShape)
  first-shape more bytes l none small =
      let s = to_gate net explicit k ++ more in
      faulty_run s buf small WrongShape
      (gate-fault s net explicit is WrongShape k more refl l
      (λ f p a. gate-none s f p (literal_of (gate_variable net k) false) (run_none s p (bytes_rest a bytes) (no_run a none))))

  -- the literal of gate k, in three bytes
  gate-small : k < gate_count net → literal_of (gate_variable net k) false < 100000
  gate-small l = let v = valid net is in own-small net (outline_of net is) (gate_variable net k) (omega (arith, v.sum, v.small))

  first-limits : (d : ℕ) (more : List ℕ) → k < gate_count net → d < 2097152 → (d ≡ 0) ⊎ (literal_of (gate_variable net k) false < d) → length (to_gate net explicit k ++ (run d ++ more)) ≤ 65536
      → Refuses (to_gate net explicit k ++ (run d ++ more)) buf (FaultyRun OutOfLimits)
  first-limits d more l few over small =
      let s = to_gate net explicit k ++ (run d ++ more) in
      faulty_run s buf small OutOfLimits
      (gate-fault s net explicit is OutOfLimits k (run d ++ more) refl l
      (λ f p a.
      let lit = literal_of (gate_variable net k) false in
      let q = p + length (run d) in
      let took-d = run_complete s p d q (at_split (run d) more a).0 few in
      elim over [
        | inl z ↦ gate-zero s f p lit d q took-d (omega arith)
        | inr z ↦ gate-above s f p lit d q took-d (omega arith) z
      ]))

  -- behind a good first number, the second run
  second-fault : (e : Fault) (d : ℕ) (more : List ℕ) → k < gate_count net → 1 ≤ d → d ≤ literal_of (gate_variable net k) false → length (to_gate net explicit k ++ (run d ++ more)) ≤ 65536
      → ((f p : ℕ) → At (to_gate net explicit k ++ (run d ++ more)) p more (length (to_gate net explicit k ++ (run d ++ more))) → second_at (to_gate net explicit k ++ (run d ++ more)) (literal_of (gate_variable net k) false - d) f p ≡ fault e)
      → Refuses (to_gate net explicit k ++ (run d ++ more)) buf (FaultyRun e)
  second-fault e d more l least most small bad =
      let s = to_gate net explicit k ++ (run d ++ more) in
      faulty_run s buf small e
      (gate-fault s net explicit is e k (run d ++ more) refl l
      (λ f p a.
      let w = at_split (run d) more a in
      let q = p + length (run d) in
      gate_good s f p (literal_of (gate_variable net k) false) d q (run_complete s p d q w.0 (omega (arith, gate-small l))) least most ∙ bad f q w.1))

  second-shape : (d : ℕ) (more : List ℕ) → EachByte more → k < gate_count net → 1 ≤ d → d ≤ literal_of (gate_variable net k) false → (StartsWithRun more → ⊥) → length (to_gate net explicit k ++ (run d ++ more)) ≤ 65536
      → Refuses (to_gate net explicit k ++ (run d ++ more)) buf (FaultyRun WrongShape)
  second-shape d more bytes l least most none small =
      let s = to_gate net explicit k ++ (run d ++ more) in
      second-fault WrongShape d more l least most small
      (λ f p a. second_none s f p (literal_of (gate_variable net k) false - d) (run_none s p (bytes_rest a bytes) (no_run a none)))

  second-limits : (d e : ℕ) (more : List ℕ) → k < gate_count net → 1 ≤ d → d ≤ literal_of (gate_variable net k) false → e < 2097152 → literal_of (gate_variable net k) false - d < e
      → length (to_gate net explicit k ++ (run d ++ (run e ++ more))) ≤ 65536 → Refuses (to_gate net explicit k ++ (run d ++ (run e ++ more))) buf (FaultyRun OutOfLimits)
  second-limits d e more l least most few over small =
      let s = to_gate net explicit k ++ (run d ++ (run e ++ more)) in
      second-fault OutOfLimits d (run e ++ more) l least most small
      (λ f p a.
      let q = p + length (run e) in
      second_above s f p (literal_of (gate_variable net k) false - d) e q (run_complete s p e q (at_split (run e) more a).0 few) over)

extra : (net buf : List ℕ) (explicit : ℕ → Bool) (more : List ℕ) → is_netlist net ≡ true → 0 < length more → length (packed_with net explicit ++ more) ≤ 65536
    → Refuses (packed_with net explicit ++ more) buf (FaultyRun WrongShape)
extra net buf explicit more h some small =
    let s = packed_with net explicit ++ more in
    faulty_run s buf small WrongShape (file-extra s net explicit h more refl some)

-- ---- a file up to a latch, an output, a gate

module _ (net : List ℕ) (explicit : ℕ → Bool) where
  up_to_latch : (to_latch net explicit 0 ≡ bytes "aig " ++ line (get_or net 0 0) (get_or net 1 0 ∷ get_or net 2 0 ∷ get_or net 3 0 ∷ get_or net 4 0 ∷ []))
      × ((k : ℕ) → to_latch net explicit (suc k) ≡ to_latch net explicit k ++ packed_latch net explicit k)
  unfolding to_latch packed_header
  up_to_latch =
      let head = packed_header (maximum net) (input_count net) (latch_count net) (output_count net) (gate_count net) in
      (append-nil head, λ k. sym (append_assoc head (joined (packed_latch net explicit) k) (packed_latch net explicit k)))

  up_to_output : (to_output net explicit 0 ≡ to_latch net explicit (get_or net 2 0))
      × ((k : ℕ) → to_output net explicit (suc k) ≡ to_output net explicit k ++ line (get_or net (5 + 2 * get_or net 2 0 + k) 0) [])
  unfolding to_output output_line literal_row
  up_to_output = (append-nil (to_latch net explicit (latch_count net)), λ k. sym (append_assoc (to_latch net explicit (latch_count net)) (joined (output_line net) k) (output_line net k)))

  up_to_gate : (to_gate net explicit 0 ≡ to_output net explicit (get_or net 3 0))
      × ((k : ℕ) → to_gate net explicit (suc k) ≡ to_gate net explicit k ++ packed_gate net k) × (packed_with net explicit ≡ to_gate net explicit (get_or net 4 0))
  unfolding to_gate to_output to_latch packed_with
  up_to_gate = (
    append-nil (to_output net explicit (output_count net)),
    λ k. sym (append_assoc (to_output net explicit (output_count net)) (joined (packed_gate net) k) (packed_gate net k)),
    rw (append_assoc, append_assoc),
  )

-- the row of a latch, with its reset or without
row_of : (next reset : ℕ) (row : List ℕ) → (row ≡ line next (reset ∷ [])) ⊎ ((reset ≡ 0) × (row ≡ line next [])) → (written : Bool) × (row ≡ packed_latch_row written next reset)
unfolding packed_latch_row
row_of next reset row (inl e) = (true, e ∙ rw (and-false (eqb reset 0)))
row_of next reset row (inr e) = (false, e.1 ∙ rw (eq-eqb reset 0 e.0))

latch_over : (net buf : List ℕ) (explicit : ℕ → Bool) (k next reset : ℕ) (row more : List ℕ) → is_netlist net ≡ true → k < latch_count net → next < 100000 → reset < 100000
    → (row ≡ line next (reset ∷ [])) ⊎ ((reset ≡ 0) × (row ≡ line next []))
    → (literal_of (maximum net) true < next) ⊎ ((1 < reset) × ((reset ≡ literal_of (latch_variable net k) false → ⊥) ⊎ (6 ≤ free_count net k)))
    → length (to_latch net explicit k ++ (row ++ more)) ≤ 65536 → Refuses (to_latch net explicit k ++ (row ++ more)) buf (FaultyLine OutOfLimits (2 + k))
latch_over net buf explicit k next reset row more is l m1 m2 stands over small =
    let w = row_of next reset row stands in
    rw w.1 (latch_limits net buf explicit k is w.0 next reset more l m1 m2 over (rw w.1 at small))

-- ---- what was written

trip : (net : List ℕ) → is_netlist net ≡ true → IsPacked (packed_of net) (take (size_of net) net)
unfolding packed_of
trip net h =
    record {
      netlist = trimmed_netlist net h;
      exact = trimmed_length net h ∙ sym (trimmed_size net);
      explicit = λ _. false;
      is = sym (trimmed_packed net (λ _. false));
    }

back : (net buf : List ℕ) → is_netlist net ≡ true → size_of net ≤ length buf → read_of (packed_of net) buf ≡ read_end (Ok (size_of net)) (take (size_of net) net ++ drop (size_of net) buf)
back net buf h l =
    let e = trimmed_length net h in
    rw e at (takes (packed_of net) (take (size_of net) net) buf (trip net h) (rw e l))

same : (net other : List ℕ) → is_netlist net ≡ true → is_netlist other ≡ true → packed_of net ≡ packed_of other → take (size_of net) net ≡ take (size_of other) other
same net other h g e =
    let a = complete (packed_of net) (take (size_of net) net) (trip net h) in
    let b = complete (packed_of other) (take (size_of other) other) (trip other g) in
    let c : rows (take (size_of net) net) a.0 a.1 ≡ rows (take (size_of other) other) b.0 b.1 = sym a.2 ∙ ap read_packed e ∙ b.2 in
    cc

pub read-means : PackedMeans
unfolding refusal_of packed_header literal_row line
read-means =
    record {
      numbered = λ line. (refl, refl, refl, refl, refl, refl);
      lines = λ n. (refl, λ m ms. refl);
      up_to_latch = up_to_latch;
      up_to_output = up_to_output;
      up_to_gate = up_to_gate;
      takes = takes;
      short = short;
      only = only;
      long = long;
      other = λ text buf bytes small none. other text buf small bytes none;
      back = back;
      same = same;
      header-shape = λ text buf none small. header-shape text buf small (λ h. none h.m h.i h.l h.o h.a h.more h.small.0 h.small.1 h.small.2 h.small.3 h.small.4 h.is);
      header-limits = header-limits;
      latch_shape = λ net buf explicit k more is l none nor. latch_shape net buf explicit k is more l (λ h. none h.n h.more h.small h.is) (λ h. nor h.n h.m h.more h.small.0 h.small.1 h.is);
      latch_limits = latch_over;
      output-shape = λ net buf explicit k more is l none. output-shape net buf explicit k is more l (λ h. none h.n h.more h.small h.is);
      output-limits = λ net buf explicit k lit more is. output-limits net buf explicit k is lit more;
      first-shape = λ net buf explicit k more bytes is l none. first-shape net buf explicit k is more bytes l (λ h. none h.n h.more h.small h.is);
      first-limits = λ net buf explicit k d more is. first-limits net buf explicit k is d more;
      second-shape = λ net buf explicit k d more bytes is l least most none. second-shape net buf explicit k is d more bytes l least most (λ h. none h.n h.more h.small h.is);
      second-limits = λ net buf explicit k d e more is. second-limits net buf explicit k is d e more;
      extra = extra;
    }
