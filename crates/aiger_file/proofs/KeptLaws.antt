-- The number of a faulty line, and that a refusal, of either form, leaves the buffer as it was. Assumes nothing.
use Rattle.std.specs.Prelude.{Result, Ok, Err}
use mathlib.Core.Path.{◌≡◌, refl, ap₂}
use mathlib.Core.Bool.{Bool, true, false, cond, not}
use mathlib.Core.List.{List}
use Prim.Native.Nat.{ℕ, zero, suc}
use lib.Dec.{leb}
use lib.ListN.{length}
use Rattle.text.specs.Quoted.{byte}
use Rattle.gate_order.specs.Placing.{Placing, ordered, waiting, placing_of}
use Rattle.aiger_lines.specs.declared.Fault.{Fault}
use Rattle.aiger_lines.specs.declared.Fault.TheVariants.{WrongShape, OutOfLimits}
use Rattle.aiger_lines.specs.Blocks.{Rows, rows, failed}
use Rattle.aiger_lines.specs.Heads.{has_tag}
use Rattle.aiger_lines.specs.Private.Steps.{number_of}
use Rattle.aiger_read.specs.Files.{file_read}
use Rattle.aiger_read.specs.Read.{max_text, placed_end, read_as as text_read_as, read_of as text_read_of}
use Rattle.packed_read.specs.Files.{read_packed}
use Rattle.packed_read.specs.Read.{read_as as packed_read_as, read_of as packed_read_of}
use Rattle.aiger_file.specs.declared.Cause.{Cause}
use Rattle.aiger_file.specs.declared.Cause.TheVariants.{FaultyLine}
use Rattle.aiger_file.specs.Read.{refusal_of, text_outcome, packed_outcome, ReadEnd, read_end, text_read_end, packed_read_end, read_of}
use Rattle.aiger_file.specs.Claims.{Refuses}

-- the number of a faulty line
pub faulty-line : (e : Fault) (line : ℕ) → refusal_of (FaultyLine e line) ≡ record { number = number_of e; line = line }
unfolding refusal_of number_of
faulty-line WrongShape line = refl
faulty-line OutOfLimits line = refl

-- what a refused end leaves
record Kept (buf : List ℕ) (e : ReadEnd) : Type 0 where
  kept : (cause : Cause) → e.answer ≡ Err cause → e.net ≡ buf

unchanged : {buf : List ℕ} {r : Result ℕ Cause} → Kept buf (read_end r buf)
unchanged = record { kept = λ c is. refl }

numbers : {buf after : List ℕ} {n : ℕ} → Kept buf (read_end (Ok n) after)
numbers = record { kept = λ c is. cc }

-- one of two ends, whatever form they have
one_of : {E : Type 0} {buf : List ℕ} (f : E → ReadEnd) (t : Bool) (x y : E) → Kept buf (f x) → Kept buf (f y) → Kept buf (f (cond t x y))
one_of f true x y k l = k
one_of f false x y k l = l

packed_as : (buf : List ℕ) (x : Rows) → Kept buf (packed_read_end (packed_read_as x buf))
unfolding packed_read_as packed_read_end packed_outcome
packed_as buf (failed e zero) = unchanged
packed_as buf (failed e (suc n)) = unchanged
packed_as buf (rows ns free q) = one_of packed_read_end (not (leb (length ns) (length buf))) _ _ unchanged numbers

packed-kept : (s buf : List ℕ) → Kept buf (packed_read_end (packed_read_of s buf))
unfolding packed_read_of packed_read_end
packed-kept s buf = one_of packed_read_end (not (leb (length s) max_text)) _ _ unchanged (packed_as buf (read_packed s))

placed_as : (buf loose : List ℕ) (x : Placing) → Kept buf (text_read_end (placed_end x loose buf))
unfolding placed_end text_read_end text_outcome
placed_as buf loose (waiting order) = unchanged
placed_as buf loose (ordered order) = one_of text_read_end (not (leb (length loose) (length buf))) _ _ unchanged numbers

text_as : (buf : List ℕ) (x : Rows) → Kept buf (text_read_end (text_read_as x buf))
unfolding text_read_as text_read_end
text_as buf (failed e line) = unchanged
text_as buf (rows loose free q) = placed_as buf loose (placing_of loose)

text-kept : (s buf : List ℕ) → Kept buf (text_read_end (text_read_of s buf))
unfolding text_read_of text_read_end
text-kept s buf = one_of text_read_end (not (leb (length s) max_text)) _ _ unchanged (text_as buf (file_read s))

pub kept : (s buf : List ℕ) (cause : Cause) → (read_of s buf).answer ≡ Err cause → Refuses s buf cause
unfolding read_of
kept s buf cause h =
    ap₂ read_end h ((one_of (λ (e : ReadEnd). e) (has_tag (byte "i") s) _ _ (packed-kept s buf) (text-kept s buf)).kept cause h)
