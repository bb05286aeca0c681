-- The calls that make, write and read a netlist: the return code, the buffer, and the result through its pointer,
-- which a refusal leaves as it was. Answer and buffer are those of the call's own definition. Assumes nothing.
use Rattle.std.specs.Prelude.{Result, Ok, Err, Bool, true, false, List, ℕ}
use Rattle.builder.specs.Build as build
use Rattle.builder.specs.Build.{BuildEnd, build_of}
use Rattle.builder.specs.declared.Cause as builder
use Rattle.aiger.specs.Write as write
use Rattle.aiger.specs.declared.Cause.{Cause as AigerCause}
use Rattle.aiger.specs.Write.{WriteEnd, write_of}
use Rattle.packed.specs.Format.{packed_of}
use Rattle.aiger_file.specs.Read as read
use Rattle.aiger_file.specs.declared.Cause.{Cause as FileCause}
use Rattle.aiger_file.specs.Read.{read_of}
use Rattle.ludopoplar.specs.Codes.{accepted_code, code_of}

-- the return code, the lent numbers or bytes, and the result
pub record Filled : Type 0 where
  pub code : ℕ
  pub buffer : List ℕ
  pub result : ℕ

abbrev pub filled : ℕ → List ℕ → ℕ → Filled
filled c b r = record { code = c; buffer = b; result = r }

-- ---- build: the result is the number of gates
unfoldable pub build_as : Result ℕ builder.Cause → List ℕ → ℕ → Filled
build_as (Ok n) net before = filled accepted_code net n
build_as (Err cause) net before = filled (code_of (build.refusal_of cause)) net before

unfoldable pub build_with : Bool → List ℕ → List ℕ → ℕ → Filled
build_with checked graph net before = let e = build_of checked graph net in build_as e.answer e.net before

-- the name of document 01, and that of document 02, No. 7, which adds checked
unfoldable pub build_call : List ℕ → List ℕ → ℕ → Filled
build_call graph net before = build_with false graph net before

unfoldable pub build_checked_call : List ℕ → List ℕ → ℕ → Filled
build_checked_call graph net before = build_with true graph net before

-- ---- write: the result is the number of bytes
unfoldable pub write_as : Result ℕ AigerCause → List ℕ → ℕ → Filled
write_as (Ok n) text before = filled accepted_code text n
write_as (Err cause) text before = filled (code_of (write.refusal_of cause)) text before

unfoldable pub write_with : WriteEnd → ℕ → Filled
write_with e before = write_as e.answer e.text before

-- the name of document 01, and that of document 02, No. 1, for the packed form
unfoldable pub write_call : List ℕ → List ℕ → ℕ → Filled
write_call net text before = write_with (write_of net text) before

unfoldable pub write_packed_call : List ℕ → List ℕ → ℕ → Filled
write_packed_call net bytes before = write_with (write.write_as (packed_of net) net bytes) before

-- ---- read, of a file in either form: the result is the number of numbers
unfoldable pub read_as : Result ℕ FileCause → List ℕ → ℕ → Filled
read_as (Ok n) net before = filled accepted_code net n
read_as (Err cause) net before = filled (code_of (read.refusal_of cause)) net before

unfoldable pub read_call : List ℕ → List ℕ → ℕ → Filled
read_call text net before = let e = read_of text net in read_as e.answer e.net before
