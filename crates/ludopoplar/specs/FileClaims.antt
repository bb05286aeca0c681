-- What the contracts of write and read claim of what they return and leave behind their pointers: the names of
-- document 01, and that of document 02, No. 1. Assumes nothing.
use Rattle.std.specs.Prelude.{Err, ◌≡◌, true, false, List, ◌++◌, ℕ, ◌+◌, ◌*◌, ◌^◌, ◌≤◌, ◌<◌, length, drop}
use Rattle.netlist.specs.Valid.{is_netlist}
use Rattle.aiger_file.specs.declared.Cause.{Cause}
use Rattle.aiger_file.specs.Read.{refusal_of, read_of}
use Rattle.aiger_file.specs.Claims.{IsFile, IsWaiting}
use Rattle.ludopoplar.specs.Circuits.{Filled, filled}

-- ---- write, of whichever form: a netlist's file is handed out where it fits, with its length; else numbers that are no
-- netlist are 16, a short buffer is 12, and buffer and result stay as they were
pub record CallWrites (file net before : List ℕ) (was : ℕ) (end : Filled) : Type 0 where
  -- an end has the code, the bytes and the result given
  pub ends : (c : ℕ) (b : List ℕ) (n : ℕ) → ((filled c b n).code ≡ c) × ((filled c b n).buffer ≡ b) × ((filled c b n).result ≡ n)
  pub written : is_netlist net ≡ true → length file ≤ length before → end ≡ filled 0 (file ++ drop (length file) before) (length file)
  pub not-netlist : is_netlist net ≡ false → end ≡ filled (16 * 2 ^ 32) before was
  pub short : is_netlist net ≡ true → length before < length file → end ≡ filled (12 * 2 ^ 32) before was

-- ---- read: a file in either form is taken where its netlist fits, and its numbers are handed out with their count; gates
-- that wait on each other are 23, whatever the buffer; else the code is number × 2^32 + line of what read is refused with,
-- and buffer and result stay as they were
pub record CallReads (text before : List ℕ) (was : ℕ) (end : Filled) : Type 0 where
  -- an end has the code, the numbers and the result given
  pub ends : (c : ℕ) (b : List ℕ) (n : ℕ) → ((filled c b n).code ≡ c) × ((filled c b n).buffer ≡ b) × ((filled c b n).result ≡ n)
  pub taken : (net : List ℕ) → IsFile text net → length net ≤ length before → end ≡ filled 0 (net ++ drop (length net) before) (length net)
  pub short : (net : List ℕ) → IsFile text net → length before < length net → end ≡ filled (12 * 2 ^ 32) before was
  pub waits : IsWaiting text → end ≡ filled (23 * 2 ^ 32) before was
  pub long : 65536 < length text → end ≡ filled (1 * 2 ^ 32) before was
  pub only : end.code ≡ 0 → (net : List ℕ) × IsFile text net × (end ≡ filled 0 (net ++ drop (length net) before) (length net))
  pub refused : (cause : Cause) → (read_of text before).answer ≡ Err cause
      → end ≡ filled ((refusal_of cause).number * 2 ^ 32 + (refusal_of cause).line) before was
