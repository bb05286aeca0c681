-- What the contract of read claims of both forms: it takes exactly their files, and what was written in either form
-- reads as the same netlist. Assumes nothing.
use Rattle.std.specs.Prelude.{Result, Ok, Err, ◌≡◌, Bool, true, false, List, ◌++◌, ◌⊎◌, ℕ, ◌<◌, ◌≤◌, length, get_or, take, drop}
use Rattle.text.specs.Quoted.{bytes}
use Rattle.netlist.specs.Layout.{size_of}
use Rattle.netlist.specs.Valid.{is_netlist}
use Rattle.gate_order.specs.Order.{PlacedAs, Stuck}
use Rattle.aiger.specs.Format.{file_with, file_of}
use Rattle.packed.specs.Format.{packed_with, packed_of}
use Rattle.aiger_lines.specs.declared.Fault.{Fault}
use Rattle.aiger_lines.specs.declared.Fault.TheVariants.{WrongShape, OutOfLimits}
use Rattle.aiger_read.specs.declared.Cause.{Cause as TextCause}
use Rattle.aiger_read.specs.Read.{refusal_of as text_refusal_of, read_end as text_end, read_of as text_read_of}
use Rattle.aiger_read.specs.Claims.{IsFile as IsText}
use Rattle.packed_read.specs.declared.Cause.{Cause as PackedCause}
use Rattle.packed_read.specs.declared.Cause.TheVariants.{FaultyRun as PackedRun}
use Rattle.packed_read.specs.Read.{refusal_of as packed_refusal_of, read_end as packed_end, read_of as packed_read_of}
use Rattle.aiger_file.specs.declared.Cause.{Cause}
use Rattle.aiger_file.specs.declared.Cause.TheVariants.{TextTooLong, ShortBuffer, FaultyLine, FaultyRun, WaitingGates}
use Rattle.aiger_file.specs.Read.{refusal_of, read_end, read_of}

-- the two forms
pub data Form : Type 0 where
  ascii : Form
  packed : Form

-- the file that is written of a netlist in a form
unfoldable pub written_in : Form → List ℕ → List ℕ
written_in ascii net = file_of net
written_in packed net = packed_of net

-- a text is a file in one of the forms, and gives the netlist net: in the text form its gates come in any order, and net
-- has them placed; in either form some of the resets 0 may be explicit
pub data IsFile : List ℕ → List ℕ → Type 0 where
  text-file : {text net : List ℕ} (loose : List ℕ) → IsText text loose → PlacedAs loose net → IsFile text net
  packed-file : {text net : List ℕ} (explicit : ℕ → Bool) → is_netlist net ≡ true → length net ≡ size_of net → text ≡ packed_with net explicit → IsFile text net

-- a text is a file of the text form whose gates wait on each other
pub record IsWaiting (text : List ℕ) : Type 0 where
  pub loose : List ℕ
  pub file : IsText text loose
  pub stuck : Stuck loose

-- what a read is refused with, the buffer as it was
abbrev pub Refuses : List ℕ → List ℕ → Cause → Type 0
Refuses text buf cause = read_of text buf ≡ read_end (Err cause) buf

-- THE CLAIM, of any text and any buffer lent
pub record ReadMeans : Type 0 where
  -- an end has the answer and the numbers given
  pub ends : (r : Result ℕ Cause) (n : List ℕ) → ((read_end r n).answer ≡ r) × ((read_end r n).net ≡ n)
  -- the causes have the numbers of the documents' tables
  pub numbered : (line : ℕ) → (refusal_of TextTooLong ≡ record { number = 1; line = 0 }) × (refusal_of ShortBuffer ≡ record { number = 12; line = 0 })
      × (refusal_of (FaultyLine WrongShape line) ≡ record { number = 13; line = line }) × (refusal_of (FaultyLine OutOfLimits line) ≡ record { number = 14; line = line })
      × (refusal_of (FaultyRun WrongShape) ≡ record { number = 18; line = 0 }) × (refusal_of (FaultyRun OutOfLimits) ≡ record { number = 14; line = 0 })
      × (refusal_of WaitingGates ≡ record { number = 23; line = 0 })
  -- the first word `aig` tells the packed form, whose reader answers: what that takes gives the same numbers, and what that
  -- refuses is refused with the same number and line; both leave the buffer that it leaves
  pub word : (more buf : List ℕ) (n : ℕ) (after : List ℕ) → packed_read_of (bytes "aig " ++ more) buf ≡ packed_end (Ok n) after
      → read_of (bytes "aig " ++ more) buf ≡ read_end (Ok n) after
  pub word-told : (more buf : List ℕ) (cause : PackedCause) (after : List ℕ) → packed_read_of (bytes "aig " ++ more) buf ≡ packed_end (Err cause) after
      → (same : Cause) × (read_of (bytes "aig " ++ more) buf ≡ read_end (Err same) after) × (refusal_of same ≡ packed_refusal_of cause)
  -- a byte run's fault is one there too
  pub run-told : (more buf : List ℕ) (fault : Fault) (after : List ℕ) → packed_read_of (bytes "aig " ++ more) buf ≡ packed_end (Err (PackedRun fault)) after
      → read_of (bytes "aig " ++ more) buf ≡ read_end (Err (FaultyRun fault)) after
  -- whatever else is read as the reader of the text form reads it, in the same way
  pub taken : (text buf : List ℕ) (n : ℕ) (after : List ℕ) → ((more : List ℕ) → text ≡ bytes "aig " ++ more → ⊥)
      → text_read_of text buf ≡ text_end (Ok n) after → read_of text buf ≡ read_end (Ok n) after
  pub told : (text buf : List ℕ) (cause : TextCause) (after : List ℕ) → ((more : List ℕ) → text ≡ bytes "aig " ++ more → ⊥)
      → text_read_of text buf ≡ text_end (Err cause) after
      → (same : Cause) × (read_of text buf ≡ read_end (Err same) after) × (refusal_of same ≡ text_refusal_of cause)
  -- a text that begins with neither word has a header of the wrong shape
  pub neither : (text buf : List ℕ) → ((more : List ℕ) → text ≡ bytes "aig " ++ more → ⊥) → ((more : List ℕ) → text ≡ bytes "aag " ++ more → ⊥)
      → length text ≤ 65536 → Refuses text buf (FaultyLine WrongShape 1)
  -- a file in either form is taken where the buffer has room for its netlist: the numbers stand first, the surplus stays
  pub takes : (text net buf : List ℕ) → IsFile text net → length net ≤ length buf
      → read_of text buf ≡ read_end (Ok (length net)) (net ++ drop (length net) buf)
  -- and refused as such where it has none
  pub short : (text net buf : List ℕ) → IsFile text net → length buf < length net → Refuses text buf ShortBuffer
  -- gates that wait on each other are refused as such, whatever the buffer
  pub waits : (text buf : List ℕ) → IsWaiting text → Refuses text buf WaitingGates
  -- what is taken, of bytes, is a file in one of the forms, and gives the numbers of its netlist
  pub only : (text buf : List ℕ) (n : ℕ) (after : List ℕ) → ((k : ℕ) → get_or text k 0 < 256) → read_of text buf ≡ read_end (Ok n) after
      → (net : List ℕ) × IsFile text net × (is_netlist net ≡ true) × (n ≡ length net) × (after ≡ net ++ drop n buf)
  -- and what is refused for gates that wait on each other has such gates
  pub stuck : (text buf after : List ℕ) → read_of text buf ≡ read_end (Err WaitingGates) after → IsWaiting text
  -- a text of more than 65,536 bytes is refused as such
  pub long : (text buf : List ℕ) → 65536 < length text → Refuses text buf TextTooLong
  -- any other text that is no file in either form is refused at a faulty line or for a byte run
  pub other : (text buf : List ℕ) → ((k : ℕ) → get_or text k 0 < 256) → length text ≤ 65536 → ((net : List ℕ) → IsFile text net → ⊥) → (IsWaiting text → ⊥)
      → ((fault : Fault) × (line : ℕ) × Refuses text buf (FaultyLine fault line)) ⊎ ((fault : Fault) × Refuses text buf (FaultyRun fault))
  -- and whatever is refused leaves the buffer as it was
  pub kept : (text buf : List ℕ) (cause : Cause) → (read_of text buf).answer ≡ Err cause → Refuses text buf cause
  -- no reset 0 is written
  pub plain : (net : List ℕ) → (file_of net ≡ file_with net (λ _. false)) × (packed_of net ≡ packed_with net (λ _. false))
  pub written : (net : List ℕ) → (written_in ascii net ≡ file_of net) × (written_in packed net ≡ packed_of net)
  -- what was written of a netlist in either form, whatever its surplus, reads as the same numbers
  pub back : (form : Form) (net buf : List ℕ) → is_netlist net ≡ true → size_of net ≤ length buf
      → read_of (written_in form net) buf ≡ read_end (Ok (size_of net)) (take (size_of net) net ++ drop (size_of net) buf)
  -- so both forms read alike, whatever the buffer
  pub either : (form other : Form) (net buf : List ℕ) → is_netlist net ≡ true → read_of (written_in form net) buf ≡ read_of (written_in other net) buf
  -- netlists with the same text, written in whichever forms, are the same
  pub same : (form shape : Form) (net other : List ℕ) → is_netlist net ≡ true → is_netlist other ≡ true → written_in form net ≡ written_in shape other
      → take (size_of net) net ≡ take (size_of other) other
  -- and no text is a file in both forms
  pub apart : (text loose other : List ℕ) (explicit : ℕ → Bool) → IsText text loose → text ≡ packed_with other explicit → ⊥
