-- What the contract of write claims of a netlist's packed file and of its byte runs. Assumes nothing.
use Rattle.std.specs.Prelude.{Ok, Err, ◌≡◌, Bool, true, false, List, [], ◌∷◌, ◌++◌, ◌⊎◌, ℕ, suc, ◌+◌, ◌*◌, ◌%◌, ◌<◌, ◌≤◌, length, get_or, take, drop}
use Rattle.text.specs.Quoted.{bytes}
use Rattle.text.specs.Writer.{joined}
use Rattle.netlist.specs.Layout.{size_of}
use Rattle.netlist.specs.Valid.{is_netlist}
use Rattle.aiger.specs.Rows.{line}
use Rattle.aiger.specs.Write.{refusal_of, write_end, write_as}
use Rattle.aiger.specs.declared.Cause.TheVariants.{ShortBuffer, NotNetlist}
use Rattle.packed.specs.Runs.{run}
use Rattle.packed.specs.Format.{packed_latch, packed_gate, packed_with, packed_of}

-- the number of a byte run: seven bits of each byte, lowest first
unfoldable pub value_of : List ℕ → ℕ
value_of [] = 0
value_of (b ∷ s) = b % 128 + 128 * value_of s

-- THE CLAIM, of any number, numbers and buffer lent
pub record WriteMeans : Type 0 where
  -- a byte run has the bits of its number
  pub value : (n : ℕ) → value_of (run n) ≡ n
  -- one byte at least; the last has no top bit, and each before it has
  pub some : (n : ℕ) → 1 ≤ length (run n)
  pub last : (n k : ℕ) → suc k ≡ length (run n) → get_or (run n) k 0 < 128
  pub more : (n k : ℕ) → suc k < length (run n) → (128 ≤ get_or (run n) k 0) × (get_or (run n) k 0 < 256)
  -- as few as can be: the last is 0 only where it is the only one
  pub fewest : (n k : ℕ) → suc (suc k) ≡ length (run n) → 1 ≤ get_or (run n) (suc k) 0
  -- a file is the word `aig`, the header's counts, a line for each latch, the literal of each output in a line, and the
  -- gates, one behind the other
  pub parts : (net : List ℕ) (explicit : ℕ → Bool)
      → packed_with net explicit
      ≡ bytes "aig "
      ++ (line (get_or net 0 0) (get_or net 1 0 ∷ get_or net 2 0 ∷ get_or net 3 0 ∷ get_or net 4 0 ∷ [])
      ++ (joined (packed_latch net explicit) (get_or net 2 0)
      ++ (joined (λ k. line (get_or net (5 + 2 * get_or net 2 0 + k) 0) []) (get_or net 3 0) ++ joined (packed_gate net) (get_or net 4 0))))
  -- in the file that is written no reset 0 is
  pub plain : (net : List ℕ) → packed_of net ≡ packed_with net (λ _. false)
  -- a latch is its next literal; and its reset, as it is, where that is not 0 or is explicit
  pub bare : (net : List ℕ) (explicit : ℕ → Bool) (k : ℕ) → get_or net (5 + 2 * k + 1) 0 ≡ 0 → explicit k ≡ false
      → packed_latch net explicit k ≡ line (get_or net (5 + 2 * k) 0) []
  pub reset : (net : List ℕ) (explicit : ℕ → Bool) (k : ℕ) → (get_or net (5 + 2 * k + 1) 0 ≡ 0 → ⊥) ⊎ (explicit k ≡ true)
      → packed_latch net explicit k ≡ line (get_or net (5 + 2 * k) 0) (get_or net (5 + 2 * k + 1) 0 ∷ [])
  -- a gate is two runs: how far its first operand is below it, and how far the second is below the first
  pub gate : (net : List ℕ) (k : ℕ) → is_netlist net ≡ true → k < get_or net 4 0
      → (d e : ℕ) × (packed_gate net k ≡ run d ++ run e)
      × (get_or net (5 + 2 * get_or net 2 0 + get_or net 3 0 + 2 * k) 0 + d ≡ 2 * (get_or net 1 0 + get_or net 2 0 + 1 + k))
      × (get_or net (5 + 2 * get_or net 2 0 + get_or net 3 0 + 2 * k + 1) 0 + e ≡ get_or net (5 + 2 * get_or net 2 0 + get_or net 3 0 + 2 * k) 0)
  -- a netlist is written where the buffer has room for its file: the file stands first, the surplus stays
  pub writes : (net text : List ℕ) → is_netlist net ≡ true → length (packed_of net) ≤ length text
      → write_as (packed_of net) net text ≡ write_end (Ok (length (packed_of net))) (packed_of net ++ drop (length (packed_of net)) text)
  -- and nowhere else
  pub only : (net text : List ℕ) (n : ℕ) (after : List ℕ) → write_as (packed_of net) net text ≡ write_end (Ok n) after
      → (is_netlist net ≡ true) × (length (packed_of net) ≤ length text)
  -- numbers that are no netlist are 16, then a buffer without room is 12; both leave the buffer as it was
  pub refuses : (net text : List ℕ) → is_netlist net ≡ false → write_as (packed_of net) net text ≡ write_end (Err NotNetlist) text
  pub no_room : (net text : List ℕ) → is_netlist net ≡ true → length text < length (packed_of net)
      → write_as (packed_of net) net text ≡ write_end (Err ShortBuffer) text
  pub numbered : (refusal_of NotNetlist ≡ record { number = 16; line = 0 }) × (refusal_of ShortBuffer ≡ record { number = 12; line = 0 })
  -- a buffer of 28,706 bytes has room for every file, whichever resets 0 are explicit
  pub short : (net : List ℕ) (explicit : ℕ → Bool) → is_netlist net ≡ true → length (packed_with net explicit) ≤ 28706
  -- and some file has as many
  pub longest : (net : List ℕ) × (explicit : ℕ → Bool) × (is_netlist net ≡ true) × (length (packed_with net explicit) ≡ 28706)
  -- the netlist's own numbers settle all of it: surplus numbers say nothing
  pub own : (net other text : List ℕ) → is_netlist net ≡ true → take (size_of net) other ≡ take (size_of net) net
      → write_as (packed_of other) other text ≡ write_as (packed_of net) net text
