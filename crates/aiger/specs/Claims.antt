-- What the contract of write claims of a netlist's file. Assumes nothing.
use Rattle.std.specs.Prelude.{Ok, ◌≡◌, true, List, ◌++◌, ℕ, ◌≤◌, length, take, drop}
use Rattle.netlist.specs.Layout.{size_of}
use Rattle.netlist.specs.Valid.{is_netlist}
use Rattle.aiger.specs.Format.{file_of}
use Rattle.aiger.specs.Write.{write_end, write_of}

-- THE CLAIM, of any numbers and any buffer lent
pub record WriteMeans : Type 0 where
  -- a netlist is written where the buffer has room for its file: the file stands first, the surplus stays
  pub writes : (net text : List ℕ) → is_netlist net ≡ true → length (file_of net) ≤ length text
      → write_of net text ≡ write_end (Ok (length (file_of net))) (file_of net ++ drop (length (file_of net)) text)
  -- and nowhere else
  pub only : (net text : List ℕ) (n : ℕ) (after : List ℕ) → write_of net text ≡ write_end (Ok n) after
      → (is_netlist net ≡ true) × (length (file_of net) ≤ length text)
  -- a buffer of 65,536 bytes has room for every file
  pub short : (net : List ℕ) → is_netlist net ≡ true → length (file_of net) ≤ 65536
  -- the netlist's own numbers settle all of it: surplus numbers say nothing
  pub own : (net other text : List ℕ) → is_netlist net ≡ true → take (size_of net) other ≡ take (size_of net) net
      → write_of other text ≡ write_of net text
