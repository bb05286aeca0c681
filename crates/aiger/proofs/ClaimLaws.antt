-- THE CLAIM: a netlist is written exactly where there is room for its file, which its own numbers settle and
-- which has at most 65,536 bytes. Assumes nothing.
use Rattle.std.specs.Prelude.{Ok}
use mathlib.Core.Path.{◌≡◌}
use mathlib.Core.Bool.{true, false}
use mathlib.Core.List.{List, ◌++◌}
use Prim.Native.Nat.{ℕ, ◌≤◌}
use lib.ListN.{length, take, drop}
use Rattle.netlist.specs.Layout.{size_of}
use Rattle.netlist.specs.Valid.{is_netlist}
use Rattle.aiger.specs.Format.{file_of}
use Rattle.aiger.specs.Write.{write_end, write_as, write_of}
use Rattle.aiger.specs.Claims.{WriteMeans}
use Rattle.aiger.proofs.WriteLaws.{written, written-only}
use Rattle.aiger.proofs.LengthLaws.{file-length}
use Rattle.aiger.proofs.FormatLaws.{file-same, fronts_same, fronts_netlist}

writes : (net text : List ℕ) → is_netlist net ≡ true → length (file_of net) ≤ length text
    → write_of net text ≡ write_end (Ok (length (file_of net))) (file_of net ++ drop (length (file_of net)) text)
unfolding write_of
writes net text = written (file_of net) net text

only : (net text : List ℕ) (n : ℕ) (after : List ℕ) → write_of net text ≡ write_end (Ok n) after
    → (is_netlist net ≡ true) × (length (file_of net) ≤ length text)
unfolding write_of
only net text n after = written-only (file_of net) net text n after

short : (net : List ℕ) → is_netlist net ≡ true → length (file_of net) ≤ 65536
unfolding file_of
short net h = file-length net h (λ _. false)

own : (net other text : List ℕ) → is_netlist net ≡ true → take (size_of net) other ≡ take (size_of net) net → write_of other text ≡ write_of net text
unfolding write_of write_as file_of
own net other text h e = rw (fronts_netlist other net e h, h, file-same other net (fronts_same other net e) (λ _. false))

pub write_means : WriteMeans
write_means = record { writes = writes; only = only; short = short; own = own }
