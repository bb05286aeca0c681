-- `builder::count::words_gates` meets its contract: the sum so far. Assumes nothing.
use Rattle.std.proofs.Common.{◌≡◌, ◌*◌, ◌≤◌, take}
use Rattle.std.specs.List.{sum_by}
use Rattle.builder.specs.Private.Machine.{named, word_gates}
use Rattle.builder.proofs.count.words_gates.Given as goal

abbrev pub invariant-loop-w : goal.invariant-loop-w
invariant-loop-w l =
    (l.sum ≤ 63 * l.w-index) × (l.sum ≡ sum_by (word_gates (named l.names) l.field) (take l.w-index l.words))
