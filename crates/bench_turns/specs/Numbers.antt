-- The bench's 33 numbers: for each machine how many cycles wait and the three numbers of its tally; then the machine
-- served last. Assumes nothing.
use Rattle.std.specs.Prelude.{Bool, ◌&&◌, List, ℕ, ◌+◌, ◌*◌, leb, ltb, length, get_or, set}
use Rattle.netlist.specs.Layout.{input_count}
use Rattle.netlist.specs.Lanes.{each}
use Rattle.netlist.specs.Valid.{is_netlist}
use Rattle.calls.specs.declared.tally.Tally.{Tally}
use Rattle.bench_turns.specs.Parts.{part_of, cycles_in, are_cycles}

-- how many cycles wait for machine k
abbrev pub waiting_of : ℕ → List ℕ → ℕ
waiting_of k bench = get_or bench (4 * k) 0

abbrev pub tally_of : ℕ → List ℕ → Tally
tally_of k bench = record { cycles = get_or bench (4 * k + 1) 0; rejected = get_or bench (4 * k + 2) 0; checked = get_or bench (4 * k + 3) 0 }

-- the machine served last
abbrev pub last_of : List ℕ → ℕ
last_of bench = get_or bench 32 0

-- a cycle waits for machine k
unfoldable pub waits : ℕ → List ℕ → Bool
waits k bench = ltb 0 (waiting_of k bench)

-- ---- the numbers afterwards
abbrev pub with_waiting : ℕ → ℕ → List ℕ → List ℕ
with_waiting k n bench = set bench (4 * k) n

abbrev pub with_tally : ℕ → Tally → List ℕ → List ℕ
with_tally k t bench = set (set (set bench (4 * k + 1) t.cycles) (4 * k + 2) t.rejected) (4 * k + 3) t.checked

abbrev pub with_last : ℕ → List ℕ → List ℕ
with_last k bench = set bench 32 k

-- ---- a bench
-- a place: a netlist; at most 16 cycles wait, in whole slots; and 15 would refuse none of them
unfoldable pub is_place : List ℕ → ℕ → List ℕ → Bool
is_place net n queue =
    is_netlist net
    && (leb n 16
    && (leb (64 * n) (length queue)
    && are_cycles (input_count net) (cycles_in (input_count net) n queue)))

-- 33 numbers, one of the eight served last, and eight places
unfoldable pub is_bench : List ℕ → List ℕ → List ℕ → Bool
is_bench nets queues bench =
    leb 33 (length bench)
    && (leb (last_of bench) 7
    && each 8 (λ k. is_place (part_of k nets) (waiting_of k bench) (part_of k queues)))
