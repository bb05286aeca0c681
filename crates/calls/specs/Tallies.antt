-- The caller's tally: cycles, rejected cycles, and cycles with checked high, 32 bits each. Assumes nothing.
use Rattle.std.specs.Prelude.{◌≡◌, Bool, true, false, not, cond, ◌&&◌, ℕ, ◌+◌, ◌<◌, ◌≤◌, leb}
use Rattle.netlist.specs.Lanes.{lane, each}
use Rattle.calls.specs.declared.tally.Tally.{Tally}

-- the tally that start gives
abbrev pub cleared : Tally
cleared = record { cycles = 0; rejected = 0; checked = 0 }

-- a cycle is rejected if any of the 64 lanes of its first output word is 0
unfoldable pub is_rejected : ℕ → Bool
is_rejected w = not (each 64 (λ n. lane n w))

-- document 02, No. 7: "checked high in some lane", where c is its second output word
unfoldable pub is_checked : ℕ → Bool
is_checked c = not (each 64 (λ n. not (lane n c)))

-- the tally after a cycle whose output words are w and c
unfoldable pub counted : Tally → ℕ → ℕ → Tally
counted t w c = record { cycles = t.cycles + 1; rejected = t.rejected + cond (is_rejected w) 1 0; checked = t.checked + cond (is_checked c) 1 0 }

-- no number passes 4,294,967,295 with n new cycles; "17 guards it too, also with O = 1"
unfoldable pub has_room : Tally → ℕ → Bool
has_room t n = leb (t.cycles + n) 4294967295 && (leb (t.rejected + n) 4294967295 && leb (t.checked + n) 4294967295)

-- ---- what these mean
-- some of the 64 lanes of w is this bit
pub record SomeLane (w : ℕ) (bit : Bool) : Type 0 where
  pub number : ℕ
  pub below : number < 64
  pub is : lane number w ≡ bit

-- all of them are
abbrev pub EachLane : ℕ → Bool → Type 0
EachLane w bit = (n : ℕ) → n < 64 → lane n w ≡ bit

-- `after` is the tally t and one cycle more, whose output words are w and c: it is rejected if some lane of w is 0, and
-- counts as checked if some lane of c is 1
pub record CycleMore (t : Tally) (w c : ℕ) (after : Tally) : Type 0 where
  pub cycles : after.cycles ≡ t.cycles + 1
  pub rejected : SomeLane w false → after.rejected ≡ t.rejected + 1
  pub accepted : EachLane w true → after.rejected ≡ t.rejected
  pub checked : SomeLane c true → after.checked ≡ t.checked + 1
  pub unchecked : EachLane c false → after.checked ≡ t.checked

-- each of the three numbers has room for n new cycles
abbrev pub Fits : Tally → ℕ → Type 0
Fits t n = (t.cycles + n ≤ 4294967295) × (t.rejected + n ≤ 4294967295) × (t.checked + n ≤ 4294967295)
