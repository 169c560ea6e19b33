-- Bytes that are written one by one, under a power that may cut them short.
use Rattle.std.specs.Prelude.{ℕ, ◌-◌, cond, List, ◌++◌, length, take, drop, Some, None, Option, nat_le, slice_set, Bool, ◌%◌, ◌||◌, ◌==◌}
use Rattle.store.specs.declared.power.Power.{Power}

-- so many bytes from a place on
abbrev pub part : (place size : ℕ) → List ℕ → List ℕ
part place size bytes = take size (drop place bytes)

-- The power that is left after so many byte writes, unless it ran out before.
abbrev pub spent : ℕ → Option Power → Option Power
spent n None = None
spent n (Some power) = cond (nat_le n power.budget) (Some (record { budget = power.budget - n; residue = power.residue })) None

-- Bytes that are overwritten one by one: as many as the budget reaches are new, the one after them
-- holds the residue, and the others are as they were.
abbrev pub overwritten : Power → (new old : List ℕ) → List ℕ
overwritten power new old = take power.budget new ++ drop power.budget (slice_set old power.budget power.residue)

-- the same for the part from `place` on; without power nothing is written
abbrev pub overwritten_at : Option Power → (place : ℕ) → (new bytes : List ℕ) → List ℕ
overwritten_at None place new bytes = bytes
overwritten_at (Some power) place new bytes =
    take place bytes ++ (overwritten power new (part place (length new) bytes) ++ drop (length new) (drop place bytes))

-- whether the last byte write lands: where it is caught, it does with an odd residue
abbrev pub lands : Power → Bool
lands power = nat_le 1 power.budget || power.residue % 2 == 1
