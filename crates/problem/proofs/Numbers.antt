-- The numbers that the reader refuses with: "After reading, the run gives 8 to 12", so a number tells who refused.
use Prim.Native.Nat.{ℕ, ◌≤◌}
use mathlib.Core.Bool.{Bool}
use mathlib.Core.List.{List}
use lib.ListN.{length}
use Rattle.problem.specs.Reader.{Reading, read, unreadable, reading}
use Rattle.problem.proofs.Refusals.{WellPlaced, well_placed}

-- "1 comes before all" up to 7.
abbrev pub OneToSeven : Reading → Type 0
OneToSeven (read p) = Unit {0}
OneToSeven (unreadable n o) = (1 ≤ n) × (n ≤ 7)

pub reading_number : (known : ℕ → Bool) (s : List ℕ) → OneToSeven (reading known s)
reading_number known s = by_reading (reading known s) (well_placed known s)
  where
    by_reading : (r : Reading) → WellPlaced (length s) r → OneToSeven r
    by_reading (read p) h = tt
    by_reading (unreadable n o) h = (h.1, h.2)
