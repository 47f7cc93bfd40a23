-- What is written into lent bytes from an index on: as much as fits, so that no writer has to know beforehand how much there is. Definitions alone.
use Rattle.std.specs.Prelude.{ℕ, ◌+◌, ◌-◌, ◌≤◌, min, ◌≡◌, List, ◌++◌, length, take, drop}

-- The list d with s from index `at` on, as long as d: what is before and after stays, and what goes past the end is left out.
unfoldable pub pasted : List ℕ → ℕ → List ℕ → List ℕ
pasted d at s = take at d ++ take (length d - at) s ++ drop (at + length s) d

-- Where it ends: never past the end of d.
unfoldable pub reached : List ℕ → ℕ → List ℕ → ℕ
reached d at s = min (length d) (at + length s)

-- A writer of s was lent d with the index `at`, answered r and left d'.
pub record Placed (d : List ℕ) (at : ℕ) (s : List ℕ) (r : ℕ) (d' : List ℕ) : Type 0 where
  pub ends : r ≡ reached d at s
  pub holds : d' ≡ pasted d at s
  -- Both follow. They are what lending the part up to r asks for.
  pub within : r ≤ length d'
  pub counts : r ≡ length (take r d')
