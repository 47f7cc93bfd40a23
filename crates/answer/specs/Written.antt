-- What a writer leaves in lent bytes. Definitions alone; their laws are in proofs/.
use Rattle.std.specs.Prelude.{ℕ, ◌+◌, ◌≡◌, List, length}
use Rattle.std.proofs.lemmas.List.Edits.{sets}

-- A writer of s was lent d with the index `at`, answered r and left e: s stands in it from `at` on, all else is as it was, and r is where s ends.
pub record Wrote (d : List ℕ) (at : ℕ) (s : List ℕ) (r : ℕ) (e : List ℕ) : Type 0 where
  pub ends : r ≡ at + length s
  pub holds : e ≡ sets d at s
