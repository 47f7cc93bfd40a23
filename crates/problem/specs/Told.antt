-- What the code tells of a problem that was read, in its own types, and what those after the reader are given. Definitions alone.
use Rattle.std.specs.Prelude.{ℕ, ◌<◌, ◌≡◌, List, [], ◌∷◌, length}
use Rattle.sets.specs.Bits.{member, inserted, among}
use Rattle.problem.specs.Problem.{Problem}
use Rattle.problem.specs.Held.{assumes, assumed_for, problem_of}
use Rattle.problem.specs.Look.{Standing}
use Rattle.problem.specs.declared.Counts.{Counts}

-- The set of the variables in a list, one after the other put to those already there.
abbrev pub all_in : ℕ → List ℕ → ℕ
all_in w [] = w
all_in w (X ∷ l) = all_in (inserted 64 w X) l

-- A problem's numbers: how many there are of each, the step limit, and the protected variables as a set.
unfoldable pub counts_of : Problem → Counts
counts_of p =
    record {
      atoms = p.atoms;
      variables = p.variables;
      limit = p.limit;
      nodes = length p.nodes;
      equations = length p.equations;
      freshness = length p.freshness;
      protected = record { 0 = all_in 0 p.protected };
    }

-- The input was read as a problem: it stands where the table says, its numbers are told, and the sets have what is assumed and who is protected.
pub record ReadInto (s : List ℕ) (places : List ℕ) (assumed : List ℕ) (c : Counts) : Type 0 where
  pub standing : Standing s places
  pub counts : c ≡ counts_of (problem_of s)
  pub assumptions : (a X : ℕ) → X < (problem_of s).variables → member (assumed_for assumed X) a ≡ assumes (problem_of s).assumptions a X
  pub protected : (X : ℕ) → member c.protected.0 X ≡ among X (problem_of s).protected
