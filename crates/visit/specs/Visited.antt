-- The sets that visiting a node marks, in columns by node and by variable: how marks grow, and what a visit has marked. Definitions alone.
use Rattle.std.specs.Prelude.{ℕ, ◌<◌, ◌≡◌, ◌⊎◌, true, List, length, get_or, set}
use Rattle.std.proofs.Math.Option.{Option}
use Rattle.sets.specs.Bits.{member, union, set_of}
use Rattle.permutation.specs.Swaps.{Swaps, act, inverse}
use Rattle.problem.specs.Problem.{Node, suspension_form, form_at, Problem}
use Rattle.run.specs.Meaning.{Side}
use Rattle.visit.specs.Pairs.{Pair, of_node, of_variable, PairReached, Closed}

-- The pairs that two columns of sets have, in the rows that the problem uses: all other rows may hold anything.
abbrev pub Marked : Problem → List ℕ → List ℕ → Pair → Type 0
Marked p nodes variables (of_node a n) = (n < length p.nodes) × (member (get_or nodes n 0) a ≡ true)
Marked p nodes variables (of_variable a X) = (X < p.variables) × (member (get_or variables X 0) a ≡ true)

-- The atoms of a set, each with one node.
abbrev pub Only : ℕ → ℕ → Pair → Type 0
Only atoms n (of_node a m) = (m ≡ n) × (member atoms a ≡ true)
Only atoms n (of_variable a X) = ⊥

-- A column with more atoms in row i.
unfoldable pub added : List ℕ → ℕ → ℕ → List ℕ
added t i more = set t i (union (get_or t i 0) more)

-- The atoms below k that f sends into the set.
unfoldable pub sent_into : ℕ → (ℕ → ℕ) → ℕ → ℕ
sent_into k f atoms = set_of (λ a. member atoms (f a)) k

-- A pair with a node is looked through within its parts; one with a variable may wait.
abbrev pub Looked : List Node → (ℕ → Option Side) → (Pair → Type 0) → Pair → Type 0
Looked nodes value Mark (of_node a n) = Closed nodes value Mark (of_node a n)
Looked nodes value Mark (of_variable a X) = Unit {0}

-- No mark is lost, and each new one is reached from S and looked through.
pub record MarksGrown (nodes : List Node) (value : ℕ → Option Side) (S Before After : Pair → Type 0) : Type 0 where
  pub kept : (w : Pair) → Before w → After w
  pub new : (w : Pair) → After w → Before w ⊎ (PairReached nodes value S w × Looked nodes value After w)

-- The atoms were visited at a node: whatever the bindings are, visiting does not look at them.
pub record Visited (nodes : List Node) (atoms n : ℕ) (Before After : Pair → Type 0) : Type 0 where
  pub grown : (value : ℕ → Option Side) → MarksGrown nodes value (Only atoms n) Before After
  pub here : (a : ℕ) → member atoms a ≡ true → After (of_node a n)

-- What is marked at suspensions is marked at their variables too, each atom as the one sent to it: nothing is left to ask of them.
abbrev pub Settled : List Node → (Pair → Type 0) → Type 0
Settled nodes Mark =
    (a n X : ℕ) (π : Swaps) → form_at nodes n ≡ suspension_form π X → Mark (of_node a n) → Mark (of_variable (act (inverse π) a) X)
