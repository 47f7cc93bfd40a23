-- The occurs check over sets of variables: which set belongs to a node, and which variables are reached from a node through bindings. Definitions
-- alone; that the reached ones are those of the tree under the bindings' meaning is shown in proofs/.
use Rattle.std.specs.Prelude.{ℕ, ◌<◌, ◌≡◌, Bool, true, get_or}
use mathlib.Core.List.{List, Memᴰ}
use Rattle.std.proofs.Math.Option.{some}
use Rattle.sets.specs.Bits.{member}
use Rattle.problem.specs.Problem.{Node}
use Rattle.run.specs.Meaning.{tree, occurs_in, Side, Binding}
use Rattle.run.specs.Run.{value_of}
use Rattle.bindings.specs.Bindings.{node_of}

-- The set w holds the variables that occur in the tree of node n.
abbrev pub VariablesOf : List Node → ℕ → ℕ → Type 0
VariablesOf nodes n w = (X : ℕ) → member w X ≡ occurs_in X (tree nodes n)

-- The table has the sets of the nodes below k.
abbrev pub FilledBelow : List Node → List ℕ → ℕ → Type 0
FilledBelow nodes variables_of_nodes k = (n : ℕ) → n < k → VariablesOf nodes n (get_or variables_of_nodes n 0)

-- The set that a bound variable is looked through to: that of its value's node.
abbrev pub behind : List (List ℕ) → List ℕ → ℕ → ℕ
behind made variables_of_nodes Y = get_or variables_of_nodes (node_of made Y) 0

-- A variable is reached from a set of variables if it is in it, or occurs in the node that a bound variable which is reached has for its value.
pub data VariableReached (bound : ℕ) (made : List (List ℕ)) (variables_of_nodes : List ℕ) (start : ℕ) : ℕ → Type 0 where
  inside : {X : ℕ} → member start X ≡ true → VariableReached bound made variables_of_nodes start X
  through : {X Y : ℕ} → VariableReached bound made variables_of_nodes start Y → member bound Y ≡ true → member (behind made variables_of_nodes Y) X ≡ true
      → VariableReached bound made variables_of_nodes start X

-- The set of those that are reached: it has all of the start, it is closed under bindings, and it has no others.
pub record Closure (bound : ℕ) (made : List (List ℕ)) (variables_of_nodes : List ℕ) (start w : ℕ) : Type 0 where
  pub holds : (X : ℕ) → member start X ≡ true → member w X ≡ true
  pub closed : (X Y : ℕ) → member w Y ≡ true → member bound Y ≡ true → member (behind made variables_of_nodes Y) X ≡ true → member w X ≡ true
  pub reached : (X : ℕ) → member w X ≡ true → VariableReached bound made variables_of_nodes start X

-- The answer for the variable X and node n: whether X is in the set of those that are reached from n's.
pub record OccursAnswered (bound : ℕ) (made : List (List ℕ)) (variables_of_nodes : List ℕ) (n X : ℕ) (r : Bool) : Type 0 where
  pub set : ℕ
  pub closure : Closure bound made variables_of_nodes (get_or variables_of_nodes n 0) set
  pub answer : r ≡ member set X

-- How the bindings stand in a set and a table: the variable of each is in the set and the table has its value's node, and each of the set has a value.
pub record Rooted (bs : List Binding) (bound : ℕ) (made : List (List ℕ)) : Type 0 where
  pub each : (b : Binding) → Memᴰ b bs → (member bound b.variable ≡ true) × (node_of made b.variable ≡ b.value.node)
  pub valued : (Y : ℕ) → member bound Y ≡ true → (v : Side) × (value_of bs Y ≡ some v) × (node_of made Y ≡ v.node)
