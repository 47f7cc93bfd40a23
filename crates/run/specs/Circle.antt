-- Bindings in any order, whoever made them: which variable stands in the value of which, and from which bindings a run can start. Definitions alone.
use Rattle.std.specs.Prelude.{ℕ, ◌<◌, ◌≡◌, List, [], ◌∷◌, length}
use Rattle.std.proofs.Math.Option.{none, some}
use Rattle.permutation.specs.Table.{Table, Permutes}
use Rattle.nominal.specs.Tree.{Occurs}
use Rattle.problem.specs.Problem.{Node}
use Rattle.run.specs.Meaning.{Side, side_tree, Binding}
use Rattle.run.specs.Run.{value_of}

-- What is asked of each side: its table permutes the problem's atoms and its node is there.
pub record Permuting (atoms : ℕ) (P : Table) : Type 0 where
  pub long : length P ≡ atoms
  pub permutes : Permutes P

pub record Fits (atoms : ℕ) (nodes : List Node) (s : Side) : Type 0 where
  pub images : Permuting atoms s.images
  pub there : s.node < length nodes

-- Y stands in the value of X.
abbrev pub Leads : List Node → List Binding → ℕ → ℕ → Type 0
Leads nodes bs X Y = (v : Side) × (value_of bs X ≡ some v) × Occurs Y (side_tree nodes v)

-- One step or more.
pub data Path (E : ℕ → ℕ → Type 0) : ℕ → ℕ → Type 0 where
  last : {X Y : ℕ} → E X Y → Path E X Y
  onward : {X Y Z : ℕ} → E X Y → Path E Y Z → Path E X Z

-- No variable is on a circle: no "value, looked at through all bindings, contains" its own variable.
abbrev pub NoCircle : List Node → List Binding → Type 0
NoCircle nodes bs = (X : ℕ) → Path (Leads nodes bs) X X → ⊥

-- No variable is bound twice.
abbrev pub BoundOnce : List Binding → Type 0
BoundOnce [] = Unit {0}
BoundOnce (b ∷ bs) = (value_of bs b.variable ≡ none) × BoundOnce bs

-- Bindings from which a run can start: each variable is there and bound once, each value is a side, and there is no circle.
pub record Circleless (atoms variables : ℕ) (nodes : List Node) (bs : List Binding) : Type 0 where
  pub once : BoundOnce bs
  pub few : (X : ℕ) (v : Side) → value_of bs X ≡ some v → X < variables
  pub fits : (X : ℕ) (v : Side) → value_of bs X ≡ some v → Fits atoms nodes v
  pub no_circle : NoCircle nodes bs
