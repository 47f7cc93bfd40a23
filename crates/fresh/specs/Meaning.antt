-- What resolving leans on in the bindings, whoever made them. Definitions alone.
use Rattle.std.specs.Prelude.{ℕ, ◌<◌, ◌≡◌, List, length}
use Rattle.std.proofs.Math.Option.{none, some}
use Rattle.permutation.specs.Table.{Table, Permutes}
use Rattle.nominal.specs.Tree.{variable, substitute}
use Rattle.problem.specs.Problem.{suspension_form}
use Rattle.run.specs.Meaning.{Side, side_tree, Binding, meaning}
use Rattle.run.specs.Run.{Ground, top, value_of, resolved}

-- The bindings have a meaning: bound variables are there and their values are sides; an unbound variable stands for itself and a bound one for its
-- value; and replacing comes to an end.
pub record Meaningful (g : Ground) (variables : ℕ) (bs : List Binding) : Type 0 where
  pub few : (X : ℕ) (v : Side) → value_of bs X ≡ some v → X < variables
  pub there : (X : ℕ) (v : Side) → value_of bs X ≡ some v → v.node < length g.nodes
  pub long : (X : ℕ) (v : Side) → value_of bs X ≡ some v → length v.images ≡ g.atoms
  pub permutes : (X : ℕ) (v : Side) → value_of bs X ≡ some v → Permutes v.images
  pub free : (X : ℕ) → value_of bs X ≡ none → meaning g.nodes bs X ≡ variable X
  pub worth : (X : ℕ) (v : Side) → value_of bs X ≡ some v → meaning g.nodes bs X ≡ substitute (meaning g.nodes bs) (side_tree g.nodes v)
  pub settles : (s : Side) (P : Table) (X : ℕ) → top g (resolved g bs s) ≡ suspension_form P X → value_of bs X ≡ none
