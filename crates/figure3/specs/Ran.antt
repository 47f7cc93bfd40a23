-- What the states and the ends of a run are in 003's words. Definitions alone; that every run is such is in proofs/.
use Rattle.std.specs.Prelude.{ℕ, ◌+◌, ◌<◌, ◌≡◌, true, List, [], ◌∷◌, ◌++◌, map}
use Rattle.nominal.specs.Tree.{Tree, Substitution, substitute}
use Rattle.nominal.specs.Solutions
use Rattle.problem.specs.Problem.{Node, Problem}
use Rattle.run.specs.Meaning.{side_tree, Binding, meaning}
use Rattle.run.specs.Run.{Equation, Demand, Ground, Refusal, clash, inside, protection, End, limit, refused, finished}
use Rattle.run.specs.Answer.{Asked, asked_raised}
use Rattle.solutions.specs.Promises.{asked}
use Rattle.figure3.specs.Figure3.{AlikeSubstitutions, FirstPhase, NoEquational}

-- The unification problem that a problem of document 01 is, with the given demands: the solver's are those of tags 21 and 22, as in `asked`.
abbrev pub unification_problem : Problem → List Asked → Solutions.TreeProblem
unification_problem p demanded = record { demands = demanded; equations = (asked p).equations }

-- The unification problem that a state of the run is: the equations that wait, and the demands given at the start and those raised, with the
-- meaning of the bindings put in.
abbrev pub put_asked : Substitution → List Asked → List Solutions.TreeDemand
put_asked σ ds = map (λ d. (d.0, substitute σ d.1)) ds

abbrev pub put_equations : List Node → Substitution → List Equation → List Solutions.TreeEquation
put_equations nodes σ es = map (λ e. (substitute σ (side_tree nodes e.left), substitute σ (side_tree nodes e.right))) es

abbrev pub state_problem : Ground → List Asked → List Equation → List Binding → List Demand → Solutions.TreeProblem
state_problem g demanded es bs ds =
    let σ : Substitution = meaning g.nodes bs in
    record { demands = put_asked σ (demanded ++ asked_raised g.nodes ds); equations = put_equations g.nodes σ es }

abbrev pub Protected : Ground → ℕ → Type 0
Protected g X = g.protected X ≡ true

-- A state that n transformations lead to from P, whose composed labels are the meaning of the bindings.
pub record Reached (g : Ground) (demanded : List Asked) (P : Solutions.TreeProblem) (n : ℕ) (es : List Equation) (bs : List Binding) (ds : List Demand) : Type
    0 where
  pub labels : Substitution
  pub sequence : FirstPhase (Protected g) P n labels (state_problem g demanded es bs ds)
  pub meant : AlikeSubstitutions labels (meaning g.nodes bs)

-- A refusing step stands at an equational problem for which there is no transformation: with 9 and 10 none at all, with 11 none that leaves
-- protected variables as they are.
abbrev pub Stuck : Ground → Refusal → Tree → Tree → Type 0
Stuck g clash s t = NoEquational (λ X. ⊥) s t
Stuck g inside s t = NoEquational (λ X. ⊥) s t
Stuck g protection s t = NoEquational (Protected g) s t

-- A state with an equation on top that bears the given number.
pub record Top (g : Ground) (demanded : List Asked) (P : Solutions.TreeProblem) (n number : ℕ) : Type 0 where
  pub equation : Equation
  pub equations : List Equation
  pub bindings : List Binding
  pub demands : List Demand
  pub numbered : equation.number ≡ number
  pub reached : Reached g demanded P n (equation ∷ equations) bindings demands

abbrev pub StuckAt : {g : Ground} {demanded : List Asked} {P : Solutions.TreeProblem} {n number : ℕ} → Refusal → Top g demanded P n number → Type 0
StuckAt {g} r s =
    let σ : Substitution = meaning g.nodes s.bindings in
    Stuck g r (substitute σ (side_tree g.nodes s.equation.left)) (substitute σ (side_tree g.nodes s.equation.right))

-- What a run from P with L steps is, by its end: each counted step is one transformation of the first phase. At the limit L of them have been
-- taken and an equational problem is left; a refusing step counts as taken; and where no equation is left, the first phase is over.
abbrev pub Ran : Ground → List Asked → Solutions.TreeProblem → ℕ → End → Type 0
Ran g demanded P L (limit m) = Top g demanded P L m
Ran g demanded P L (refused r m) = (n : ℕ) × (n < L) × (s : Top g demanded P n m) × StuckAt r s
Ran g demanded P L (finished k bs ds) = (n : ℕ) × (n + k ≡ L) × Reached g demanded P n [] bs ds
