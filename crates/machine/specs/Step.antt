-- Where one step is taken, and the definition's step there (run, specs/Run.antt). Definitions alone; their laws are in proofs/.
use Rattle.std.specs.Prelude.{ℕ, ◌≡◌, List, ◌∷◌, length}
use Rattle.sets.specs.Bits.{member}
use Rattle.problem.specs.Held.{problem_of}
use Rattle.problem.specs.Look.{Standing}
use Rattle.run.specs.Meaning.{Binding}
use Rattle.run.specs.Run.{Demand, Step, step}
use Rattle.run.specs.Circle.{Circleless}
use Rattle.stack.specs.Stack.{Stack, stack_of, equation_of}
use Rattle.stack.specs.declared.Pending.{Pending}
use Rattle.occurs.specs.Reached.{FilledBelow}
use Rattle.bindings.specs.Bindings.{Bindings, bindings_of, Keeps}
use Rattle.side.specs.Side.{ground_in}
use Rattle.perform.specs.declared.State.{State}
use Rattle.quick.specs.Going.{FromStart}

-- What every step leans on: the problem that was read stands in the input, A is its number of atoms, and the sets of its nodes' variables are there.
pub record Footing (s : List ℕ) (places : List ℕ) (variables_of_nodes : List ℕ) (A : ℕ) : Type 0 where
  pub standing : Standing s places
  pub number : A ≡ (problem_of s).atoms
  pub filled : FilledBelow (problem_of s).nodes variables_of_nodes (length (problem_of s).nodes)

-- The tables hold a state that the run comes to, with the equation e on top of those that wait.
pub record Present (s : List ℕ) (places : List ℕ) (variables_of_nodes : List ℕ) (A w : ℕ) (waiting : Stack) (made : Bindings) (state : State)
    (e : Pending) : Type 0 where
  pub footing : Footing s places variables_of_nodes A
  pub keeps : Keeps made.made state.count state.bound.0
  pub first : List Binding
  pub circleless : Circleless (problem_of s).atoms (problem_of s).variables (problem_of s).nodes first
  pub demanded : List Demand
  pub reached : FromStart s w first (equation_of A e ∷ stack_of A waiting state.waiting) (bindings_of A made state.count) demanded

-- The definition's step of that equation.
abbrev pub step_here : List ℕ → ℕ → ℕ → Bindings → State → Pending → Step
step_here s A w made state e = step (ground_in s (member w)) (bindings_of A made state.count) (equation_of A e).left (equation_of A e).right
