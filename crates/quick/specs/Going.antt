-- A run on its way: what the tables hold after so many steps, and going on from there by further steps. Definitions alone; their laws are in proofs/.
use Rattle.std.specs.Prelude.{ℕ, ◌-◌, ◌≤◌, ◌≡◌, List, [], length}
use Rattle.sets.specs.Bits.{member}
use Rattle.problem.specs.Held.{problem_of}
use Rattle.run.specs.Meaning.{Binding}
use Rattle.run.specs.Run.{Equation, Demand, End, run, equations_from}
use Rattle.run.specs.Circle.{Circleless}
use Rattle.room.specs.Stacks.{Reaches}
use Rattle.stack.specs.Stack.{stack_tables, stack_of}
use Rattle.stack.specs.declared.Stack.{Stack}
use Rattle.bindings.specs.Bindings.{binding_tables, bindings_of, Keeps}
use Rattle.bindings.specs.declared.Shown.{Shown}
use Rattle.demands.specs.Demands.{sheet, Raised}
use Rattle.demands.specs.declared.Demands.{Demands}
use Rattle.side.specs.Side.{ground_in}
use Rattle.perform.specs.Performed.{StepTables, tables_of}
use Rattle.perform.specs.declared.State.{State}
use Rattle.quick.specs.declared.Went.{Went}

-- The tables as they are lent: what waits and the demands change in place, the bindings are only read.
abbrev pub tables_lent : Stack → Shown → Demands → StepTables
tables_lent s b d =
    tables_of (stack_tables s.heads.now s.images.now) (binding_tables b.made.now b.values.now) (sheet d.asked.now d.firsts.now)

-- What the run of the problem comes to from its start with the bindings `first`, and the variables of the set w protected.
abbrev pub FromStart : List ℕ → ℕ → List Binding → List Equation → List Binding → List Demand → Type 0
FromStart s w first es bs ds = Reaches (ground_in s (member w)) (equations_from (problem_of s).atoms 0 (problem_of s).equations) first [] es bs ds

-- The definition's run from the bindings `first`, with the variables of the set w protected and at most L steps.
abbrev pub end_of : List ℕ → ℕ → ℕ → List Binding → End
end_of s w L first = run (ground_in s (member w)) L (equations_from (problem_of s).atoms 0 (problem_of s).equations) first []

-- The state in the tables, after so many steps from a start with the bindings `first`: the run comes to it, and what is left of the run from there is what
-- the whole run ends with.
pub record Going (s : List ℕ) (A w L : ℕ) (first : List Binding) (t : StepTables) (steps : ℕ) (state : State) : Type 0 where
  pub circleless : Circleless (problem_of s).atoms (problem_of s).variables (problem_of s).nodes first
  pub keeps : Keeps t.bindings.made state.count state.bound.0
  pub demanded : List Demand
  pub reached : FromStart s w first (stack_of A t.stack state.waiting) (bindings_of A t.bindings state.count) demanded
  pub same : end_of s w L first
      ≡ run (ground_in s (member w)) (L - steps) (stack_of A t.stack state.waiting) (bindings_of A t.bindings state.count) demanded
  pub raised : Raised (length (problem_of s).nodes) (problem_of s).variables demanded t.sheet
  pub within : steps ≤ L

-- The same from some start, under some protection.
pub record SomeGoing (s : List ℕ) (A L : ℕ) (t : StepTables) (steps : ℕ) (state : State) : Type 0 where
  pub protected : ℕ
  pub first : List Binding
  pub going : Going s A protected L first t steps state

-- As many equations wait as is told, and the same variables are bound.
abbrev pub state_at : State → Went → State
state_at state r = record { waiting = r.waiting; bound = state.bound; count = state.count }

-- What going on leaves: from whatever start and under whatever protection, the run is on its way still, no step less is taken, and no binding is made.
pub record CarriedOn (s : List ℕ) (A L : ℕ) (before : StepTables) (taken : ℕ) (state : State) (after : StepTables) (r : Went) : Type 0 where
  pub going : (w : ℕ) (first : List Binding) → Going s A w L first before taken state → Going s A w L first after r.steps (state_at state r)
  pub more : taken ≤ r.steps
