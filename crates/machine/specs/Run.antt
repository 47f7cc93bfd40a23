-- The run in the tables against the definition's run (run, specs/Run.antt). Definitions alone; their laws are in proofs/.
use Rattle.std.specs.Prelude.{ℕ, ◌+◌, ◌≡◌, List, [], length, Result, Ok, Err}
use Rattle.numbers.specs.declared.Reason.TheVariants.{Limit}
use Rattle.numbers.specs.declared.Refusal.{Refusal}
use Rattle.problem.specs.Problem.{Problem}
use Rattle.problem.specs.Held.{problem_of}
use Rattle.problem.specs.Look.{Standing}
use Rattle.problem.specs.Told.{counts_of}
use Rattle.problem.specs.declared.Counts.{Counts}
use Rattle.run.specs.Meaning.{Binding}
use Rattle.run.specs.Run.{Demand, End, limit, refused, finished, equations_from}
use Rattle.run.specs.Circle.{Circleless}
use Rattle.stack.specs.Stack.{Stack, stack_of}
use Rattle.bindings.specs.Bindings.{Bindings, bindings_of, Keeps}
use Rattle.demands.specs.Demands.{Sheet, Raised}
use Rattle.occurs.specs.Reached.{FilledBelow}
use Rattle.perform.specs.Performed.{StepTables, reason_of}
use Rattle.perform.specs.declared.State.{State}
use Rattle.machine.specs.Step.{Footing}
use Rattle.machine.specs.declared.verdict.Ran.{Ran}

-- What a run leans on: the problem that was read stands in the input, c has its numbers, and the sets of its nodes' variables are there.
pub record Ready (s : List ℕ) (places : List ℕ) (variables_of_nodes : List ℕ) (c : Counts) : Type 0 where
  pub standing : Standing s places
  pub counts : c ≡ counts_of (problem_of s)
  pub filled : FilledBelow (problem_of s).nodes variables_of_nodes (length (problem_of s).nodes)

-- Bindings that a run can start from, as the tables have them: whoever made them, in whatever order, they have no circle.
pub record Founded (p : Problem) (t : Bindings) (count bound : ℕ) : Type 0 where
  pub keeps : Keeps t.made count bound
  pub circleless : Circleless p.atoms p.variables p.nodes (bindings_of p.atoms t count)

-- The start: the problem's equations wait, and nothing is demanded yet.
pub record Began (s : List ℕ) (places : List ℕ) (variables_of_nodes : List ℕ) (A : ℕ) (waiting : Stack) (made : Bindings) (asked : Sheet)
    (start : State) : Type 0 where
  pub footing : Footing s places variables_of_nodes A
  pub founded : Founded (problem_of s) made start.count start.bound.0
  pub stack : stack_of A waiting start.waiting ≡ equations_from (problem_of s).atoms 0 (problem_of s).equations
  pub raised : Raised (length (problem_of s).nodes) (problem_of s).variables [] asked

-- What an end gives by itself: a refusal with its place, or nothing where the run is finished, and what comes of it is not known yet.
abbrev pub end_given : End → Result Unit Refusal
end_given (limit n) = Err (record { reason = Limit; place = n })
end_given (refused why n) = Err (record { reason = reason_of why; place = n })
end_given (finished k bs ds) = Ok tt

-- An accepted run: the steps taken, and the bindings and the demands in the tables.
pub record RunFinished (s : List ℕ) (A L : ℕ) (t : StepTables) (r : Result Ran Refusal) (k : ℕ) (bs : List Binding) (ds : List Demand) : Type 0 where
  pub ran : Ran
  pub verdict : r ≡ Ok ran
  pub taken : ran.steps + k ≡ L
  pub made : bindings_of A t.bindings ran.count ≡ bs
  pub keeps : Keeps t.bindings.made ran.count ran.bound.0
  pub raised : Raised (length (problem_of s).nodes) (problem_of s).variables ds t.sheet

-- What each end of the definition's run is in code.
abbrev pub RunEnded : List ℕ → ℕ → ℕ → StepTables → Result Ran Refusal → End → Type 0
RunEnded s A L t r (limit n) = r ≡ Err (record { reason = Limit; place = n })
RunEnded s A L t r (refused why n) = r ≡ Err (record { reason = reason_of why; place = n })
RunEnded s A L t r (finished k bs ds) = RunFinished s A L t r k bs ds
