-- The definition's run under any protection from any bindings, and what a run in the tables says of it. Definitions alone; their laws are in
-- proofs/.
use Rattle.std.specs.Prelude.{ℕ, ◌≡◌, Bool, List, [], Result, Ok, Err}
use Rattle.numbers.specs.declared.Refusal.{Refusal}
use Rattle.problem.specs.Problem.{Problem}
use Rattle.run.specs.Meaning.{Binding}
use Rattle.run.specs.Run.{End, run, equations_from}
use Rattle.bindings.specs.Bindings.{Bindings}
use Rattle.machine.specs.Run.{end_given}
use Rattle.machine.specs.declared.verdict.Ran.{Ran}
use Rattle.ending.specs.Ended.{Ended, end_in}

-- The problem's run with some variables protected, from given bindings.
abbrev pub run_from : Problem → (ℕ → Bool) → List Binding → End
run_from p is_protected first =
    run (record { atoms = p.atoms; nodes = p.nodes; protected = is_protected }) p.limit (equations_from p.atoms 0 p.equations) first []

-- The definition's run ends as is given back, and after an accepted one the tables are such as the ending asks for.
pub record RunEnds (p : Problem) (t : Bindings) (asked : List (List ℕ)) (r : Result Ran Refusal) (x : End) : Type 0 where
  pub refused : (f : Refusal) → r ≡ Err f → end_given x ≡ Err f
  pub accepted : (ran : Ran) → r ≡ Ok ran → (e : Ended p t ran.count ran.bound.0 asked ran.steps) × (x ≡ end_in e)
