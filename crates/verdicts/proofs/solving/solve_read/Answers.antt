-- The run's refusal is given back as it is, or what comes after its end. It was the solver's run, whatever the tables of bindings held.
use mathlib.Core.Path.{refl, sym, ◌∙◌, ap}
use Rattle.std.proofs.lemmas.Result.{err_from_is_err_and}
use Rattle.sets.specs.Bits.{member}
use Rattle.problem.specs.Held.{problem_of}
use Rattle.run.specs.Run.{run_of}
use Rattle.machine.specs.Run.{end_given}
use Rattle.verdicts.proofs.Runs.{founded_none, solver_run, solved_refused, solved_finished}
use Rattle.verdicts.proofs.solving.solve_read.Goals as goal

pub run_read-requires-clause-founded : goal.run_read-requires-clause-founded
run_read-requires-clause-founded c = founded_none _ _ c.empty-none.ensures

pub returns-in_err-ran-clause-solved : goal.returns-in_err-ran-clause-solved
returns-in_err-ran-clause-solved c =
    let p = problem_of c.args.input.now.bytes.now in
    let run = solver_run p c.requires.0.standing.readable (member c.args.c.protected.0) _ (λ X l. c.requires.0.protected X) in
    let gives = err_from_is_err_and c.from_residual.result c.from_residual.ensures.1 in
    rw (gives.1, gives.2) (solved_refused p _ (run_of p) (ap end_given (sym run) ∙ c.run_read.ensures.ended.refused _ c.in_err-ran.was))

pub returns-clause-solved : goal.returns-clause-solved
returns-clause-solved c =
    let p = problem_of c.args.input.now.bytes.now in
    let run = solver_run p c.requires.0.standing.readable (member c.args.c.protected.0) _ (λ X l. c.requires.0.protected X) in
    let (ended, ends) = c.in_ok-ran.ensures.ended.accepted _ refl in
    let (made, values) = c.shown-bindings.ensures in
    solved_finished p c.args.output.now (sym ends ∙ run) ((rw (made, values) at c.conclude.ensures) ended)
