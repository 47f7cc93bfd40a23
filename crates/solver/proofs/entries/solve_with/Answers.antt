-- The reader's refusals are given back, and a problem is solved.
use Rattle.std.proofs.lemmas.Result.{err_from_is_err_and}
use Rattle.reader.proofs.Given.{read_into, sets_kept}
use Rattle.solver.proofs.Reading.{solve_refused, solve_read}
use Rattle.solver.proofs.entries.solve_with.Goals as goal

pub returns-in_err-c-clause-solved : goal.returns-in_err-c-clause-solved
returns-in_err-c-clause-solved c =
    let gives = err_from_is_err_and c.from_residual.result c.from_residual.ensures.1 in
    rw (gives.1, gives.2) (solve_refused c.read.ensures _ c.in_err-c.was)

pub solve_read-requires : goal.solve_read-requires
solve_read-requires c =
    let read = c.read.ensures in
    (read_into _ _ _ read c.in_ok-c.was, sets_kept _ _ _ read c.in_ok-c.was)

pub returns-clause-solved : goal.returns-clause-solved
returns-clause-solved c = solve_read c.read.ensures _ c.in_ok-c.was c.solve_read.ensures.solved
