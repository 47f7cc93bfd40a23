-- The reader's refusals are given back, and a problem is judged.
use Rattle.std.proofs.lemmas.Result.{err_from_is_err_and}
use Rattle.reader.proofs.Given.{read_into, sets_kept}
use Rattle.solver.proofs.Reading.{judge_refused, judge_read}
use Rattle.solver.proofs.entries.judge_with.Goals as goal

pub returns-in_err-c-clause-judged : goal.returns-in_err-c-clause-judged
returns-in_err-c-clause-judged c =
    let gives = err_from_is_err_and c.from_residual.result c.from_residual.ensures.1 in
    rw (gives.1, gives.2) (judge_refused c.read.ensures c.in_err-c.was)

pub judge_read-requires : goal.judge_read-requires
judge_read-requires c =
    let read = c.read.ensures in
    (read_into _ _ _ read c.in_ok-c.was, sets_kept _ _ _ read c.in_ok-c.was)

pub returns-clause-judged : goal.returns-clause-judged
returns-clause-judged c = judge_read c.read.ensures c.in_ok-c.was c.judge_read.ensures.judged
