-- The solver's lines, the judge's line and an empty one.
use Rattle.std.proofs.Common.{rules}
use Rattle.printer.specs.Placed.{Placed}
use Rattle.printer.specs.Lines.{problem_lines}
use Rattle.printer.proofs.Placing.{◌then◌}
use Rattle.printer.proofs.problem_lines.Goals as goal

pub returns : goal.returns
unfolding problem_lines
returns c =
    let a = c.args in
    let all : Placed a.out.now a.at (problem_lines a.solved.number a.solved.place a.output.now a.judged.number a.judged.place) c.put.new.self.at
    c.put.new.self.out.now =
    c.solver.ensures.placed then c.judge.ensures.placed then c.put.ensures.placed in
    search rules
