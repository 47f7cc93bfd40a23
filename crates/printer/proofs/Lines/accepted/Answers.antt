-- Part after part.
use Rattle.printer.specs.Lines.{accepted_line}
use Rattle.printer.proofs.Placing.{◌then◌}
use Rattle.printer.proofs.Lines.accepted.Goals as goal

pub returns-clause-placed : goal.returns-clause-placed
unfolding accepted_line
returns-clause-placed c = c.put.ensures.placed then c.decimal.ensures.placed then c.put-2.ensures.placed
