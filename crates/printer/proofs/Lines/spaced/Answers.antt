-- A space, and right after it the number.
use Rattle.printer.specs.Lines.{spaced}
use Rattle.printer.proofs.Placing.{◌then◌}
use Rattle.printer.proofs.Lines.spaced.Goals as goal

pub returns-clause-placed : goal.returns-clause-placed
unfolding spaced
returns-clause-placed c = c.put.ensures.placed then c.decimal.ensures.placed
