-- Part after part.
use Rattle.printer.specs.Lines.{refused_line}
use Rattle.printer.proofs.Placing.{◌then◌}
use Rattle.printer.proofs.Lines.refused.Goals as goal

pub returns-clause-placed : goal.returns-clause-placed
unfolding refused_line
returns-clause-placed c =
    c.put.ensures.placed then (rw c.from.ensures at c.decimal.ensures.placed) then c.spaced.ensures.placed then c.put-2.ensures.placed
