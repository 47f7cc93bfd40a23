-- Part after part.
use Rattle.printer.specs.Lines.{bind_line}
use Rattle.printer.proofs.Placing.{◌then◌}
use Rattle.printer.proofs.Lines.bind.Goals as goal

pub returns-clause-placed : goal.returns-clause-placed
unfolding bind_line
returns-clause-placed c =
    c.put.ensures.placed then (rw c.from.ensures at c.decimal.ensures.placed) then (rw c.from-2.ensures at c.spaced.ensures.placed)
    then c.images.ensures.placed then c.put-2.ensures.placed
