-- The digits before the last one, and right after them the last.
use Rattle.printer.proofs.Placing.{◌then◌}
use Rattle.printer.proofs.Spelling.{decimal_small, decimal_more}
use Rattle.printer.proofs.Lines.+decimal.Goals as goal

pub returns-clause-placed : goal.returns-clause-placed
returns-clause-placed t c =
    elim c.if-x-ge10.branch [
      | goal.then-x-ge10 w ↦
          rw (decimal_more c.args.x w.if-x-ge10.true) (w.decimal.ensures.placed then (rw w.self-is at c.put.ensures.placed))
      | goal.else-x-ge10 w ↦ rw (decimal_small c.args.x w.if-x-ge10.false) (rw w.self-is at c.put.ensures.placed)
    ]
