use Rattle.std.proofs.Common.{arith}
use Rattle.printer.proofs.Placing.{placed_past, placed_part}
use Rattle.printer.proofs.put.Goals as goal

pub returns-then-out-at : goal.returns-then-out-at
returns-then-out-at c = placed_past _ _ _ c.if-out-at.true

pub returns : goal.returns
returns c =
    placed_part c.args.out.now c.args.s.now _ c.args.at c.min-fits.result _ c.if-out-at.false c.min-fits.ensures c.copy_from_slice.ensures.after (omega arith)
