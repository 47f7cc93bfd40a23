-- Part after part.
use Rattle.std.proofs.Common.{rules}
use Rattle.printer.specs.Placed.{Placed}
use Rattle.printer.specs.Lines.{cut_line}
use Rattle.printer.proofs.Placing.{◌then◌}
use Rattle.printer.proofs.cut_line.Goals as goal

pub returns : goal.returns
unfolding cut_line
returns c =
    let all : Placed c.args.out.now c.args.at (cut_line c.args.count) c.put-3.new.self.at c.put-3.new.self.out.now =
    c.put.ensures.placed then c.decimal.ensures.placed then c.put-2.ensures.placed then c.put-3.ensures.placed in
    search rules
