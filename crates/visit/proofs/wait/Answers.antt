-- The node's bit is set in its word.
use Rattle.std.proofs.Common.{ap, get_or, set, arith, ◌/◌, ◌%◌}
use Rattle.sets.proofs.Bits.{or_shift}
use Rattle.visit.specs.Parts.{with_late}
use Rattle.visit.proofs.wait.Goals as goal

pub returns : goal.returns
unfolding with_late
returns c =
    let late = c.args.late.now in
    let i = c.args.node / 64 in
    rw c.from.ensures (ap (set late i) (or_shift 64 (get_or late i 0) (c.args.node % 64) (omega arith)))
