-- All lines of what the two gave back, whole.
use Rattle.std.proofs.Common.{arith}
use Rattle.field.specs.Field.{Bytes}
use Rattle.block.proofs.Fitting.{Small, lines_whole}
use Rattle.block.proofs.lines.Goals as goal

pub returns-clause-out_after : goal.returns-clause-out_after
returns-clause-out_after c =
    let small_solved : Small c.args.solved = (omega (arith, c.well_formed), omega (arith, c.well_formed)) in
    let small_judged : Small c.args.judged = (omega (arith, c.well_formed), omega (arith, c.well_formed)) in
    let bytes : Bytes c.args.output.now = λ i. (c.type_inv.output i).fits in
    lines_whole c.args.solved c.args.judged c.args.output.now small_solved small_judged bytes c.requires c.problem_lines.ensures
