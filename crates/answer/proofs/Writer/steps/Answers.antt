-- The field's front, the number.
use Rattle.std.proofs.Common.{◌∙◌, arith}
use Rattle.answer.proofs.Writing.{wrote_length, wrote_same, ◌then◌}
use Rattle.answer.proofs.Fields.{length_two, four_bytes, steps_parts}
use Rattle.answer.proofs.Writer.steps.Goals as goal

pub put_all-requires : goal.put_all-requires
put_all-requires c = omega (arith, length_two 4, wrote_length c.front.ensures.wrote)

pub returns-clause-wrote : goal.returns-clause-wrote
returns-clause-wrote c =
    wrote_same (steps_parts c.args.steps)
    (c.front.ensures.wrote then wrote_same (c.to_be_bytes.ensures ∙ four_bytes c.args.steps) c.put_all.ensures.wrote)
