-- The field's front, the atom, the variable.
use Rattle.std.proofs.Common.{arith}
use Rattle.answer.proofs.Writing.{wrote_length, wrote_same, ◌then◌}
use Rattle.answer.proofs.Fields.{length_two, fact_parts}
use Rattle.answer.proofs.Writer.fact.Goals as goal

pub put_all-requires : goal.put_all-requires
put_all-requires c = omega (arith, length_two 2, wrote_length c.front.ensures.wrote)

pub returns-clause-wrote : goal.returns-clause-wrote
returns-clause-wrote c = wrote_same (fact_parts (c.args.a.0, c.args.x.0)) (c.front.ensures.wrote then c.put_all.ensures.wrote)
