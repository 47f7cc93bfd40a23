-- The tag and the length.
use Rattle.std.proofs.Common.{◌∙◌}
use Rattle.answer.proofs.Writing.{wrote_same, ◌then◌}
use Rattle.answer.proofs.Fields.{two_bytes}
use Rattle.answer.proofs.Writer.front.Goals as goal

pub returns-clause-wrote : goal.returns-clause-wrote
returns-clause-wrote c = c.put.ensures.wrote then wrote_same (c.to_be_bytes.ensures ∙ two_bytes c.args.n) c.put_all.ensures.wrote
