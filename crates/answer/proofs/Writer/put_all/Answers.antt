use Rattle.std.proofs.Common.{arith}
use Rattle.answer.proofs.Writing.{wrote_piece}
use Rattle.answer.proofs.Writer.put_all.Goals as goal

pub returns-clause-wrote : goal.returns-clause-wrote
returns-clause-wrote c = wrote_piece c.args.self.now.output.now c.args.bytes.now _ c.args.self.now.at _ c.requires c.copy_from_slice.ensures.after (omega arith)
