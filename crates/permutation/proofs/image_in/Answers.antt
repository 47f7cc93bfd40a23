use Rattle.std.proofs.Common.{arith, sym}
use Rattle.permutation.proofs.Store.{image_table, image_table_out}
use Rattle.permutation.proofs.image_in.Goals as goal

pub returns-then-i-n : goal.returns-then-i-n
returns-then-i-n c = rw c.from-i.ensures (sym (image_table c.args.n _ c.args.a.0 (omega arith) c.requires))

pub returns-else-i-n : goal.returns-else-i-n
returns-else-i-n c = sym (image_table_out c.args.n _ c.args.a.0 (omega arith))
