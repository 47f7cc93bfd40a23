use Rattle.stack.specs.Stack.{pending_at}
use Rattle.stack.proofs.Laws.{topped}
use Rattle.stack.proofs.top.Goals as goal

pub returns : goal.returns
unfolding pending_at
returns c = topped _ _ _ (rw (c.load-left.ensures, c.load-right.ensures))
