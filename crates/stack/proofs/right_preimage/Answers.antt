use Rattle.stack.specs.InPlace.{right_at}
use Rattle.stack.proofs.right_preimage.Goals as goal

pub returns : goal.returns
unfolding right_at
returns c = c.preimage.ensures
