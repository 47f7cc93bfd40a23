use Rattle.stack.specs.InPlace.{right_at}
use Rattle.stack.proofs.right_image.Goals as goal

pub returns : goal.returns
unfolding right_at
returns c = c.image.ensures
