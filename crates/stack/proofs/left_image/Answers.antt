use Rattle.stack.specs.InPlace.{left_at}
use Rattle.stack.proofs.left_image.Goals as goal

pub returns : goal.returns
unfolding left_at
returns c = c.image.ensures
