use Rattle.stack.specs.InPlace.{left_at, right_at}
use Rattle.stack.proofs.disagreement.Goals as goal

pub returns : goal.returns
unfolding left_at right_at
returns c = c.disagreement.ensures
