use Rattle.std.proofs.Common.{rules}
use Rattle.stack.specs.InPlace.{nodes_at}
use Rattle.stack.proofs.nodes_at.Goals as goal

pub returns : goal.returns
unfolding nodes_at
returns c = search rules
