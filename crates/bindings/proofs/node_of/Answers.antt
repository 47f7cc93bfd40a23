use Rattle.std.proofs.Common.{rules}
use Rattle.bindings.specs.Bindings.{node_of}
use Rattle.bindings.proofs.node_of.Goals as goal

pub returns : goal.returns
unfolding node_of
returns c = search rules
