-- One operation of the machine.
use Rattle.sets.specs.Bits.{intersection}
use Rattle.sets.proofs.Set.intersection.Goals as goal

pub returns : goal.returns
unfolding intersection
returns g c = cc
