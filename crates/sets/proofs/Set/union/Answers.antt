-- One operation of the machine.
use Rattle.sets.specs.Bits.{union}
use Rattle.sets.proofs.Bits.{union_lt}
use Rattle.sets.proofs.Set.union.Goals as goal

pub narrow-requires : goal.narrow-requires
unfolding union
narrow-requires g c = union_lt g.W.Word.WIDTH _ _ c.wide.ensures.fits c.wide-2.ensures.fits

pub returns : goal.returns
unfolding union
returns g c = cc
