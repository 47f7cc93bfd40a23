-- What the other set's complement has is kept.
use Rattle.std.proofs.Common.{◌∙◌}
use Rattle.sets.proofs.Bits.{and_not}
use Rattle.sets.proofs.Set.minus.Goals as goal

pub returns : goal.returns
returns g c = c.narrow.ensures ∙ rw (← c.wide.ensures.is, ← c.wide-2.ensures.is) (and_not 64 _ _ c.wide.type_inv c.wide-2.type_inv)
