-- The zeros below the least member are counted.
use Rattle.std.proofs.Common.{◌<◌, ◌∙◌, arith, sym}
use Rattle.sets.specs.Bits.{lowest}
use Rattle.sets.proofs.Bits.{lowest_of_none, lowest_wider}
use Rattle.sets.proofs.Set.lowest.Goals as goal

pub returns-then-w-eq0 : goal.returns-then-w-eq0
returns-then-w-eq0 g c =
    c.name.ensures ∙ c.WIDTH.ensures ∙ sym (rw (← c.wide-w.ensures.is, c.if-w-eq0.true) (lowest_of_none g.W.Word.WIDTH))

pub returns-else-w-eq0 : goal.returns-else-w-eq0
unfolding lowest
returns-else-w-eq0 g c =
    let some : 0 < c.wide-w.result = omega arith in
    c.name-else-w-eq0.ensures ∙ rw (← c.wide-w.ensures.is) (lowest_wider 64 g.W.Word.WIDTH _ g.met.W.Word.within some c.wide-w.ensures.fits)
