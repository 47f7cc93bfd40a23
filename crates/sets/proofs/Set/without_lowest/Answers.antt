-- The least member is cleared by what subtracting one leaves above it.
use Rattle.std.proofs.Common.{arith, ◌∙◌}
use Rattle.sets.specs.Bits.{lowest}
use Rattle.sets.proofs.Bits.{and_pred, removed_le}
use Rattle.sets.proofs.Set.without_lowest.Goals as goal

pub returns-then-w-eq0 : goal.returns-then-w-eq0
returns-then-w-eq0 g c =
    let w = g.W.Word.bits c.args.self.0 in
    omega (arith, removed_le w (lowest g.W.Word.WIDTH w))

pub returns-else-w-eq0 : goal.returns-else-w-eq0
returns-else-w-eq0 g c =
    c.narrow.ensures ∙ rw (← c.wide-w.ensures.is) (and_pred g.W.Word.WIDTH _ (omega arith) c.wide-w.ensures.fits)
