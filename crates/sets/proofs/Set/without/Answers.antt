-- The name's bit is cleared; past the width there is none.
use Rattle.std.proofs.Common.{arith, sym, ◌∙◌}
use Rattle.sets.proofs.Bits.{and_not_shift, removed_past}
use Rattle.sets.proofs.Set.without.Goals as goal

pub returns-then-i-WIDTH : goal.returns-then-i-WIDTH
returns-then-i-WIDTH g c =
    c.narrow.ensures
    ∙ rw (← c.wide-w.ensures.is, ← c.number-i.ensures) (and_not_shift 64 _ _ c.wide-w.type_inv (omega (arith, g.met.W.Word.within)))

pub returns-else-i-WIDTH : goal.returns-else-i-WIDTH
returns-else-i-WIDTH g c =
    rw (← c.wide-w.ensures.is, ← c.number-i.ensures) (sym (removed_past g.W.Word.WIDTH _ _ c.wide-w.ensures.fits (omega arith)))
