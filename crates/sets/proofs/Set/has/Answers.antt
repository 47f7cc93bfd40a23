-- The name's bit is tested; past the width there is none.
use Rattle.std.proofs.Common.{arith, sym}
use Rattle.sets.proofs.Bits.{tested_bit, member_past}
use Rattle.sets.proofs.Set.has.Goals as goal

pub returns-then-i-WIDTH : goal.returns-then-i-WIDTH
returns-then-i-WIDTH g c = rw (← c.wide-w.ensures.is, ← c.number-i.ensures) (tested_bit _ _)

pub returns-else-i-WIDTH : goal.returns-else-i-WIDTH
returns-else-i-WIDTH g c =
    rw (← c.wide-w.ensures.is, ← c.number-i.ensures) (sym (member_past g.W.Word.WIDTH _ _ c.wide-w.ensures.fits (omega arith)))
