-- The name's bit is set; past the width there is none.
use Rattle.std.proofs.Common.{arith, sym, ◌∙◌}
use Rattle.sets.proofs.Bits.{or_bit, inserted_lt, inserted_past}
use Rattle.sets.proofs.Set.with.Goals as goal

pub narrow-requires : goal.narrow-requires
narrow-requires g c =
    rw (or_bit 64 g.W.Word.WIDTH c.wide-w.result c.number-i.result g.met.W.Word.within (omega arith))
    (inserted_lt g.W.Word.WIDTH c.wide-w.result c.number-i.result c.wide-w.ensures.fits)

pub returns-then-i-WIDTH : goal.returns-then-i-WIDTH
returns-then-i-WIDTH g c =
    c.narrow.ensures
    ∙ rw (← c.wide-w.ensures.is, ← c.number-i.ensures) (or_bit 64 g.W.Word.WIDTH _ _ g.met.W.Word.within (omega arith))

pub returns-else-i-WIDTH : goal.returns-else-i-WIDTH
returns-else-i-WIDTH g c = rw (← c.number-i.ensures) (sym (inserted_past g.W.Word.WIDTH _ _ (omega arith)))
