-- The body of a whole field lies within the input.
use Rattle.std.proofs.Common.{sym}
use Rattle.field.proofs.Told.{at_whole}
use Rattle.opening.proofs.opened.Goals as goal

pub body-requires : goal.body-requires
body-requires c = (at_whole c.args.s.now c.in-Whole.tag c.in-Whole.n (sym c.in-Whole.ensures)).1
