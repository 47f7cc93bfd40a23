-- What is told is what was taken of the line.
use Rattle.std.proofs.Common.{sym, subst}
use Rattle.notice.specs.Told.{said, Tells}
use Rattle.outlet.specs.Puts.{taken_of}
use Rattle.notice.proofs.tell.Goals as goal

pub returns-in-Refused : goal.returns-in-Refused
returns-in-Refused g c =
    subst (λ m. Tells (g.W.Write.contents c.args.errors.now) (g.W.Write.contents c.put.new.writer) (said m)) (sym c.in-Refused.is)
    (taken_of c.put.result, c.put.ensures.bytes)

pub returns-in-Text : goal.returns-in-Text
returns-in-Text g c =
    subst (λ m. Tells (g.W.Write.contents c.args.errors.now) (g.W.Write.contents c.put-in-Text.new.writer) (said m)) (sym c.in-Text.is)
    (taken_of c.put-in-Text.result, c.put-in-Text.ensures.bytes)
