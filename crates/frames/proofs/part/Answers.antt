-- A failed read stops the stream as it is.
use Rattle.std.proofs.Common.{rules}
use Rattle.frames.proofs.Stopping.{failed}
use Rattle.frames.proofs.part.Goals as goal

pub returns-in_err-filled : goal.returns-in_err-filled
returns-in_err-filled g c = failed _ c.fill.ensures.fills c.in_err-filled.was (search rules)
