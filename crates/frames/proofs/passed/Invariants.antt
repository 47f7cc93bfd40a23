-- `frames::passed` ends, since each part that came takes something off what is left, and says what the last part tells.
use Rattle.std.proofs.Common.{◌≡◌, length, Ok}
use Rattle.frames.specs.Came.{Told}
use Rattle.frames.proofs.passed.Given as goal

abbrev pub invariant-loop-left : goal.invariant-loop-left
invariant-loop-left g l = (length l.input ≡ length l.initial.input) × Told (length l.input) (Ok l.last)

abbrev pub decreases-loop-left : goal.decreases-loop-left
decreases-loop-left g l = l.left
