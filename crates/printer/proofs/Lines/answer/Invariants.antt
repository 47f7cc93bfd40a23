-- What is written and what is still to come are the answer's lines.
use Rattle.std.proofs.Common.{◌≡◌, length}
use Rattle.printer.proofs.Walking.{Midway}
use Rattle.printer.proofs.Lines.answer.Given as goal

abbrev pub invariant-loop-tag : goal.invariant-loop-tag
invariant-loop-tag l =
    (l.self.out.ghost_name ≡ l.fn.self.out.ghost_name)
    × Midway l.fn.self.out.now l.fn.self.at l.answer l.self.out.now l.self.at l.rest

abbrev pub decreases-loop-tag : goal.decreases-loop-tag
decreases-loop-tag l = length l.rest
