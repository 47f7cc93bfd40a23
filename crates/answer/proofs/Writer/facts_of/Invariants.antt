-- The atoms that are left are written from the lowest up. The measure is how many are left.
use Rattle.std.proofs.Common.{◌≡◌, ◌^◌, ◌<◌}
use Rattle.sets.specs.Bits.{count}
use Rattle.answer.specs.Facts.{fact_bytes_of}
use Rattle.answer.proofs.Writing.{Left}
use Rattle.answer.proofs.Writer.facts_of.Given as goal

abbrev pub invariant-loop-x : goal.invariant-loop-x
invariant-loop-x l =
    (l.self.output.ghost_name ≡ l.fn.self.output.ghost_name)
    × (l.rest.0 < 2 ^ 32)
    × Left l.self.output.now l.self.at (fact_bytes_of l.x.0 l.rest.0) l.fn.self.output.now l.fn.self.at (fact_bytes_of l.x.0 l.fn.atoms.0)

abbrev pub decreases-loop-x : goal.decreases-loop-x
decreases-loop-x l = count l.rest.0
