use Rattle.std.proofs.Common.{◌≡◌, ◌<◌, ◌^◌, length}
use Rattle.sets.specs.Bits.{members, count}
use Rattle.demands.specs.Demands.{line, line_marked_all}
use Rattle.demands.proofs.mark_all.Given as goal

-- With the atoms marked so far, marking the rest is marking all.
abbrev pub invariant-loop-rest : goal.invariant-loop-rest
invariant-loop-rest l =
    (length l.numbers ≡ 32)
    × (l.rest.0 < 2 ^ 32)
    × (line_marked_all l.i l.number (members 32 l.rest.0) (line l.sets l.numbers)
    ≡ line_marked_all l.i l.number (members 32 l.initial.rest.0) (line l.initial.sets l.initial.numbers))

abbrev pub decreases-loop-rest : goal.decreases-loop-rest
decreases-loop-rest l = count l.rest.0
