-- After each turn what is left to do is the rest of the swaps.
use Rattle.std.proofs.Common.{◌≡◌}
use Rattle.visit.proofs.Sent.{Passing}
use Rattle.visit.proofs.through_swaps.Given as goal

abbrev pub invariant-loop-pair : goal.invariant-loop-pair
invariant-loop-pair l =
    (goal.iterator-loop-pair).can_next l.pair-iterator
    × (goal.iterator-loop-pair).is_finite l.pair-iterator
    × (l.pair-iterator.size ≡ 2)
    × Passing l.swaps l.fn.atoms.0 l.pair-iterator.rest.now l.r.0
