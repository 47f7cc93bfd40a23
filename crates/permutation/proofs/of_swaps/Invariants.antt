-- The store holds the table of the swaps passed (`Passed`).
use Rattle.std.proofs.Common.{◌≡◌}
use Rattle.permutation.proofs.Store.{Passed}
use Rattle.permutation.proofs.of_swaps.Given as goal

abbrev pub invariant-loop-pair : goal.invariant-loop-pair
invariant-loop-pair l =
    (goal.iterator-loop-pair).can_next l.pair-iterator
    × (goal.iterator-loop-pair).is_finite l.pair-iterator
    × (l.pair-iterator.size ≡ 2)
    × Passed l.n l.s l.pair-iterator.rest.now l.r.images
