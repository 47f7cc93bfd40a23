-- The first i atoms are at 0.
use Rattle.std.proofs.Common.{◌≡◌}
use Rattle.permutation.specs.Table.{tabulate}
use Rattle.permutation.specs.Store.{padded}
use Rattle.permutation.proofs.unplaced.Given as goal

abbrev pub invariant-loop-i : goal.invariant-loop-i
invariant-loop-i l = l.r.images ≡ padded (tabulate l.i (λ a. 0))
