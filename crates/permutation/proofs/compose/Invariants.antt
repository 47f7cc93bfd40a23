-- The images of the first i atoms under q, then p, are in store.
use Rattle.std.proofs.Common.{◌≡◌}
use Rattle.permutation.specs.Table.{image, tabulate}
use Rattle.permutation.specs.Store.{table, padded}
use Rattle.permutation.proofs.compose.Given as goal

abbrev pub invariant-loop-i : goal.invariant-loop-i
invariant-loop-i l = l.r.images ≡ padded (tabulate l.i (λ a. image (table l.n l.p) (image (table l.n l.q) a)))
