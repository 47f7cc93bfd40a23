-- The images of the first i atoms under p, then the swap, are in store.
use Rattle.std.proofs.Common.{◌≡◌}
use Rattle.permutation.specs.Swaps.{swapped}
use Rattle.permutation.specs.Table.{image, tabulate}
use Rattle.permutation.specs.Store.{table, padded}
use Rattle.permutation.proofs.swap_after.Given as goal

abbrev pub invariant-loop-i : goal.invariant-loop-i
invariant-loop-i l = l.r.images ≡ padded (tabulate l.i (λ c. swapped l.a.0 l.b.0 (image (table l.n l.p) c)))
