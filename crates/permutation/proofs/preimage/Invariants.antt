-- No atom passed has the image that is looked for.
use Rattle.std.proofs.Common.{ℕ, ◌<◌, ◌≢◌}
use Rattle.permutation.specs.Table.{image}
use Rattle.permutation.specs.Store.{table}
use Rattle.permutation.proofs.preimage.Given as goal

abbrev pub invariant-loop-i : goal.invariant-loop-i
invariant-loop-i l = (k : ℕ) → k < l.i → image (table l.n (record { images = l.images })) k ≢ l.a.0
