-- With i turns to go, every image at place i or later has its first such place in store.
use Rattle.std.proofs.Common.{◌≡◌}
use Rattle.permutation.specs.Store.{table}
use Rattle.permutation.proofs.Store.{inverted_from}
use Rattle.permutation.proofs.invert.Given as goal

abbrev pub invariant-loop-i : goal.invariant-loop-i
invariant-loop-i l = l.r.images ≡ inverted_from l.n (table l.n l.p) l.i
