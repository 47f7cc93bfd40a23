-- Unless another image was met, each atom passed is its own.
use Rattle.std.proofs.Common.{◌≡◌, false}
use Rattle.permutation.proofs.Store.{Stay}
use Rattle.permutation.proofs.each_stays.Given as goal

abbrev pub invariant-loop-a : goal.invariant-loop-a
invariant-loop-a l = l.other ≡ false → Stay l.images l.a
