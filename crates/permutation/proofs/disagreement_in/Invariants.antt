-- The disagreeing atoms below i are in the set.
use Rattle.std.proofs.Common.{◌≡◌}
use Rattle.permutation.proofs.Store.{disagreement_below}
use Rattle.permutation.proofs.disagreement_in.Given as goal

abbrev pub invariant-loop-i : goal.invariant-loop-i
invariant-loop-i l = l.r.0 ≡ disagreement_below l.n (record { images = l.images }) (record { images = l.others }) l.i
