-- The images passed are swapped, and the rest are as they were.
use Rattle.std.proofs.Common.{◌≡◌}
use Rattle.permutation.proofs.Store.{swapped_below}
use Rattle.permutation.proofs.swap_in.Given as goal

abbrev pub invariant-loop-image : goal.invariant-loop-image
invariant-loop-image l = l.image-items ≡ swapped_below l.a.0 l.b.0 l.image-index l.initial.image-items
