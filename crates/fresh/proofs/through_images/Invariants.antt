-- After each turn the set is right below the place reached.
use Rattle.std.proofs.Common.{◌≡◌}
use Rattle.permutation.specs.Table.{image}
use Rattle.bindings.specs.Bindings.{images_of}
use Rattle.visit.specs.Visited.{sent_into}
use Rattle.fresh.proofs.through_images.Given as goal

abbrev pub invariant-loop-i : goal.invariant-loop-i
invariant-loop-i l = l.r.0 ≡ sent_into l.i (image (images_of l.n l.bindings.values.now l.x.0)) l.atoms.0
