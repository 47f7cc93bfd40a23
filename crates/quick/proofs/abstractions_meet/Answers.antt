-- `abstractions_meet` meets its contract: of the same atom nothing is demanded, of others the first, by the atom that the right images send to it.
use Prim.Native.Nat.{◌<◌}
use native.Mathlib.Omega.{arith}
use borrow.Author.Tests.{not-true, not-false}
use mathlib.Core.Path.{refl, sym}
use Rattle.run.proofs.Trees.{permuting_inverted, image_below}
use Rattle.quick.proofs.Taking.{same_abstractions, other_abstractions}
use Rattle.quick.proofs.abstractions_meet.Goals as goal

pub raise_node-requires : goal.raise_node-requires
raise_node-requires c =
    -- Both the first and what the right images send to it are of those in use.
    let inside : c.left_image-x.result.0 < c.args.atoms = omega (arith, c.left_image-x.ensures, image_below c.requires.4 _ c.requires.2) in
    let sent : c.right_preimage-c.result.0 < c.args.atoms =
    rw c.right_preimage-c.ensures (image_below (permuting_inverted c.requires.5) _ inside) in
    (omega (arith, c.requires.1), c.requires.3)

pub returns-then-ne-clause-taken : goal.returns-then-ne-clause-taken
returns-then-ne-clause-taken c =
    let differ = not-true _ (sym c.if-ne.ensures) in
    rw (← c.left_image-x.ensures, ← c.right_image-y.ensures)
    (refl, other_abstractions c.requires.1 differ c.right_preimage-c.ensures c.raise_node.ensures.raised c.swap_right.ensures.images)

pub returns-else-ne-clause-taken : goal.returns-else-ne-clause-taken
returns-else-ne-clause-taken c =
    let same = not-false _ (sym c.if-ne.ensures) in
    rw (← c.left_image-x.ensures, ← c.right_image-y.ensures) (refl, same_abstractions _ _ same)
