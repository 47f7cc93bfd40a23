-- `whole` meets its contract: a suspension without swaps is under the images alone; of another's swaps the permutation is made, and the images come after it.
use Prim.Native.Nat.{◌≤◌}
use native.Mathlib.Omega.{arith}
use borrow.Author.Rules.{rules}
use mathlib.Core.Path.{◌≡◌}
use lib.ListN.{length}
use Rattle.problem.proofs.Looking.{own_within}
use Rattle.side.proofs.Resolving.{whole_bare, whole_is}
use Rattle.side.proofs.whole.Goals as goal

pub swaps_of-swaps-requires : goal.swaps_of-swaps-requires
swaps_of-swaps-requires c = (c.requires.0.nodes _ c.requires.2, c.requires.3)

pub returns-then-is_empty : goal.returns-then-is_empty
returns-then-is_empty c =
    let few : c.args.atoms ≤ 32 = rw c.requires.1 c.requires.0.readable.few_atoms in
    let long : length c.args.images.images ≡ 32 = search rules in
    whole_bare _ _ _ _ c.swaps_of-swaps.result.now few long c.swaps_of-swaps.ensures (grind arith)

pub of_swaps-own-requires : goal.of_swaps-own-requires
of_swaps-own-requires c =
    let few : c.args.atoms ≤ 32 = rw c.requires.1 c.requires.0.readable.few_atoms in
    (few, rw (c.swaps_of-swaps.ensures, c.requires.1) (own_within c.requires.0.readable c.args.node.0))

pub compose-requires : goal.compose-requires
compose-requires c = rw c.requires.1 c.requires.0.readable.few_atoms

pub returns : goal.returns
returns c = whole_is _ _ _ _ _ _ _ c.of_swaps-own.ensures c.swaps_of-swaps.ensures c.compose.ensures
