-- `under_inverse` meets its contract: the inverse of the identity changes nothing.
use mathlib.Core.Path.{◌≡◌}
use lib.ListN.{length}
use borrow.Author.Rules.{rules}
use Rattle.perform.proofs.Performing.{under_identity, under_composed}
use Rattle.perform.proofs.under_inverse.Goals as goal

pub returns-then-is_identity : goal.returns-then-is_identity
returns-then-is_identity c =
    let long : length c.args.q.images ≡ 32 = search rules in
    under_identity _ _ _ c.requires long (c.is_identity.ensures c.if-is_identity.true _ c.requires)

pub returns : goal.returns
returns c =
    let long : length c.args.q.images ≡ 32 = search rules in
    let whole : length c.args.outer.images ≡ 32 = search rules in
    under_composed _ _ _ c.requires long _ _ whole c.invert-back.ensures c.compose.ensures
