-- `suspensions_meet` meets its contract: where both sides suspend one unbound variable without swaps, their disagreement set is demanded; else nothing changes.
use mathlib.Core.Path.{◌≡◌, sym, ◌∙◌}
use mathlib.Core.Bool.{false}
use Rattle.sets.specs.Bits.{member}
use borrow.Author.Tests.{eqb-true, not-false}
use Rattle.quick.proofs.Leading.{bare_form}
use Rattle.quick.proofs.Taking.{met_demanding, met_agreeing}
use Rattle.quick.proofs.suspensions_meet.Goals as goal

pub returns-then-not-is_empty-clause-meets : goal.returns-then-not-is_empty-clause-meets
returns-then-not-is_empty-clause-meets c =
    let unbound : member c.args.bound.0 c.in-Some-Some.x.0 ≡ false = cc in
    let one = eqb-true _ _ (not-false _ (sym c.if-ne.ensures)) in
    met_demanding c.requires (bare_form _ _ c.in-Some-Some.ensures) (rw (← one) at (bare_form _ _ c.in-Some-Some.ensures'))
    unbound c.disagreement-d.ensures c.raise_variable.ensures.raised

pub returns-else-not-is_empty-clause-meets : goal.returns-else-not-is_empty-clause-meets
returns-else-not-is_empty-clause-meets c =
    let unbound : member c.args.bound.0 c.in-Some-Some.x.0 ≡ false = cc in
    let one = eqb-true _ _ (not-false _ (sym c.if-ne.ensures)) in
    met_agreeing c.requires (bare_form _ _ c.in-Some-Some.ensures) (rw (← one) at (bare_form _ _ c.in-Some-Some.ensures'))
    unbound c.disagreement-d.ensures (eqb-true _ _ (sym c.is_empty.ensures ∙ c.if-not-is_empty.false))
