use borrow.Author.Rules.{rules}
use Rattle.std.proofs.Common.{◌≤◌, ◌∙◌, arith, length}
use Rattle.visit.proofs.Sent.{passing_none, passing_next, passing_names, passing_more, passing_all}
use Rattle.visit.proofs.through_swaps.Goals as goal

pub loop-pair-init : goal.loop-pair-init
loop-pair-init c =
    let e = c.into_iter-pair-iterator.ensures.into_iter_gives in
    let made = c.chunks_exact-pair-items.ensures in
    (rw (e, made.size) (omega arith), tt, rw (e, made.size), rw (e, made.rest) (passing_none (search rules) c.requires))

pub exchange-r-requires : goal.exchange-r-requires
exchange-r-requires c =
    let steps = c.in-Some.ensures.steps in
    let held = c.loop-pair.invariant in
    passing_names (passing_next _ _ held.3 steps.1.0 (steps.1.1 ∙ held.2))

pub loop-pair-preserved : goal.loop-pair-preserved
loop-pair-preserved c =
    let steps = c.in-Some.ensures.steps in
    let held = c.loop-pair.invariant in
    let size = steps.0 ∙ held.2 in
    let next = passing_next _ _ held.3 steps.1.0 (steps.1.1 ∙ held.2) in
    (omega (arith, size), tt, size, rw c.exchange-r.ensures (passing_more next))

pub returns : goal.returns
returns c =
    let few : length c.loop-pair.pair-iterator.rest.now ≤ 1 = omega (arith, c.in-None.ensures.steps.1.0, c.loop-pair.invariant.2) in
    passing_all c.loop-pair.invariant.3 few
