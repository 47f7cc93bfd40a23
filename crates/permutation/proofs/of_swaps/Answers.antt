use Rattle.std.proofs.Common.{◌≤◌, ◌∙◌, arith, length}
use Rattle.permutation.specs.Store.{of_table}
use Rattle.permutation.proofs.Store.{stored, passed_none, passed_next, passed_more, passed_all}
use Rattle.permutation.proofs.of_swaps.Goals as goal

pub loop-pair-init : goal.loop-pair-init
unfolding of_table
loop-pair-init c =
    let e = c.into_iter-pair-iterator.ensures.into_iter_gives in
    let made = c.chunks_exact-pair-items.ensures in
    (rw (e, made.size) (omega arith), tt, rw (e, made.size), rw (e, made.rest, c.identity-r.ensures) (passed_none c.args.n c.args.s.now c.requires.1))

pub loop-pair-preserved : goal.loop-pair-preserved
loop-pair-preserved c =
    let steps = c.in-Some.ensures.steps in
    let held = c.loop-pair.invariant in
    let size = steps.0 ∙ held.2 in
    let next = passed_next c.args.n c.args.s.now _ held.3 steps.1.0 (steps.1.1 ∙ held.2) in
    (omega (arith, size), tt, size, rw (c.from-a.ensures, c.from-b.ensures) (passed_more c.args.n c.args.s.now _ _ _ _ next))

pub returns : goal.returns
returns c =
    let few : length c.loop-pair.pair-iterator.rest.now ≤ 1 = omega (arith, c.in-None.ensures.steps.1.0, c.loop-pair.invariant.2) in
    stored c.loop-pair.r _ (passed_all _ _ _ _ c.loop-pair.invariant.3 few)
