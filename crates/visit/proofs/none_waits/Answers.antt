use Rattle.std.proofs.Common.{◌/◌, arith, get_or}
use borrow.Author.Tests.{eqb-true}
use Rattle.names.proofs.Equal.{by_eq}
use Rattle.visit.proofs.Waiting.{none_in_empty, late_inside, joined_none}
use Rattle.visit.proofs.none_waits.Goals as goal

pub loop-word-preserved : goal.loop-word-preserved
loop-word-preserved c = λ e j h.
    let next = c.loop-word.word-index in
    let both = joined_none c.loop-word.all (get_or c.args.late.now next 0) e in
    by_eq j next (λ q. rw q both.1) (λ d. c.loop-word.invariant both.0 j (omega arith))

pub returns : goal.returns
returns c = λ e n k.
    let late = c.args.late.now in
    let word = c.loop-word.invariant (eqb-true _ 0 e) (n / 64) (omega (arith, late_inside late n k)) in
    none_in_empty n late word k
