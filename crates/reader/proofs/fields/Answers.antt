-- Each field that is no node is counted, or refused; where the input ends all is read.
use Rattle.std.proofs.Common.{◌≡◌, ◌≢◌, ◌<◌, drop, length, sym, ap, ◌∙◌, arith}
use lib.ListN.{length-drop}
use borrow.Author.Tests.{eqb-true, eqb-false}
use Rattle.field.specs.Word.{eight, tag_in}
use Rattle.reader.specs.Found.{with_nodes, counted_in}
use Rattle.reader.proofs.Onward.{few_variables, all_read, carried}
use Rattle.reader.proofs.Passing.{other_ends, is_other, other_passed, is_refused, other_refused}
use Rattle.reader.proofs.fields.Goals as goal

pub other-requires : goal.other-requires
other-requires c = few_variables (c.nodes-reached.ensures.passed.onward _ _ _ c.loop-rest.invariant)

pub counted-c-requires : goal.counted-c-requires
counted-c-requires c =
    let rest = c.known-rest.result in
    let w = c.nodes-reached.ensures.passed.onward _ _ _ c.loop-rest.invariant in
    let f = is_other (λ i. (c.type_inv.s i).fits) w (rw (c.known-rest.ensures.0, c.known-rest.ensures.1) at c.other.ensures) c.in-Some.is in
    let e : tag_in rest.word ≡ tag_in (eight (drop c.nodes-reached.result.place c.args.s.now)) =
    ap tag_in (c.known-rest.ensures.2 ∙ c.nodes-reached.ensures.word) in
    (λ q. f.few_equations (sym e ∙ q), λ q. f.few_freshness (sym e ∙ q))

pub overflow_add-at : goal.overflow_add-at
overflow_add-at c =
    let w = c.nodes-reached.ensures.passed.onward _ _ _ c.loop-rest.invariant in
    let h = other_ends (λ i. (c.type_inv.s i).fits) w (rw (c.known-rest.ensures.0, c.known-rest.ensures.1) at c.other.ensures) c.in-Some.is in
    omega (arith, h, w.short, c.known-rest.ensures.1)

pub loop-rest-smaller : goal.loop-rest-smaller
loop-rest-smaller c =
    let w = c.nodes-reached.ensures.passed.onward _ _ _ c.loop-rest.invariant in
    let h = other_ends (λ i. (c.type_inv.s i).fits) w (rw (c.known-rest.ensures.0, c.known-rest.ensures.1) at c.other.ensures) c.in-Some.is in
    omega (arith, h, c.nodes-reached.ensures.passed.forward, c.known-rest.ensures.1)

pub loop-rest-preserved : goal.loop-rest-preserved
loop-rest-preserved c =
    let rest = c.known-rest.result in
    let w = c.nodes-reached.ensures.passed.onward _ _ _ c.loop-rest.invariant in
    let e : rest.word ≡ eight (drop c.nodes-reached.result.place c.args.s.now) = c.known-rest.ensures.2 ∙ c.nodes-reached.ensures.word in
    rw c.known-rest.ensures.1
    (carried (other_passed (λ i. (c.type_inv.s i).fits) w (rw (c.known-rest.ensures.0, c.known-rest.ensures.1) at c.other.ensures) c.in-Some.is)
    (sym (c.counted-c.ensures ∙ ap (λ x. counted_in x (with_nodes c.loop-rest.c c.nodes-reached.result.nodes)) e)))

pub returns-then-is_empty : goal.returns-then-is_empty
returns-then-is_empty c =
    let w = c.nodes-reached.ensures.passed.onward _ _ _ c.loop-rest.invariant in
    let none : length c.known-rest.result.bytes.now ≡ 0 = eqb-true _ 0 (sym c.is_empty.ensures ∙ c.if-is_empty.true) in
    all_read w (omega (arith, w.inside, length-drop c.nodes-reached.result.place c.args.s.now, ap length c.known-rest.ensures.0))

pub unwrap-requires : goal.unwrap-requires
unwrap-requires c =
    let w = c.nodes-reached.ensures.passed.onward _ _ _ c.loop-rest.invariant in
    is_refused (λ i. (c.type_inv.s i).fits) w (rw (c.known-rest.ensures.0, c.known-rest.ensures.1) at c.other.ensures) _ c.in_default.is
    c.nodes-reached.ensures.stopped (rw (c.known-rest.ensures.0, c.known-rest.ensures.1) at c.refusal.ensures)

pub returns-in_default : goal.returns-in_default
returns-in_default c =
    let w = c.nodes-reached.ensures.passed.onward _ _ _ c.loop-rest.invariant in
    let some : length c.known-rest.result.bytes.now ≢ 0 = eqb-false _ 0 (sym c.is_empty.ensures ∙ c.if-is_empty.false) in
    let before_end : c.nodes-reached.result.place < length c.args.s.now =
    omega (arith, length-drop c.nodes-reached.result.place c.args.s.now, ap length c.known-rest.ensures.0) in
    other_refused (λ i. (c.type_inv.s i).fits) w (rw (c.known-rest.ensures.0, c.known-rest.ensures.1) at c.other.ensures) c.in_default.is before_end
    c.nodes-reached.ensures.stopped (rw (c.unwrap.ensures, c.known-rest.ensures.0, c.known-rest.ensures.1) at c.refusal.ensures)
