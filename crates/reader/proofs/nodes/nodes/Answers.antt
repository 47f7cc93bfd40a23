-- One node more, or the place where none stands.
use Rattle.std.proofs.Common.{◌+◌, ap, ◌∙◌, arith}
use Rattle.field.specs.Word.{eight}
use Rattle.problem.specs.declared.Counts.{Counts}
use Rattle.reader.specs.Found.{with_nodes}
use Rattle.reader.proofs.Passing.{node_ends, node_few, one_passed, same_passed, no_node_here}
use Rattle.reader.proofs.nodes.nodes.Goals as goal

pub returns-in_default : goal.returns-in_default
returns-in_default c =
    let k = rw (c.at-rest.ensures.0, c.at-rest.ensures.1, c.loop-size.invariant.counts) at c.node_here.ensures in
    record {
      passed = same_passed (λ i. (c.type_inv.s i).fits) c.loop-size.invariant.passed k c.in_default.is;
      stopped = no_node_here (λ i. (c.type_inv.s i).fits) c.loop-size.invariant.passed k c.in_default.is;
      word = c.at-rest.result.first_eight ∙ ap eight c.at-rest.ensures.0;
    }

pub overflow_add-at : goal.overflow_add-at
overflow_add-at c =
    let k = rw (c.at-rest.ensures.0, c.at-rest.ensures.1, c.loop-size.invariant.counts) at c.node_here.ensures in
    omega (arith, node_ends (λ i. (c.type_inv.s i).fits) c.loop-size.invariant.passed k c.in-Some.is)

pub overflow_add-c : goal.overflow_add-c
overflow_add-c c =
    let k = rw (c.at-rest.ensures.0, c.at-rest.ensures.1, c.loop-size.invariant.counts) at c.node_here.ensures in
    omega (arith, node_few (λ i. (c.type_inv.s i).fits) c.loop-size.invariant.passed k c.in-Some.is)

pub loop-size-smaller : goal.loop-size-smaller
loop-size-smaller c =
    let k = rw (c.at-rest.ensures.0, c.at-rest.ensures.1, c.loop-size.invariant.counts) at c.node_here.ensures in
    omega (arith, node_ends (λ i. (c.type_inv.s i).fits) c.loop-size.invariant.passed k c.in-Some.is)

pub loop-size-preserved : goal.loop-size-preserved
loop-size-preserved c =
    let k = rw (c.at-rest.ensures.0, c.at-rest.ensures.1, c.loop-size.invariant.counts) at c.node_here.ensures in
    record {
      passed = one_passed (λ i. (c.type_inv.s i).fits) c.loop-size.invariant.passed k c.in-Some.is;
      counts = ap (λ (d : Counts). with_nodes d (c.loop-size.c.nodes + 1)) c.loop-size.invariant.counts;
    }
