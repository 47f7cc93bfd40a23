use Rattle.std.proofs.Common.{refl, ◌∙◌, arith}
use Rattle.fresh.specs.Marks.{done_in}
use Rattle.visit.proofs.Growth.{looked_settled}
use Rattle.fresh.proofs.Closing.{closing_start, closing_turn, closing_end}
use Rattle.fresh.proofs.Waiting.{passed_less}
use Rattle.fresh.proofs.close.Goals as goal

pub loop-y-init : goal.loop-y-init
loop-y-init c = record {
  few = omega arith;
  kept = refl;
  closing = closing_start c.requires.held.1 c.requires.held.0.readable.named_nodes (done_in c.args.marks.now) c.requires.looked
      (λ X l. c.requires.none X (omega arith));
}

pub pass_on-requires-clause-there : goal.pass_on-requires-clause-there
pass_on-requires-clause-there c =
    let found = c.in-Some.ensures.found c.in-Some.y refl in
    (omega (arith, found.0, c.requires.held.0.readable.few_variables), c.requires.held.1.nodes _ found.1)

pub pass_on-requires-clause-settled : goal.pass_on-requires-clause-settled
pass_on-requires-clause-settled c = looked_settled c.loop-y.invariant.closing.looked

pub loop-y-smaller : goal.loop-y-smaller
loop-y-smaller c = passed_less _ (c.in-Some.ensures.found c.in-Some.y refl).0 c.pass_on.ensures

pub loop-y-preserved : goal.loop-y-preserved
loop-y-preserved c =
    let found = c.in-Some.ensures.found c.in-Some.y refl in
    record {
      few = omega (arith, found.0);
      kept = c.pass_on.ensures.kept ∙ c.loop-y.invariant.kept;
      closing = closing_turn c.requires.held.1 c.requires.held.0.readable.named_nodes c.requires.small c.loop-y.invariant.closing c.in-Some.y.0
          (omega (arith, found.0)) found.1 c.pass_on.ensures;
    }

pub returns-clause-finished : goal.returns-clause-finished
returns-clause-finished c =
    let none_waits = c.next.ensures.none c.in_default.is in
    closing_end c.requires.held.1 c.requires.held.0.readable.named_nodes c.loop-y.asked c.loop-y.marks c.loop-y.invariant.closing
    (λ Y l. none_waits Y (omega arith))
