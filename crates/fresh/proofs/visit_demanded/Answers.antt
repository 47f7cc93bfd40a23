use Rattle.std.proofs.Common.{ℕ, List, [], refl, sym, ◌∙◌, ap, get_or, length-set, arith}
use borrow.Author.Tests.{eqb-true}
use mathlib.Core.Option.{none}
use lib.Seq.{get_or-set_same, get_or-set_other}
use Rattle.visit.proofs.Growth.{looked_settled}
use Rattle.fresh.proofs.Beginning.{beginning_start, beginning_more, beginning_skip}
use Rattle.fresh.proofs.visit_demanded.Goals as goal

pub loop-n-init : goal.loop-n-init
loop-n-init c = record { two = omega arith; kept = refl; begun = beginning_start _ _ _ c.args.seen.now (λ i l. c.requires.none i (omega arith)) }

pub loop-n-preserved-then-is_empty : goal.loop-n-preserved-then-is_empty
loop-n-preserved-then-is_empty c =
    let n = c.loop-n.n in
    let kept = c.loop-n.invariant.kept in
    let as_demanded = c.of_node-atoms.ensures ∙ ap (λ (t : List ℕ). get_or t n 0) kept in
    let none_here = sym as_demanded ∙ eqb-true _ 0 (sym c.is_empty.ensures ∙ c.if-is_empty.true) in
    record { two = c.loop-n.invariant.two; kept = kept; begun = beginning_skip _ _ _ n none_here c.loop-n.invariant.begun }

pub visit-requires-clause-settled : goal.visit-requires-clause-settled
visit-requires-clause-settled c = looked_settled (c.loop-n.invariant.begun.looked (λ X. none))

pub loop-n-preserved : goal.loop-n-preserved
loop-n-preserved c =
    let n = c.loop-n.n in
    let asked = c.loop-n.asked in
    let variables = c.visit.new.on_variables in
    let kept = c.loop-n.invariant.kept in
    let as_demanded = c.of_node-atoms.ensures ∙ ap (λ (t : List ℕ). get_or t n 0) kept in
    let written = get_or-set_same asked 1 variables [] (omega arith) in
    record {
      two = length-set asked 1 variables ∙ c.loop-n.invariant.two;
      kept = get_or-set_other asked 1 0 variables [] (λ q. omega arith) ∙ kept;
      begun = rw written (beginning_more _ _ _ n c.of_node-atoms.result.0 (omega arith) as_demanded c.loop-n.invariant.begun c.visit.ensures);
    }
