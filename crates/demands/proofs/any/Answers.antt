use Rattle.std.proofs.Common.{◌≡◌, ◌<◌, arith, sym, ◌∙◌, length, take}
use Rattle.std.proofs.Math.Seq.{get_or-take, length-take-le}
use borrow.Author.Tests.{eqb-true, not-false}
use Rattle.demands.proofs.Laws.{joined_start, joined_more, joined_empty}
use Rattle.demands.proofs.any.Goals as goal

pub loop-atoms-init : goal.loop-atoms-init
loop-atoms-init c = joined_start

pub loop-atoms-preserved : goal.loop-atoms-preserved
loop-atoms-preserved c = rw c.union-all.ensures (joined_more c.loop-atoms.invariant)

pub returns : goal.returns
returns c = λ e i l.
    let sets = c.args.sets.now in
    let all : length (take c.args.n sets) ≡ c.args.n = length-take-le c.args.n sets c.requires in
    let nothing = eqb-true c.loop-atoms.all.0 0 (sym c.is_empty.ensures ∙ not-false _ e) in
    let passed : i < c.loop-atoms.atoms-index = omega arith in
    rw (get_or-take c.args.n sets i 0 l) at (joined_empty c.loop-atoms.invariant nothing i passed)
