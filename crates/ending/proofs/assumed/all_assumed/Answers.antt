use Rattle.std.proofs.Common.{arith, ap, not}
use Rattle.ending.proofs.Covering.{covered_start, covered_fails, covered_goes, covered_ends}
use Rattle.ending.proofs.assumed.all_assumed.Goals as goal

pub loop-x-init : goal.loop-x-init
loop-x-init c = covered_start _ _ _ _

pub returns-then-not-covers : goal.returns-then-not-covers
returns-then-not-covers c = covered_fails _ _ _ _ _ c.loop-x.invariant (omega arith) _ c.covers.ensures (ap not c.if-not-covers.true)

pub loop-x-preserved : goal.loop-x-preserved
loop-x-preserved c = covered_goes _ _ _ _ _ c.loop-x.invariant (omega arith) _ c.covers.ensures (ap not c.if-not-covers.false)

pub returns : goal.returns
returns c = covered_ends _ _ _ _ _ c.loop-x.invariant (omega arith)
