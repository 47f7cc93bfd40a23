-- What is left to ask after x variables decides.
use Rattle.demands.specs.Demands.{asked_of_variables}
use Rattle.ending.proofs.Covering.{LeftAt}
use Rattle.ending.proofs.assumed.all_assumed.Given as goal

abbrev pub invariant-loop-x : goal.invariant-loop-x
invariant-loop-x l = LeftAt l.bound.0 (asked_of_variables l.asked) l.assumed l.variables l.x
