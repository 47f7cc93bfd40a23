-- The assumptions of the variables passed are added.
use Rattle.asked.specs.Added.{AssumptionsAdded}
use Rattle.asked.proofs.add_assumptions.Given as goal

abbrev pub invariant-loop-i : goal.invariant-loop-i
invariant-loop-i l = AssumptionsAdded l.i l.assumed l.fn.asked l.asked
