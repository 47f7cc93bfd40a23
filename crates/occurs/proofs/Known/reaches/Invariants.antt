-- The invariant of `reaches`: what waits are the bound variables that were not looked through. They grow fewer at each turn.
use Rattle.sets.specs.Bits.{count}
use Rattle.occurs.proofs.Sets.{Looking}
use Rattle.occurs.proofs.Known.reaches.Given as goal

abbrev pub invariant-loop-waiting : goal.invariant-loop-waiting
invariant-loop-waiting l = Looking l.self.bound.0 l.self.made.now l.self.node_variables.now l.initial.reach.0 l.waiting.0 l.reach.0

abbrev pub decreases-loop-waiting : goal.decreases-loop-waiting
decreases-loop-waiting l = count l.waiting.0
