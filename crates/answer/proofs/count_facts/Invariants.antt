-- After x turns the facts of the variables from x on are left to count.
use Rattle.std.proofs.Common.{◌≡◌, ◌+◌, length}
use Rattle.demands.specs.Demands.{asked_of_variables}
use Rattle.answer.specs.Facts.{facts_in}
use Rattle.answer.proofs.Facts.{facts_onward}
use Rattle.answer.proofs.count_facts.Given as goal

abbrev pub invariant-loop-x : goal.invariant-loop-x
invariant-loop-x l =
    let sets = asked_of_variables l.asked in
    l.n + length (facts_onward l.atoms l.bound.0 sets l.variables l.x) ≡ length (facts_in l.atoms l.variables l.bound.0 sets)
