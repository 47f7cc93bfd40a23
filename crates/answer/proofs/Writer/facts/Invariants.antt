-- After x turns the facts of the variables from x on are left.
use Rattle.std.proofs.Common.{◌≡◌}
use Rattle.demands.specs.Demands.{asked_of_variables}
use Rattle.run.specs.Answer.{fact_bytes}
use Rattle.answer.specs.Facts.{facts_in}
use Rattle.answer.proofs.Facts.{facts_onward}
use Rattle.answer.proofs.Writing.{Left}
use Rattle.answer.proofs.Writer.facts.Given as goal

abbrev pub invariant-loop-x : goal.invariant-loop-x
invariant-loop-x l =
    let sets = asked_of_variables l.asked in
    let left = fact_bytes (facts_onward l.atoms l.bound.0 sets l.variables l.x) in
    (l.self.output.ghost_name ≡ l.fn.self.output.ghost_name)
    × Left l.self.output.now l.self.at left l.fn.self.output.now l.fn.self.at (fact_bytes (facts_in l.atoms l.variables l.bound.0 sets))
