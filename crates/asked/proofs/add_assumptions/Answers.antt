use Rattle.std.proofs.Common.{ℕ, subst}
use Rattle.demands.specs.Demands.{VariableAsked}
use Rattle.asked.proofs.Added.{none_joined, variable_joined}
use Rattle.asked.proofs.add_assumptions.Goals as goal

pub loop-i-init : goal.loop-i-init
loop-i-init c = none_joined c.args.assumed.now c.args.asked.now

pub loop-i-preserved : goal.loop-i-preserved
loop-i-preserved c =
    let more = c.ask_of_variable.new.asked in
    let asked = subst (λ (atoms : ℕ). VariableAsked c.loop-i.i atoms c.loop-i.asked more) c.assumed_for.ensures c.ask_of_variable.ensures in
    variable_joined c.loop-i.i c.args.assumed.now c.args.asked.now c.loop-i.asked more c.loop-i.invariant asked
