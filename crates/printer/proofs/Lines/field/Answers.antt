-- The line of one field, by what it says.
use Rattle.std.proofs.Common.{arith, ap}
use Rattle.printer.specs.Tags.{tag_of}
use Rattle.printer.proofs.Walking.{steps_line, binding_line, fact_line, passed_on}
use Rattle.printer.proofs.Lines.field.Goals as goal

pub returns-in-Steps-clause-placed : goal.returns-in-Steps-clause-placed
returns-in-Steps-clause-placed c = rw (steps_line _ c.args.body.now (ap tag_of c.in-Steps.is), ← c.four.ensures) c.accepted.ensures.placed

pub returns-in-Binding-clause-placed : goal.returns-in-Binding-clause-placed
returns-in-Binding-clause-placed c =
    let is = ap tag_of c.in-Binding.is in
    rw (binding_line _ c.args.body.now (λ e. omega (arith, is, e)) is, ← passed_on 3 c.args.body.now, ← c.two.ensures) c.bind.ensures.placed

pub returns-in-Fact-clause-placed : goal.returns-in-Fact-clause-placed
returns-in-Fact-clause-placed c =
    let is = ap tag_of c.in-Fact.is in
    rw (fact_line (tag_of c.args.part) c.args.body.now (λ e. omega (arith, is, e)) (λ e. omega (arith, is, e))) c.fresh.ensures.placed
