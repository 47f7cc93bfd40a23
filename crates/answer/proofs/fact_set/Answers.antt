-- For a bound variable and for another.
use Rattle.std.proofs.Common.{sym, ap₂, ◌∙◌}
use Rattle.sets.specs.Bits.{intersection}
use Rattle.answer.proofs.Facts.{fact_set_bound, fact_set_unbound}
use Rattle.answer.proofs.fact_set.Goals as goal

pub returns-then-has : goal.returns-then-has
returns-then-has c = c.empty.ensures ∙ fact_set_bound _ _ _ _ (sym c.has.ensures ∙ c.if-has.true)

pub returns : goal.returns
returns c =
    c.intersection.ensures ∙ ap₂ intersection c.below.ensures c.of_variable.ensures ∙ fact_set_unbound _ _ _ _ (sym c.has.ensures ∙ c.if-has.false)
