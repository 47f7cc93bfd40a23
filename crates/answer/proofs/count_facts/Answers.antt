use Rattle.std.proofs.Common.{◌≡◌, ℕ, ◌+◌, ◌<◌, List, length, sym, ap, ◌∙◌, arith}
use lib.Count.{ones}
use Rattle.sets.specs.Bits.{count}
use Rattle.demands.specs.Demands.{asked_of_variables}
use Rattle.answer.specs.Facts.{fact_set}
use Rattle.answer.proofs.Facts.{facts_onward, count_here, onward_end, onward_start, few_facts}
use Rattle.answer.proofs.count_facts.Goals as goal

-- This variable's facts, with those after it, are those that were left.
facts_here : (A bound : ℕ) (asked : List ℕ) (variables X w : ℕ) → X < variables → w ≡ fact_set A bound asked X
    → ones w + length (facts_onward A bound asked variables (X + 1)) ≡ length (facts_onward A bound asked variables X)
unfolding count
facts_here A bound asked variables X w h e =
    ap (λ (v : ℕ). ones v + length (facts_onward A bound asked variables (X + 1))) e ∙ sym (count_here A bound asked variables X h)

pub loop-x-init : goal.loop-x-init
loop-x-init c = omega (arith, ap length (onward_start c.args.atoms c.args.bound.0 (asked_of_variables c.args.asked.now) c.args.variables))

pub overflow_add-n : goal.overflow_add-n
overflow_add-n c =
    let a = c.args in
    let sets = asked_of_variables a.asked.now in
    omega (
      arith,
      facts_here a.atoms a.bound.0 sets a.variables c.loop-x.x _ c.loop-x-test.true c.fact_set-facts.ensures,
      few_facts a.atoms a.variables a.bound.0 sets c.requires.0,
    )

pub loop-x-preserved : goal.loop-x-preserved
loop-x-preserved c =
    let a = c.args in
    let sets = asked_of_variables a.asked.now in
    omega (arith, facts_here a.atoms a.bound.0 sets a.variables c.loop-x.x _ c.loop-x-test.true c.fact_set-facts.ensures)

pub returns : goal.returns
returns c =
    let a = c.args in
    omega (arith, ap length (onward_end a.atoms a.bound.0 (asked_of_variables a.asked.now) a.variables c.loop-x.x c.loop-x-test.false))
