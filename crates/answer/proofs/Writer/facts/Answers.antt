use Rattle.std.proofs.Common.{sym, ap, refl, ◌∙◌}
use Rattle.demands.specs.Demands.{asked_of_variables}
use Rattle.run.specs.Answer.{fact_bytes}
use Rattle.answer.specs.Facts.{fact_bytes_of}
use Rattle.answer.proofs.Writing.{left_all, left_same, left_more, left_room, left_done, wrote_same}
use Rattle.answer.proofs.Facts.{bytes_here, bytes_end, onward_start}
use Rattle.answer.proofs.Writer.facts.Goals as goal

pub loop-x-init : goal.loop-x-init
loop-x-init c =
    let a = c.args in
    (refl, left_same (ap fact_bytes (sym (onward_start a.atoms a.bound.0 (asked_of_variables a.asked.now) a.variables))) (left_all _ _ _))

pub facts_of-requires : goal.facts_of-requires
facts_of-requires c =
    let a = c.args in
    let here = bytes_here a.atoms a.bound.0 (asked_of_variables a.asked.now) a.variables c.loop-x.x c.loop-x-test.true in
    rw c.fact_set-facts.ensures (left_room _ _ (left_same here c.loop-x.invariant.1) c.requires.2)

pub loop-x-preserved : goal.loop-x-preserved
loop-x-preserved c =
    let a = c.args in
    let here = bytes_here a.atoms a.bound.0 (asked_of_variables a.asked.now) a.variables c.loop-x.x c.loop-x-test.true in (
      c.facts_of.ensures.same ∙ c.loop-x.invariant.0,
      left_more (left_same here c.loop-x.invariant.1) (wrote_same (ap (fact_bytes_of c.loop-x.x) c.fact_set-facts.ensures) c.facts_of.ensures.wrote),
    )

pub returns : goal.returns
returns c =
    let a = c.args in
    record {
      same = c.loop-x.invariant.0;
      wrote = left_done c.loop-x.invariant.1 (bytes_end a.atoms a.bound.0 (asked_of_variables a.asked.now) a.variables c.loop-x.x c.loop-x-test.false);
    }
