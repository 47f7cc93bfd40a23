-- The length wanted is the answer's, so that an answer that fits is written whole, and of any other no byte.
use Rattle.std.proofs.Common.{arith, Ok, rules, ◌≡◌}
use Rattle.bindings.specs.Bindings.{binding_tables, bindings_of}
use Rattle.demands.specs.Demands.{asked_of_variables}
use Rattle.run.specs.Answer.{answer_bytes, written}
use Rattle.numbers.specs.Numbers.{result_of}
use Rattle.run.proofs.Written.{length_fact_bytes}
use Rattle.answer.specs.Facts.{facts_in}
use Rattle.answer.proofs.Writing.{wrote_length, wrote_same, ◌then◌}
use Rattle.answer.proofs.Fields.{answer_fields, length_steps_field}
use Rattle.answer.proofs.Facts.{few_facts}
use Rattle.answer.proofs.Answer.{bindings_few, length_bindings, length_answer, written_whole, written_short}
use Rattle.answer.proofs.write.Goals as goal

pub overflow_mul-wanted : goal.overflow_mul-wanted
overflow_mul-wanted c =
    let a = c.args in
    omega (arith, bindings_few a.atoms (binding_tables a.bindings.now.made.now a.bindings.now.values.now) a.k a.bound.0 c.requires.0 c.requires.1)

pub overflow_add-wanted-2 : goal.overflow_add-wanted-2
overflow_add-wanted-2 c =
    let a = c.args in
    omega (arith, bindings_few a.atoms (binding_tables a.bindings.now.made.now a.bindings.now.values.now) a.k a.bound.0 c.requires.0 c.requires.1)

pub overflow_mul-wanted-2 : goal.overflow_mul-wanted-2
overflow_mul-wanted-2 c =
    let a = c.args in
    omega (arith, few_facts a.atoms a.variables a.bound.0 (asked_of_variables a.asked.now) c.requires.2)

pub overflow_add-wanted-3 : goal.overflow_add-wanted-3
overflow_add-wanted-3 c =
    let a = c.args in
    omega (
      arith,
      bindings_few a.atoms (binding_tables a.bindings.now.made.now a.bindings.now.values.now) a.k a.bound.0 c.requires.0 c.requires.1,
      few_facts a.atoms a.variables a.bound.0 (asked_of_variables a.asked.now) c.requires.2,
    )

pub returns-then-output-wanted : goal.returns-then-output-wanted
returns-then-output-wanted c =
    let a = c.args in
    let facts = facts_in a.atoms a.variables a.bound.0 (asked_of_variables a.asked.now) in
    let wanted = length_answer a.atoms (binding_tables a.bindings.now.made.now a.bindings.now.values.now) a.k a.bound.0 c.requires.0 a.steps facts in
    written_short _ _ _ c.refuse.ensures (omega (arith, wanted)) (omega (arith, wanted))

pub bindings-requires : goal.bindings-requires
bindings-requires c =
    let a = c.args in
    let t = binding_tables a.bindings.now.made.now a.bindings.now.values.now in (
      (a.bound.0, c.requires.0),
      c.requires.1,
      omega (arith, wrote_length c.steps.ensures.wrote, length_steps_field a.steps, length_bindings a.atoms t a.k a.bound.0 c.requires.0),
    )

pub facts-requires : goal.facts-requires
facts-requires c =
    let a = c.args in
    let facts = facts_in a.atoms a.variables a.bound.0 (asked_of_variables a.asked.now) in (
      c.requires.2,
      c.requires.1,
      omega (
        arith,
        wrote_length c.steps.ensures.wrote,
        wrote_length c.bindings.ensures.wrote,
        length_steps_field a.steps,
        length_bindings a.atoms (binding_tables a.bindings.now.made.now a.bindings.now.values.now) a.k a.bound.0 c.requires.0,
        length_fact_bytes facts,
      ),
    )

pub returns : goal.returns
returns c =
    let a = c.args in
    let bindings = bindings_of a.atoms (binding_tables a.bindings.now.made.now a.bindings.now.values.now) a.k in
    let facts = facts_in a.atoms a.variables a.bound.0 (asked_of_variables a.asked.now) in
    let all : result_of (Ok c.facts.new.self.at) c.facts.new.self.output.now ≡ written (answer_bytes a.steps bindings facts) a.output.now =
    written_whole _ _ _ _
    (wrote_same (answer_fields a.steps bindings facts) (c.steps.ensures.wrote then c.bindings.ensures.wrote then c.facts.ensures.wrote))
    (omega (arith, length_answer a.atoms (binding_tables a.bindings.now.made.now a.bindings.now.values.now) a.k a.bound.0 c.requires.0 a.steps facts)) in
    search rules
