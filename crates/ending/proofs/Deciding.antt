-- What is given back after the last equation, from what resolving tells: the writer's bytes or a refusal for the solver, a judgement for the judge.
use Prim.Native.Nat.{ℕ, ◌-◌, ◌<◌}
use mathlib.Core.Path.{◌≡◌, sym, ◌∙◌, ap}
use mathlib.Core.Bool.{Bool, true, false, cond}
use mathlib.Core.List.{List, ◌++◌, append_assoc}
use mathlib.Core.Option.{some}
use lib.ListN.{get_or}
use Rattle.sets.specs.Bits.{member}
use Rattle.nominal.specs.Tree.{Substitution}
use Rattle.problem.specs.Problem.{Problem}
use Rattle.problem.specs.Readable.{Readable}
use Rattle.problem.specs.Held.{assumes}
use Rattle.run.specs.Meaning.{Binding, meaning, Fact}
use Rattle.run.specs.Answer.{Asked, asked_fresh, asked_assumed, asked_raised, resolved_all, facts, answer_bytes, verdict_of, written, given}
use Rattle.run.specs.Answer as run
use Rattle.bindings.specs.Bindings.{Bindings, bindings_of}
use Rattle.asked.specs.Added.{Words}
use Rattle.answer.specs.Facts.{facts_in}
use Rattle.answer.proofs.Facts.{facts_read}
use Rattle.std.specs.Prelude.{Ok, Err}
use Rattle.numbers.specs.declared.Reason.TheVariants.{NotFresh, DoesNotHold}
use Rattle.numbers.specs.declared.Refusal.{Refusal}
use Rattle.numbers.specs.Numbers.{result_of, judgement_given}
use Rattle.ending.specs.Covered.{covered}
use Rattle.ending.specs.Ended.{Outcome, Ended, end_in}
use Rattle.ending.proofs.Covering.{all_assumed}

module _ {p : Problem} (r : Readable p) {t : Bindings} {count bound : ℕ} {asked : List (List ℕ)} {steps : ℕ}
    (e : Ended p t count bound asked steps) where
  abbrev bindings : List Binding
  bindings = bindings_of p.atoms t count

  abbrev σ : Substitution
  σ = meaning p.nodes bindings

  abbrev of_file : List Asked
  of_file = asked_fresh p.nodes p.freshness

  abbrev raised : List Asked
  raised = asked_raised p.nodes e.demands

  -- ---- the solver

  module _ {after : List ℕ} {fails : Bool} (o : Outcome p bindings (of_file ++ (asked_assumed p.assumptions ++ raised)) bound after fails) where
    -- "the demands of tags 21 and 22 and those raised", in the definition's order.
    in_order : resolved_all σ (of_file ++ asked_assumed p.assumptions ++ raised) ≡ resolved_all σ (of_file ++ (asked_assumed p.assumptions ++ raised))
    in_order = ap (resolved_all σ) (append_assoc of_file (asked_assumed p.assumptions) raised)

    pub conclude_not_fresh : {f : Refusal} {output : List ℕ} → fails ≡ true → f ≡ record { reason = NotFresh; place = 0 }
        → result_of (Err f) output ≡ given (verdict_of p (end_in e)) output
    unfolding verdict_of given
    conclude_not_fresh q given_is = rw (given_is, in_order ∙ o.not_fresh q)

    module _ (quiet : fails ≡ false) {atoms variables : ℕ} (all_atoms : atoms ≡ p.atoms) (all_variables : variables ≡ p.variables) (before : List ℕ) where
      -- The definition's answer.
      answered : (fs : List Fact) → resolved_all σ (of_file ++ asked_assumed p.assumptions ++ raised) ≡ some fs
          → given (verdict_of p (end_in e)) before ≡ written (answer_bytes (p.limit - e.left) bindings (facts p fs)) before
      unfolding verdict_of given
      answered fs q = rw q

      -- The bytes that the writer was to write are it.
      pub the_answer : written (answer_bytes steps (bindings_of atoms t count) (facts_in atoms variables bound after)) before
          ≡ given (verdict_of p (end_in e)) before
      the_answer =
          let (fs, q, says, few) = o.facts quiet in
          let f : facts_in p.atoms p.variables bound after ≡ facts p fs = facts_read p bound after fs r.few_atoms (λ a X h l. says a X l) in
          rw (all_atoms, all_variables, f)
          (ap (λ (n : ℕ). written (answer_bytes n bindings (facts p fs)) before) (sym e.counted) ∙ sym (answered fs (in_order ∙ q)))

  -- ---- the judge

  module _ {after : List ℕ} {fails : Bool} (o : Outcome p bindings (of_file ++ raised) bound after fails) where
    pub judge_not_fresh : {f : Refusal} → fails ≡ true → f ≡ record { reason = DoesNotHold; place = 0 }
        → judgement_given (Err f) ≡ run.judgement_of p (end_in e)
    unfolding run.judgement_of
    judge_not_fresh q given_is = rw (given_is, o.not_fresh q)

    module _ (quiet : fails ≡ false) (narrow : Words after) (assumed : List ℕ)
        (held : (a X : ℕ) → X < p.variables → member (get_or assumed X 0) a ≡ assumes p.assumptions a X) {variables : ℕ}
        (all_variables : variables ≡ p.variables) {all : Bool} (found : all ≡ covered variables bound after assumed) where
      decided : run.judgement_of p (end_in e) ≡ cond all (0, 0) (14, 0)
      unfolding run.judgement_of
      decided =
          let (fs, q, says, few) = o.facts quiet in
          let c = all_assumed bound after assumed narrow p.variables p.assumptions fs held says few in
          rw (q, c, sym all_variables, sym found)

      pub judge_holds : all ≡ true → judgement_given (Ok (tt)) ≡ run.judgement_of p (end_in e)
      judge_holds q = sym (decided ∙ rw q)

      pub judge_does_not : {f : Refusal} → all ≡ false → f ≡ record { reason = DoesNotHold; place = 0 }
          → judgement_given (Err f) ≡ run.judgement_of p (end_in e)
      judge_does_not q given_is = rw given_is (sym (decided ∙ rw q))
