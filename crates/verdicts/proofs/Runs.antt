-- The run under a set of protected variables is the definition's: the solver's with the problem's own protection, the judge's with all, both from no
-- bindings. What holds where a run is finished, and what is given back by its end.
use Prim.Native.Nat.{ℕ, ◌<◌}
use native.Mathlib.Omega.{arith}
use mathlib.Core.Path.{◌≡◌, refl, ◌∙◌, ap, subst}
use mathlib.Core.Logic.{◌≢◌}
use mathlib.Core.Bool.{Bool, true}
use mathlib.Core.List.{List, []}
use borrow.Author.Tests.{lt-ltb}
use Rattle.sets.specs.Bits.{member, all_below, among}
use Rattle.sets.proofs.Bits.{member_all_below}
use Rattle.problem.specs.Problem.{Problem}
use Rattle.problem.specs.Readable.{Readable}
use Rattle.run.specs.Meaning.{Binding}
use Rattle.run.specs.Run.{Equation, Demand, clash, inside, protection, End, limit, refused, finished, equations_from, run_of}
use Rattle.run.specs.Circle.{Circleless}
use Rattle.run.specs.Answer.{verdict_of, Result, given, judged_run, Judgement, judgement_of}
use Rattle.run.proofs.Circleless.{circleless_none}
use Rattle.run.proofs.States.{State, state_next, AtEnd, run_end, ground_with, start_from}
use Rattle.bindings.specs.Bindings.{Bindings, bindings_of}
use Rattle.bindings.proofs.Laws.{keeps_none}
use Rattle.std.specs.Prelude.{Err}
use Rattle.numbers.specs.declared.Reason.TheVariants.{Limit, Clash, Inside, Protected}
use Rattle.numbers.specs.declared.Refusal.{Refusal}
use Rattle.numbers.specs.Numbers.{result_of, judgement_given}
use Rattle.machine.specs.Run.{Founded, end_given}
use Rattle.verdicts.specs.Ends.{run_from}
use Rattle.verdicts.proofs.Protection.{run_alike}

-- ---- from no bindings

bindings_none : (A : ℕ) (t : Bindings) → bindings_of A t 0 ≡ []
unfolding bindings_of
bindings_none A t = refl

pub founded_none : (p : Problem) (t : Bindings) {bound : ℕ} → bound ≡ 0 → Founded p t 0 bound
founded_none p t none = record {
  keeps = rw none (keeps_none t.made);
  circleless = rw (bindings_none p.atoms t) (circleless_none p.atoms p.variables p.nodes);
}

module _ (p : Problem) (r : Readable p) (f : ℕ → Bool) where
  module _ (t : Bindings) where
    abbrev first : List Binding
    first = bindings_of p.atoms t 0

    -- Protections that agree on the problem's variables.
    agreeing : (h : ℕ → Bool) → ((X : ℕ) → X < p.variables → f X ≡ h X) → run_from p f first ≡ run_from p h []
    agreeing h agree =
        run_alike p.atoms p.nodes p.variables r.named_nodes f h agree p.limit (equations_from p.atoms 0 p.equations) first []
        ∙ ap (run_from p h) (bindings_none p.atoms t)

    pub solver_run : ((X : ℕ) → X < p.variables → f X ≡ among X p.protected) → run_from p f first ≡ run_of p
    unfolding run_of
    solver_run agree = agreeing (λ X. among X p.protected) agree

    pub judge_run : ((X : ℕ) → X < p.variables → f X ≡ true) → run_from p f first ≡ judged_run p
    unfolding judged_run
    judge_run agree = agreeing (λ X. true) agree

  -- What holds all through a run, from bindings without a circle.
  abbrev pub Kept : List Equation → List Binding → List Demand → Type 1
  Kept = State (ground_with p f) p.variables r.named_nodes

  pub end_state : {first : List Binding} → Circleless p.atoms p.variables p.nodes first
      → {k : ℕ} {bs : List Binding} {ds : List Demand} → run_from p f first ≡ finished k bs ds → Kept [] bs ds
  end_state {first} circleless ran =
      let kept = state_next (ground_with p f) p.variables r.named_nodes in
      let equations = equations_from p.atoms 0 p.equations in
      subst (AtEnd Kept) ran (run_end (ground_with p f) Kept kept p.limit equations first [] (start_from p r f circleless))

-- The set of all variables.
pub all_protected : (p : Problem) → Readable p → (X : ℕ) → X < p.variables → member (all_below 64 64) X ≡ true
all_protected p r X h = let l : X < 64 = omega (arith, r.few_variables) in member_all_below 64 64 X l ∙ lt-ltb X 64 l

-- ---- what is given back, by the run's end

-- The solver: an end that is not finished is given back as it is; a finished one has what comes after it.
pub solved_refused : (p : Problem) (output : List ℕ) {f : Refusal} (x : End) → end_given x ≡ Err f → result_of (Err f) output ≡ given (verdict_of p x) output
unfolding verdict_of given
solved_refused p output {f} (limit n) e = let q : f ≡ record { reason = Limit; place = n } = cc in rw q
solved_refused p output {f} (refused clash n) e = let q : f ≡ record { reason = Clash; place = n } = cc in rw q
solved_refused p output {f} (refused inside n) e = let q : f ≡ record { reason = Inside; place = n } = cc in rw q
solved_refused p output {f} (refused protection n) e = let q : f ≡ record { reason = Protected; place = n } = cc in rw q
solved_refused p output {f} (finished k bs ds) e = absurd (cc)

pub solved_finished : (p : Problem) (output : List ℕ) {x y : End} {g : Result} → x ≡ y → g ≡ given (verdict_of p x) output → g ≡ given (verdict_of p y) output
solved_finished p output e q = q ∙ ap (λ (x : End). given (verdict_of p x) output) e

-- The judge: "8 stays 8", with its place.
pub judged_limit : (p : Problem) {f : Refusal} (x : End) → end_given x ≡ Err f → f.reason ≡ Limit → judgement_given (Err f) ≡ judgement_of p x
unfolding judgement_of
judged_limit p {f} (limit n) e h = let q : f ≡ record { reason = Limit; place = n } = cc in rw q
judged_limit p {f} (refused clash n) e h = let q : f.reason ≡ Clash = cc in absurd (cc)
judged_limit p {f} (refused inside n) e h = let q : f.reason ≡ Inside = cc in absurd (cc)
judged_limit p {f} (refused protection n) e h = let q : f.reason ≡ Protected = cc in absurd (cc)
judged_limit p {f} (finished k bs ds) e h = absurd (cc)

-- Every other refusal of the run is its one, without a place.
pub judged_refused : (p : Problem) {f : Refusal} (x : End) → end_given x ≡ Err f → f.reason ≢ Limit → (14, 0) ≡ judgement_of p x
unfolding judgement_of
judged_refused p {f} (limit n) e h = let q : f.reason ≡ Limit = cc in absurd (h q)
judged_refused p (refused why n) e h = refl
judged_refused p (finished k bs ds) e h = absurd (cc)

pub judged_finished : (p : Problem) {x y : End} {g : Judgement} → x ≡ y → g ≡ judgement_of p x → g ≡ judgement_of p y
judged_finished p e q = q ∙ ap (judgement_of p) e
