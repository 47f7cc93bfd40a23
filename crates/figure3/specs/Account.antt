-- 003's account of a verdict: which transformations led to it. Definitions alone; that every verdict has one is in proofs/.
use Rattle.std.specs.Prelude.{ℕ, ◌<◌, ◌↔◌}
use mathlib.Core.List.{List, [], Memᴰ}
use Rattle.nominal.specs.Solutions.{Facts}
use Rattle.problem.specs.Problem.{Problem}
use Rattle.run.specs.Meaning.{Binding, Fact}
use Rattle.run.specs.Run.{Demand, Refusal, ground_of}
use Rattle.run.specs.Answer.{Verdict, accepted, refusal, refusal_number}
use Rattle.solutions.specs.Promises.{asked}
use Rattle.figure3.specs.Figure3.{SecondPhase, empty_problem, Fails}
use Rattle.figure3.specs.Ran.{state_problem, Reached, Top, StuckAt}

-- The problem's first phase is over after so many transformations.
abbrev pub Over : Problem → ℕ → List Binding → List Demand → Type 0
Over p steps bs ds = Reached (ground_of p) (asked p).demands (asked p) steps [] bs ds

pub data Account (p : Problem) : Verdict → Type 0 where
  -- 8: all steps are taken, and an equational problem is left.
  at_limit : {place : ℕ} → Top (ground_of p) (asked p).demands (asked p) p.limit place → Account p (refusal 8 place)
  -- 9, 10, 11: after fewer steps stands an equational problem for which there is no transformation.
  stuck : {place : ℕ} (r : Refusal) (n : ℕ) → n < p.limit → (s : Top (ground_of p) (asked p).demands (asked p) n place) → StuckAt r s
      → Account p (refusal (refusal_number r) place)
  -- 12: "If this does not result in the empty problem, then it halts signalling failure".
  not_fresh : (n : ℕ) (bs : List Binding) (ds : List Demand) → Over p n bs ds → Fails (state_problem (ground_of p) (asked p).demands [] bs ds)
      → Account p (refusal 12 0)
  -- 0: "otherwise overall it has constructed a transformation sequence of the form (12) .. and the algorithm returns the solution (∇₁ ∪ .. ∪ ∇ₘ, σₙ ∘
  -- .. ∘ σ₁)". The steps of the answer are the transformations of the first phase, its bindings mean the composed labels, its facts are the labels of the
  -- second.
  solved : {steps : ℕ} {bs : List Binding} {fs : List Fact} (ds : List Demand) (∇ : Facts) → Over p steps bs ds
      → SecondPhase (state_problem (ground_of p) (asked p).demands [] bs ds) ∇ empty_problem → ((f : Fact) → Memᴰ f ∇ ↔ Memᴰ f fs)
      → Account p (accepted steps bs fs)
