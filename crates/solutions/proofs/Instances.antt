-- Which pairs are the instances of a problem's answer: those that satisfy its substitution and derive its facts.
use mathlib.Core.Logic.{◌↔◌}
use mathlib.Core.List.{List}
use Rattle.nominal.specs.Tree.{Substitution}
use Rattle.nominal.specs.Solutions.{Every, Facts, environment_of, Allowance, Instance, Holds, Satisfies, Idempotent, Unbound}
use Rattle.nominal.proofs.Solutions.{instance_exactly}
use Rattle.problem.specs.Problem.{Problem}
use Rattle.run.specs.Meaning.{Binding, Fact, meaning}
use Rattle.solutions.specs.Promises.{answer_of}

pub answer_instances : (p : Problem) (A : Allowance) (bs : List Binding) (fs : List Fact) (F : Facts) (τ : Substitution)
    → Idempotent (meaning p.nodes bs) → A.allows_substitution τ → Every (Unbound (meaning p.nodes bs)) fs
    → (Satisfies (environment_of F) τ (answer_of p bs fs).substitution × Every (Holds (environment_of F) τ) fs)
    ↔ Instance A (environment_of F) τ (answer_of p bs fs)
answer_instances p A bs fs F τ once a free = instance_exactly A {∇ = environment_of F} τ (answer_of p bs fs) once a free
