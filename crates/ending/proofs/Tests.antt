-- Tests and what they say together; what is assumed, as a fact.
use Prim.Native.Nat.{ℕ}
use mathlib.Core.Path.{◌≡◌, refl, sym, ap₂}
use mathlib.Core.Logic.{◌↔◌}
use mathlib.Core.Bool.{Bool, true, false, not, ◌&&◌, ◌||◌, true≢false}
use mathlib.Core.List.{List, [], ◌∷◌}
use lib.Dec.{eqb}
use borrow.Author.Tests.{eqb-true, eq-eqb}
use Rattle.problem.specs.Problem.{Assumed}
use Rattle.problem.specs.Held.{assumes}
use Rattle.run.specs.Answer.{has_fact, assumed_facts}

-- Two tests that pass together.
pub same_test : (b c : Bool) → ((b ≡ true) ↔ (c ≡ true)) → b ≡ c
same_test true c h = sym (h.0 refl)
same_test false true h = h.1 refl
same_test false false h = refl

pub and_not : (b c : Bool) → (not b && c ≡ true) ↔ ((c ≡ true) × (b ≡ false))
and_not true c = (λ e. absurd (true≢false (sym e)), λ k. absurd (true≢false k.1))
and_not false c = (λ e. (e, refl), λ k. k.0)

eqb_comm : (a b : ℕ) → eqb a b ≡ eqb b a
eqb_comm a b = same_test (eqb a b) (eqb b a) (λ e. eq-eqb b a (sym (eqb-true a b e)), λ e. eq-eqb a b (sym (eqb-true b a e)))

-- "Assumptions (22) are the facts."
pub assumes_fact : (qs : List Assumed) (a X : ℕ) → assumes qs a X ≡ has_fact (a, X) (assumed_facts qs)
assumes_fact [] a X = refl
assumes_fact (d ∷ qs) a X = ap₂ ◌||◌ (ap₂ ◌&&◌ (eqb_comm d.atom a) (eqb_comm d.variable X)) (assumes_fact qs a X)
