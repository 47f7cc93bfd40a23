-- The second phase: what resolves the demands when no equation is left is a sequence of figure 3's transformations of freshness problems, that ends
-- in the empty problem with the facts as its label, or comes to an atom fresh for itself.
use Prim.Native.Nat.{ℕ}
use native.Mathlib.Omega.{arith}
use mathlib.Core.Path.{◌≡◌, refl, sym}
use mathlib.Core.List.{List, [], ◌∷◌, ◌++◌, append_assoc}
use mathlib.Core.Option.{Option, none, some}
use borrow.Author.Tests.{eq-eqb, ne_eqb}
use Rattle.permutation.specs.Swaps.{act, inverse}
use Rattle.names.proofs.Equal.{by_eq}
use Rattle.nominal.specs.Tree.{Tree, unit, atom, abstraction, pair, application, suspension, Substitution, substitute}
use Rattle.nominal.specs.Solutions.{Facts, TreeDemand, TreeEquation, TreeProblem}
use Rattle.run.specs.Meaning.{both, fresh_for}
use Rattle.run.specs.Answer.{Asked, resolved_all}
use Rattle.figure3.specs.Figure3.{#?-unit, #?-pair, #?-function_symbol, #?-abstraction_1, #?-abstraction_2, #?-atom, #?-suspension, SecondStep, second}
use Rattle.figure3.specs.Figure3.{SecondPhase, stays, goes, empty_problem, Fails}
use Rattle.figure3.specs.Ran.{put_asked}

no_clash : {A : Type 0} {x : A} → ◌≡◌ {A = Option A} none (some x) → ⊥
no_clash e = let z : ◌≡◌ {A = ℕ} 0 1 = cc in omega arith

-- What two answers come to together.
both_some : {R : Type 0} (c d : Option Facts) (fs : Facts) → both c d ≡ some fs → ((x y : Facts) → c ≡ some x → d ≡ some y → x ++ y ≡ fs → R) → R
both_some none d fs e k = absurd (no_clash e)
both_some (some x) none fs e k = absurd (no_clash e)
both_some (some x) (some y) fs e k = k x y refl refl (cc)

both_none : {R : Type 0} (c d : Option Facts) → both c d ≡ none → (c ≡ none → R) → ((x : Facts) → c ≡ some x → d ≡ none → R) → R
both_none none d e f k = f refl
both_none (some x) none e f k = k x refl refl
both_none (some x) (some y) e f k = absurd (no_clash (sym e))

module _ (E : List TreeEquation) where
  -- A demand that comes down to facts is resolved, with them as the label.
  fresh_resolves : (a : ℕ) (t : Tree) (fs : Facts) → fresh_for a t ≡ some fs → (D : List TreeDemand) {∇ : Facts} {R : TreeProblem}
      → SecondPhase (record { demands = D; equations = E }) ∇ R
      → SecondPhase (record { demands = (a, t) ∷ D; equations = E }) (fs ++ ∇) R
  fresh_resolves a unit fs e D s = let p : fs ≡ [] = cc in rw p (goes (second [] D E #?-unit) s)
  fresh_resolves a (atom b) fs e D s =
      by_eq a b (λ q. absurd (no_clash (rw (eq-eqb a b q) at e))) λ n.
      let k : some [] ≡ some fs = rw (ne_eqb a b n) at e in
      let p : fs ≡ [] = cc in
      rw p (goes (second [] D E (#?-atom n)) s)
  fresh_resolves a (abstraction b t) fs e D s =
      by_eq a b (λ q.
      let k : some [] ≡ some fs = rw (eq-eqb a b q) at e in
      let p : fs ≡ [] = cc in
      rw (p, q) (goes (second [] D E #?-abstraction_1) s)) λ n.
      let k : fresh_for a t ≡ some fs = rw (ne_eqb a b n) at e in
      goes (second [] D E (#?-abstraction_2 n)) (fresh_resolves a t fs k D s)
  fresh_resolves a (pair t u) fs e D {∇} s =
      both_some (fresh_for a t) (fresh_for a u) fs e λ x y p q r.
      rw (← r, append_assoc x y ∇) (goes (second [] D E #?-pair) (fresh_resolves a t x p ((a, u) ∷ D) (fresh_resolves a u y q D s)))
  fresh_resolves a (application f t) fs e D s = goes (second [] D E #?-function_symbol) (fresh_resolves a t fs e D s)
  fresh_resolves a (suspension π X) fs e D s = let p : fs ≡ (act (inverse π) a, X) ∷ [] = cc in rw p (goes (second [] D E #?-suspension) s)

  -- A transformation, or a sequence of them, before a failure.
  fails_after : {D D' : List TreeDemand} {∇ : Facts} → SecondStep (record { demands = D; equations = E }) ∇ (record { demands = D'; equations = E })
      → Fails (record { demands = D'; equations = E })
      → Fails (record { demands = D; equations = E })
  fails_after {∇ = ∇} f k = record { label = ∇ ++ k.label; atom = k.atom; others = k.others; sequence = goes f k.sequence }

  fails_behind : (a : ℕ) (t : Tree) (fs : Facts) → fresh_for a t ≡ some fs → (D : List TreeDemand) → Fails (record { demands = D; equations = E })
      → Fails (record { demands = (a, t) ∷ D; equations = E })
  fails_behind a t fs e D k = record { label = fs ++ k.label; atom = k.atom; others = k.others; sequence = fresh_resolves a t fs e D k.sequence }

  -- A demand that ends at an atom fresh for itself leads there.
  fresh_fails : (a : ℕ) (t : Tree) → fresh_for a t ≡ none → (D : List TreeDemand) → Fails (record { demands = (a, t) ∷ D; equations = E })
  fresh_fails a unit e D = absurd (no_clash (sym e))
  fresh_fails a (atom b) e D =
      by_eq a b (λ q. rw q (record { label = []; atom = b; others = D; sequence = stays })) λ n.
      absurd (no_clash (sym (rw (ne_eqb a b n) at e)))
  fresh_fails a (abstraction b t) e D =
      by_eq a b (λ q. absurd (no_clash (sym (rw (eq-eqb a b q) at e)))) λ n.
      let k : fresh_for a t ≡ none = rw (ne_eqb a b n) at e in
      fails_after (second [] D E (#?-abstraction_2 n)) (fresh_fails a t k D)
  fresh_fails a (pair t u) e D =
      fails_after (second [] D E #?-pair)
      (both_none (fresh_for a t) (fresh_for a u) e (λ p. fresh_fails a t p ((a, u) ∷ D)) (λ x p q. fails_behind a t x p ((a, u) ∷ D) (fresh_fails a u q D)))
  fresh_fails a (application f t) e D = fails_after (second [] D E #?-function_symbol) (fresh_fails a t e D)
  fresh_fails a (suspension π X) e D = absurd (no_clash (sym e))

-- All demands: "∇₁ ∪ .. ∪ ∇ₘ" are the facts that they come down to.
pub all_resolve : (σ : Substitution) (ds : List Asked) (fs : Facts) → resolved_all σ ds ≡ some fs
    → SecondPhase (record { demands = put_asked σ ds; equations = [] }) fs empty_problem
unfolding resolved_all
all_resolve σ [] fs e = let p : fs ≡ [] = cc in rw p stays
all_resolve σ (d ∷ ds) fs e =
    both_some (fresh_for d.0 (substitute σ d.1)) (resolved_all σ ds) fs e λ x y p q r.
    rw (← r) (fresh_resolves [] d.0 (substitute σ d.1) x p (put_asked σ ds) (all_resolve σ ds y q))

pub all_fail : (σ : Substitution) (ds : List Asked) → resolved_all σ ds ≡ none → Fails (record { demands = put_asked σ ds; equations = [] })
unfolding resolved_all
all_fail σ [] e = absurd (no_clash (sym e))
all_fail σ (d ∷ ds) e =
    both_none (fresh_for d.0 (substitute σ d.1)) (resolved_all σ ds) e
    (λ p. fresh_fails [] d.0 (substitute σ d.1) p (put_asked σ ds))
    (λ x p q. fails_behind [] d.0 (substitute σ d.1) x p (put_asked σ ds) (all_fail σ ds q))
