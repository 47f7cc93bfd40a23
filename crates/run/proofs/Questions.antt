-- The run's two questions about trees answered as figure 2 has them: occurs, and fresh down to facts.
use Prim.Native.Nat.{ℕ, ◌<◌}
use mathlib.Core.Path.{◌≡◌, refl, sym, subst}
use mathlib.Core.Logic.{◌↔◌, ◌⊎◌, inl, inr}
use mathlib.Core.Bool.{Bool, true, false, ◌||◌, cond}
use mathlib.Core.List.{List, [], ◌∷◌}
use mathlib.Core.Option.{Option, none, some}
use lib.Dec.{T, eqb}
use borrow.Author.Tests.{eq-eqb, ne_eqb, eqb-true, eqb-false}
use Rattle.permutation.specs.Swaps.{inverse}
use Rattle.names.proofs.Equal.{by_eq}
use Rattle.permutation.proofs.Swaps.{within, within_inverse}
use Rattle.nominal.specs.Tree.{Tree, unit, atom, abstraction, pair, application, suspension, Occurs, Substitution, substitute, composed}
use Rattle.nominal.specs.Figure2.{Environment, #-unit}
use Rattle.nominal.specs.Solutions.{Every, Meets, Holds}
use Rattle.nominal.proofs.Tree.{substitute_composed}
use Rattle.nominal.proofs.Figure2.{fresh_atom, fresh_abstraction, fresh_pair, fresh_application}
use Rattle.nominal.proofs.Laws.{fresh_inverse}
use Rattle.nominal.proofs.Solutions.{every_append, every_map}
use Rattle.run.specs.Meaning.{occurs_in, Fact, both, fresh_for}
use Rattle.run.specs.Answer.{Asked, resolved_all}
use Rattle.run.proofs.Trees.{NamedTree}

-- ---- occurs

pub occurs_in_true : (X : ℕ) (t : Tree) → occurs_in X t ≡ true → Occurs X t
occurs_in_true X unit e = subst T (sym e) tt
occurs_in_true X (atom a) e = subst T (sym e) tt
occurs_in_true X (abstraction a t) e = occurs_in_true X t e
occurs_in_true X (pair s t) e = by_left (occurs_in_true X s) (occurs_in_true X t) (occurs_in X s) refl
  where
    by_left : (occurs_in X s ≡ true → Occurs X s) → (occurs_in X t ≡ true → Occurs X t) → (b : Bool) → occurs_in X s ≡ b → Occurs X s ⊎ Occurs X t
    by_left f g true q = inl (f q)
    by_left f g false q = inr (g (rw q at e))
occurs_in_true X (application f t) e = occurs_in_true X t e
occurs_in_true X (suspension π Y) e = eqb-true X Y e

or_left : (a b : Bool) → a || b ≡ false → a ≡ false
or_left true b q = q
or_left false b q = refl

or_right : (a b : Bool) → a || b ≡ false → b ≡ false
or_right true b q = absurd (subst T q tt)
or_right false b q = q

pub occurs_in_false : (X : ℕ) (t : Tree) → occurs_in X t ≡ false → Occurs X t → ⊥
occurs_in_false X unit e h = h
occurs_in_false X (atom a) e h = h
occurs_in_false X (abstraction a t) e h = occurs_in_false X t e h
occurs_in_false X (pair s t) e (inl h) = occurs_in_false X s (or_left (occurs_in X s) (occurs_in X t) e) h
occurs_in_false X (pair s t) e (inr h) = occurs_in_false X t (or_right (occurs_in X s) (occurs_in X t) e) h
occurs_in_false X (application f t) e h = occurs_in_false X t e h
occurs_in_false X (suspension π Y) e h = eqb-false X Y e h

-- ---- fresh

-- Each fact that a question came down to has the property; none of a question that ended at an atom fresh for itself.
abbrev pub Each : (Fact → Type 0) → Option (List Fact) → Type 0
Each R none = ⊥
Each R (some fs) = Every R fs

pub each_both : (R : Fact → Type 0) (c d : Option (List Fact)) → Each R (both c d) ↔ (Each R c × Each R d)
each_both R none d = (λ h. absurd h, λ h. h.0)
each_both R (some c) none = (λ h. absurd h, λ h. h.1)
each_both R (some c) (some d) = every_append R c d

module _ (∇ : Environment) (τ : Substitution) where
  -- A demand holds exactly if the facts that it comes down to do.
  pub fresh_for_holds : (a : ℕ) (t : Tree) → Meets ∇ τ (a, t) ↔ Each (Holds ∇ τ) (fresh_for a t)
  fresh_for_holds a unit = (λ h. tt, λ h. #-unit)
  fresh_for_holds a (atom b) =
      by_eq a b (λ q. rw (eq-eqb a b q) (λ h. fresh_atom.0 h q, λ h. absurd h)) (λ n. rw (ne_eqb a b n) (λ h. tt, λ h. fresh_atom.1 n))
  fresh_for_holds a (abstraction b t) =
      by_eq a b (λ q. rw (eq-eqb a b q) (λ h. tt, λ h. fresh_abstraction.1 (λ n. absurd (n q))))
      (λ n. rw (ne_eqb a b n) (λ h. (fresh_for_holds a t).0 (fresh_abstraction.0 h n), λ h. fresh_abstraction.1 (λ m. (fresh_for_holds a t).1 h)))
  fresh_for_holds a (pair s t) = (
    λ h. let k = fresh_pair.0 h in (each_both (Holds ∇ τ) (fresh_for a s) (fresh_for a t)).1 ((fresh_for_holds a s).0 k.0, (fresh_for_holds a t).0 k.1),
    λ h. let k = (each_both (Holds ∇ τ) (fresh_for a s) (fresh_for a t)).0 h in fresh_pair.1 ((fresh_for_holds a s).1 k.0, (fresh_for_holds a t).1 k.1),
  )
  fresh_for_holds a (application f t) = (λ h. (fresh_for_holds a t).0 (fresh_application.0 h), λ h. fresh_application.1 ((fresh_for_holds a t).1 h))
  fresh_for_holds a (suspension π X) = (λ h. ((fresh_inverse π a (τ X)).0 h, tt), λ h. (fresh_inverse π a (τ X)).1 h.0)

  pub resolved_all_holds : (σ : Substitution) (ds : List Asked) → Every (Meets ∇ (composed τ σ)) ds ↔ Each (Holds ∇ τ) (resolved_all σ ds)
  unfolding resolved_all
  resolved_all_holds σ [] = (λ h. tt, λ h. tt)
  resolved_all_holds σ (d ∷ ds) = (
    λ h. (each_both (Holds ∇ τ) (fresh_for d.0 (substitute σ d.1)) (resolved_all σ ds)).1
        ((fresh_for_holds d.0 (substitute σ d.1)).0 (rw substitute_composed h.0), (resolved_all_holds σ ds).0 h.1),
    λ h.
        let k = (each_both (Holds ∇ τ) (fresh_for d.0 (substitute σ d.1)) (resolved_all σ ds)).0 h in
        (rw substitute_composed at ((fresh_for_holds d.0 (substitute σ d.1)).1 k.0), (resolved_all_holds σ ds).1 k.1),
  )

-- What holds of every fact that a question comes down to: it is about a variable of the tree, and its names are there.
abbrev pub Wherever : (Fact → Type 0) → Option (List Fact) → Type 0
Wherever R none = Unit {0}
Wherever R (some fs) = Every R fs

wherever_both : (R : Fact → Type 0) (c d : Option (List Fact)) → Wherever R c → Wherever R d → Wherever R (both c d)
wherever_both R none d h k = tt
wherever_both R (some c) none h k = tt
wherever_both R (some c) (some d) h k = (every_append R c d).1 (h, k)

pub wherever_map : (R S : Fact → Type 0) → ((f : Fact) → R f → S f) → (c : Option (List Fact)) → Wherever R c → Wherever S c
wherever_map R S h none k = tt
wherever_map R S h (some fs) k = every_map R S h fs k

wherever_cond : (R : Fact → Type 0) (b : Bool) (c d : Option (List Fact)) → Wherever R c → Wherever R d → Wherever R (cond b c d)
wherever_cond R true c d h k = h
wherever_cond R false c d h k = k

pub fresh_for_occurs : (a : ℕ) (t : Tree) → Wherever (λ f. Occurs f.1 t) (fresh_for a t)
fresh_for_occurs a unit = tt
fresh_for_occurs a (atom b) = wherever_cond (λ f. ⊥) (eqb a b) none (some []) tt tt
fresh_for_occurs a (abstraction b t) = wherever_cond (λ f. Occurs f.1 t) (eqb a b) (some []) (fresh_for a t) tt (fresh_for_occurs a t)
fresh_for_occurs a (pair s t) =
    wherever_both (λ f. Occurs f.1 s ⊎ Occurs f.1 t) (fresh_for a s) (fresh_for a t)
    (wherever_map (λ f. Occurs f.1 s) (λ f. Occurs f.1 s ⊎ Occurs f.1 t) (λ f o. inl o) (fresh_for a s) (fresh_for_occurs a s))
    (wherever_map (λ f. Occurs f.1 t) (λ f. Occurs f.1 s ⊎ Occurs f.1 t) (λ f o. inr o) (fresh_for a t) (fresh_for_occurs a t))
fresh_for_occurs a (application f t) = fresh_for_occurs a t
fresh_for_occurs a (suspension π X) = (refl, tt)

-- The fact's names are there.
abbrev pub NamedFact : ℕ → ℕ → Fact → Type 0
NamedFact atoms variables f = (f.0 < atoms) × (f.1 < variables)

pub fresh_for_named : (atoms variables a : ℕ) (t : Tree) → a < atoms → NamedTree atoms variables t → Wherever (NamedFact atoms variables) (fresh_for a t)
fresh_for_named atoms variables a unit h m = tt
fresh_for_named atoms variables a (atom b) h m = wherever_cond (NamedFact atoms variables) (eqb a b) none (some []) tt tt
fresh_for_named atoms variables a (abstraction b t) h m =
    wherever_cond (NamedFact atoms variables) (eqb a b) (some []) (fresh_for a t) tt (fresh_for_named atoms variables a t h m.1)
fresh_for_named atoms variables a (pair s t) h m =
    wherever_both (NamedFact atoms variables) (fresh_for a s) (fresh_for a t) (fresh_for_named atoms variables a s h m.0)
    (fresh_for_named atoms variables a t h m.1)
fresh_for_named atoms variables a (application f t) h m = fresh_for_named atoms variables a t h m
fresh_for_named atoms variables a (suspension π X) h m = ((within atoms (inverse π) a (within_inverse atoms π m.1) h, m.0), tt)

-- So it is of all demands: what holds of the facts of each holds of the facts of all.
pub resolved_all_wherever : (R : Fact → Type 0) (σ : Substitution) (ds : List Asked) → Every (λ d. Wherever R (fresh_for d.0 (substitute σ d.1))) ds
    → Wherever R (resolved_all σ ds)
unfolding resolved_all
resolved_all_wherever R σ [] h = tt
resolved_all_wherever R σ (d ∷ ds) h = wherever_both R (fresh_for d.0 (substitute σ d.1)) (resolved_all σ ds) h.0 (resolved_all_wherever R σ ds h.1)
