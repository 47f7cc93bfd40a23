-- One more binding: what [X := t] done after an idempotent substitution that leaves X as it is gives. It is idempotent again, satisfied by
-- exactly the pairs that satisfied the old one and take X and t for equal, and allowed where X is not protected.
use Prim.Native.Nat.{ℕ, suc, ◌+◌}
use native.Mathlib.Omega.{arith}
use mathlib.Core.Path.{◌≡◌, refl, sym, ◌∙◌}
use mathlib.Core.Logic.{◌≢◌, ◌↔◌, inl, inr}
use mathlib.Core.List.{[], ◌++◌, append-nil, append_cancel_left}
use borrow.Author.Tests.{eq-eqb, ne_eqb}
use Rattle.permutation.specs.Swaps.{Swaps}
use Rattle.names.proofs.Equal.{by_eq}
use Rattle.nominal.specs.Tree.{Tree, unit, atom, abstraction, pair, application, suspension, variable, permute, Occurs, Substitution, substitute}
use Rattle.nominal.specs.Tree.{composed, replacing}
use Rattle.nominal.specs.Figure2.{Environment, ◌⊢◌≈◌}
use Rattle.nominal.specs.Solutions.{Satisfies, protecting}
use Rattle.nominal.proofs.Tree.{permute_nil, substitute_variable, substitute_composed, substitute_agree}
use Rattle.nominal.proofs.Laws.{equal_reflexive, equal_symmetric, equal_transitive}
use Rattle.nominal.proofs.Solutions.{satisfies_tree}

pub replacing_same : (X : ℕ) (t : Tree) → replacing X t X ≡ t
unfolding replacing
replacing_same X t = rw (eq-eqb X X refl)

pub replacing_other : (X : ℕ) (t : Tree) (Y : ℕ) → Y ≢ X → replacing X t Y ≡ variable Y
unfolding replacing
replacing_other X t Y n = rw (ne_eqb Y X n)

-- Where X does not occur, nothing is replaced.
pub replacing_absent : (X : ℕ) (t u : Tree) → (Occurs X u → ⊥) → substitute (replacing X t) u ≡ u
replacing_absent X t u absent = substitute_agree (replacing X t) variable u (λ Z o. replacing_other X t Z (λ q. absent (rw q at o))) ∙ substitute_variable u

-- A tree that σ leaves as it is holds only variables that σ leaves as they are.
fixed_suspension : (π : Swaps) (X : ℕ) (t : Tree) → permute π t ≡ suspension π X → t ≡ variable X
fixed_suspension π X (suspension ρ Y) e = let n : π ++ ρ ≡ π ++ [] = cc (append-nil π) in cc (append_cancel_left π ρ [] n)
fixed_suspension π X unit e = cc
fixed_suspension π X (atom a) e = cc
fixed_suspension π X (abstraction a t) e = cc
fixed_suspension π X (pair s t) e = cc
fixed_suspension π X (application f t) e = cc

pub fixed_variable : (σ : Substitution) (Z : ℕ) (t : Tree) → substitute σ t ≡ t → Occurs Z t → σ Z ≡ variable Z
fixed_variable σ Z unit e o = absurd o
fixed_variable σ Z (atom a) e o = absurd o
fixed_variable σ Z (abstraction a t) e o = fixed_variable σ Z t (cc) o
fixed_variable σ Z (pair s t) e (inl o) = fixed_variable σ Z s (cc) o
fixed_variable σ Z (pair s t) e (inr o) = fixed_variable σ Z t (cc) o
fixed_variable σ Z (application f t) e o = fixed_variable σ Z t (cc) o
fixed_variable σ Z (suspension π Y) e o = rw o (fixed_suspension π Y (σ Y) e)

module _ (σ : Substitution) (X : ℕ) (t : Tree) where
  -- The new substitution.
  abbrev pub extended : Substitution
  extended = composed (replacing X t) σ

  -- X has the value; another variable that σ leaves as it is stays as it is.
  pub extended_same : σ X ≡ variable X → extended X ≡ t
  extended_same free = rw (free, permute_nil) (replacing_same X t)

  pub extended_other : (Y : ℕ) → Y ≢ X → σ Y ≡ variable Y → extended Y ≡ variable Y
  extended_other Y n free = rw (free, permute_nil) (replacing_other X t Y n)

  pub extended_tree : (u : Tree) → substitute extended u ≡ substitute (replacing X t) (substitute σ u)
  extended_tree u = sym (substitute_composed (replacing X t) σ u)

  module _ {∇ : Environment} (τ : Substitution) where
    pub replacing_satisfied : ∇ ⊢ τ X ≈ substitute τ t → Satisfies ∇ τ (replacing X t)
    replacing_satisfied h Y = by_eq Y X (λ q. rw (q, replacing_same) h) (λ n. rw (replacing_other X t Y n, permute_nil) (equal_reflexive (τ Y)))

    pub extended_satisfied : σ X ≡ variable X → ((∇ ⊢ τ X ≈ substitute τ t) × Satisfies ∇ τ σ) ↔ Satisfies ∇ τ extended
    extended_satisfied free = (
      λ h Y. equal_transitive (h.1 Y) (satisfies_tree τ (replacing X t) (replacing_satisfied h.0) (σ Y)),
      λ k. (at_X k, λ Y. equal_transitive (k Y) (equal_symmetric (satisfies_tree τ (replacing X t) (replacing_satisfied (at_X k)) (σ Y)))),
    )
      where
        at_X : Satisfies ∇ τ extended → ∇ ⊢ τ X ≈ substitute τ t
        at_X k = rw (free, permute_nil, replacing_same) at (k X)

  -- What leaves protected variables as they are still does, once an unprotected one is replaced too.
  pub extended_allowed : (is_protected : ℕ → Type 0) → (is_protected X → ⊥) → (protecting is_protected).allows_substitution σ
      → (protecting is_protected).allows_substitution extended
  extended_allowed is_protected unprotected a = (
    (suc X + a.0.0, λ Y l. extended_other Y (λ q. omega arith) (a.0.1 Y (omega arith))),
    λ Y p. extended_other Y (λ q. unprotected (rw q at p)) (a.1 Y p),
  )
