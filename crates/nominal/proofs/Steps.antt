-- Each step of 003's figure 3 keeps the solutions, for every environment and substitution, so over any allowance: an equation is equivalent to
-- what comes of it, and a refused equation has no solution. Demands go the same way.
use Prim.Native.Nat.{ℕ}
use mathlib.Core.Path.{◌≡◌, refl, sym, ◌∙◌, ap}
use mathlib.Core.Logic.{◌≢◌, ◌↔◌}
use mathlib.Core.List.{[], ◌∷◌}
use Rattle.permutation.specs.Swaps.{Swaps, inverse, Disagree}
use Rattle.nominal.specs.Tree.{Tree, unit, atom, abstraction, pair, application, suspension, variable, permute, Occurs, Substitution, substitute}
use Rattle.nominal.specs.Figure2.{Environment, ◌⊢◌≈◌, ≈-unit, ≈-pair, ≈-function_symbol, ≈-abstraction_1, ≈-abstraction_2, ≈-atom}
use Rattle.nominal.specs.Figure2.{≈-suspension}
use Rattle.nominal.specs.Form.{form}
use Rattle.nominal.specs.Solutions.{Meets, Equates}
use Rattle.nominal.proofs.Tree.{permute_nil, substitute_permute}
use Rattle.nominal.proofs.Figure2.{from_atom, from_abstraction_same}
use Rattle.nominal.proofs.Figure2.{from_abstraction_other, from_pair, from_application, from_suspension}
use Rattle.nominal.proofs.Laws.{equal_symmetric, equal_where_fresh, fresh_where_equal, equal_moved, no_circle}

pub form_permute : (π : Swaps) (t : Tree) → form (permute π t) ≡ form t
form_permute π unit = refl
form_permute π (atom a) = refl
form_permute π (abstraction a t) = refl
form_permute π (pair s t) = refl
form_permute π (application f t) = refl
form_permute π (suspension ρ X) = refl

-- Only a suspension changes its form under substitution.
pub form_substitute : (σ : Substitution) (t : Tree) → form t ≢ 5 → form (substitute σ t) ≡ form t
form_substitute σ unit n = refl
form_substitute σ (atom a) n = refl
form_substitute σ (abstraction a t) n = refl
form_substitute σ (pair s t) n = refl
form_substitute σ (application f t) n = refl
form_substitute σ (suspension π X) n = absurd (n refl)

-- Every rule joins trees of one form.
pub equal_form : {∇ : Environment} {s t : Tree} → ∇ ⊢ s ≈ t → form s ≡ form t
equal_form ≈-unit = refl
equal_form (≈-pair e k) = refl
equal_form (≈-function_symbol e) = refl
equal_form (≈-abstraction_1 e) = refl
equal_form (≈-abstraction_2 n e h) = refl
equal_form ≈-atom = refl
equal_form (≈-suspension k) = refl

module _ {∇ : Environment} (τ : Substitution) where
  pub step_exchange : (s t : Tree) → Equates ∇ τ (s, t) ↔ Equates ∇ τ (t, s)
  step_exchange s t = (equal_symmetric, equal_symmetric)

  -- (≈?-pair)
  pub step_pair : (s₁ s₂ t₁ t₂ : Tree) → Equates ∇ τ (pair s₁ s₂, pair t₁ t₂) ↔ (Equates ∇ τ (s₁, t₁) × Equates ∇ τ (s₂, t₂))
  step_pair s₁ s₂ t₁ t₂ = (λ e. from_pair e, λ h. ≈-pair h.0 h.1)

  -- (≈?-function symbol)
  pub step_application : (f : ℕ) (s t : Tree) → Equates ∇ τ (application f s, application f t) ↔ Equates ∇ τ (s, t)
  step_application f s t = (λ e. (from_application e).1, λ e. ≈-function_symbol e)

  -- (≈?-abstraction-1)
  pub step_abstraction_same : (a : ℕ) (s t : Tree) → Equates ∇ τ (abstraction a s, abstraction a t) ↔ Equates ∇ τ (s, t)
  step_abstraction_same a s t = (λ e. from_abstraction_same e, λ e. ≈-abstraction_1 e)

  -- (≈?-abstraction-2)
  pub step_abstraction_other : (a b : ℕ) (s t : Tree) → a ≢ b
      → Equates ∇ τ (abstraction a s, abstraction b t) ↔ (Equates ∇ τ (s, permute ((a, b) ∷ []) t) × Meets ∇ τ (a, t))
  step_abstraction_other a b s t n =
      (λ e. let h = from_abstraction_other n e in (rw substitute_permute h.0, h.1), λ h. ≈-abstraction_2 n (rw substitute_permute at h.0) h.1)

  -- (≈?-suspension): "each atom of the disagreement set is demanded fresh for X".
  pub step_suspension : (π ρ : Swaps) (X : ℕ) → Equates ∇ τ (suspension π X, suspension ρ X) ↔ ((a : ℕ) → Disagree π ρ a → Meets ∇ τ (a, variable X))
  step_suspension π ρ X =
      (λ e a n. rw permute_nil (fresh_where_equal (τ X) π ρ a e n), λ h. equal_where_fresh (τ X) π ρ (λ a n. rw permute_nil at (h a n)))

  -- (≈?-variable): "X becomes the inverse of P applied to the right side".
  pub step_variable : (π : Swaps) (X : ℕ) (t : Tree) → Equates ∇ τ (suspension π X, t) ↔ Equates ∇ τ (variable X, permute (inverse π) t)
  step_variable π X t = (
    λ e. rw (permute_nil, substitute_permute) ((equal_moved π (τ X) (substitute τ t)).0 e),
    λ e. (equal_moved π (τ X) (substitute τ t)).1 (rw (permute_nil, substitute_permute) at e),
  )

  -- No solution: "if X occurs in the right side", which is no suspension of X.
  pub occurs_refused : (π : Swaps) (X : ℕ) (t : Tree) → Occurs X t → ((ρ : Swaps) → t ≢ suspension ρ X) → Equates ∇ τ (suspension π X, t) → ⊥
  occurs_refused = no_circle τ

  -- No solution: "Different forms, different atoms, different symbols".
  pub forms_refused : (s t : Tree) → form s ≢ 5 → form t ≢ 5 → form s ≢ form t → Equates ∇ τ (s, t) → ⊥
  forms_refused s t ns nt n e = n (sym (form_substitute τ s ns) ∙ (equal_form e ∙ form_substitute τ t nt))

  pub atoms_refused : (a b : ℕ) → a ≢ b → Equates ∇ τ (atom a, atom b) → ⊥
  atoms_refused a b n e = n (from_atom e)

  pub symbols_refused : (f g : ℕ) (s t : Tree) → f ≢ g → Equates ∇ τ (application f s, application g t) → ⊥
  symbols_refused f g s t n e = n (from_application e).0

  -- No solution: a suspension of a variable that τ leaves as it is, against another form or another such variable.
  pub protected_refused : (π : Swaps) (X : ℕ) (t : Tree) → τ X ≡ variable X → form t ≢ 5 → Equates ∇ τ (suspension π X, t) → ⊥
  protected_refused π X t left n e = n (sym (form_substitute τ t n) ∙ (sym (equal_form e) ∙ (form_permute π (τ X) ∙ ap form left)))

  pub two_protected_refused : (π ρ : Swaps) (X Y : ℕ) → τ X ≡ variable X → τ Y ≡ variable Y → X ≢ Y → Equates ∇ τ (suspension π X, suspension ρ Y) → ⊥
  two_protected_refused π ρ X Y left right n e = n (from_suspension (rw (left, right) at e)).0
