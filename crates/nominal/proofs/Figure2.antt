-- Figure 2 read backwards: what a derivation of a given form must have come from. Each freshness rule is an equivalence, since freshness is
-- syntax-directed; equality's rules are inverted one by one.
use Prim.Native.Nat.{ℕ}
use mathlib.Core.Path.{◌≡◌, refl}
use mathlib.Core.Logic.{◌≢◌, ◌↔◌, ◌⊎◌, inl, inr}
use mathlib.Core.List.{[], ◌∷◌}
use Rattle.permutation.specs.Swaps.{Swaps, act, inverse, Disagree}
use Rattle.names.proofs.Equal.{by_eq}
use Rattle.nominal.specs.Tree.{Tree, atom, abstraction, pair, application, suspension, permute}
use Rattle.nominal.specs.Figure2.{Environment, ◌⊢◌#◌, #-pair, #-function_symbol, #-abstraction_1, #-abstraction_2, #-atom, #-suspension, ◌⊢◌≈◌, ≈-pair}
use Rattle.nominal.specs.Figure2.{≈-function_symbol, ≈-abstraction_1, ≈-abstraction_2, ≈-atom, ≈-suspension}

module _ {∇ : Environment} where
  pub fresh_atom : {a b : ℕ} → (∇ ⊢ a # atom b) ↔ (a ≢ b)
  fresh_atom {a} {b} = (go, #-atom)
    where
      go : ∇ ⊢ a # atom b → a ≢ b
      go (#-atom n) = n

  -- The two rules of abstractions in one.
  pub fresh_abstraction : {a b : ℕ} {t : Tree} → (∇ ⊢ a # abstraction b t) ↔ (a ≢ b → ∇ ⊢ a # t)
  fresh_abstraction {a} {b} {t} = (go, λ h. by_eq a b (λ p. rw p #-abstraction_1) (λ n. #-abstraction_2 n (h n)))
    where
      go : {a b : ℕ} {t : Tree} → ∇ ⊢ a # abstraction b t → a ≢ b → ∇ ⊢ a # t
      go #-abstraction_1 n = absurd (n refl)
      go (#-abstraction_2 m h) n = h

  pub fresh_pair : {a : ℕ} {s t : Tree} → (∇ ⊢ a # pair s t) ↔ ((∇ ⊢ a # s) × (∇ ⊢ a # t))
  fresh_pair {a} {s} {t} = (go, λ h. #-pair h.0 h.1)
    where
      go : ∇ ⊢ a # pair s t → (∇ ⊢ a # s) × (∇ ⊢ a # t)
      go (#-pair h k) = (h, k)

  pub fresh_application : {a f : ℕ} {t : Tree} → (∇ ⊢ a # application f t) ↔ (∇ ⊢ a # t)
  fresh_application {a} {f} {t} = (go, #-function_symbol)
    where
      go : ∇ ⊢ a # application f t → ∇ ⊢ a # t
      go (#-function_symbol h) = h

  pub fresh_suspension : {a : ℕ} {π : Swaps} {X : ℕ} → (∇ ⊢ a # suspension π X) ↔ ∇ (act (inverse π) a) X
  fresh_suspension {a} {π} {X} = (go, #-suspension)
    where
      go : ∇ ⊢ a # suspension π X → ∇ (act (inverse π) a) X
      go (#-suspension h) = h

  pub from_atom : {a b : ℕ} → ∇ ⊢ atom a ≈ atom b → a ≡ b
  from_atom ≈-atom = refl

  pub from_abstraction : {a b : ℕ} {s t : Tree} → ∇ ⊢ abstraction a s ≈ abstraction b t
      → ((a ≡ b) × (∇ ⊢ s ≈ t)) ⊎ ((a ≢ b) × (∇ ⊢ s ≈ permute ((a, b) ∷ []) t) × (∇ ⊢ a # t))
  from_abstraction (≈-abstraction_1 e) = inl (refl, e)
  from_abstraction (≈-abstraction_2 n e h) = inr (n, e, h)

  pub from_abstraction_same : {a : ℕ} {s t : Tree} → ∇ ⊢ abstraction a s ≈ abstraction a t → ∇ ⊢ s ≈ t
  from_abstraction_same h = elim (from_abstraction h) [ inl k ↦ k.1 | inr k ↦ absurd (k.0 refl) ]

  pub from_abstraction_other : {a b : ℕ} {s t : Tree} → a ≢ b → ∇ ⊢ abstraction a s ≈ abstraction b t → (∇ ⊢ s ≈ permute ((a, b) ∷ []) t) × (∇ ⊢ a # t)
  from_abstraction_other n (≈-abstraction_1 e) = absurd (n refl)
  from_abstraction_other n (≈-abstraction_2 m e h) = (e, h)

  pub from_pair : {s₁ s₂ t₁ t₂ : Tree} → ∇ ⊢ pair s₁ s₂ ≈ pair t₁ t₂ → (∇ ⊢ s₁ ≈ t₁) × (∇ ⊢ s₂ ≈ t₂)
  from_pair (≈-pair e k) = (e, k)

  pub from_application : {f g : ℕ} {s t : Tree} → ∇ ⊢ application f s ≈ application g t → (f ≡ g) × (∇ ⊢ s ≈ t)
  from_application (≈-function_symbol e) = (refl, e)

  pub from_suspension : {π ρ : Swaps} {X Y : ℕ} → ∇ ⊢ suspension π X ≈ suspension ρ Y → (X ≡ Y) × ((a : ℕ) → Disagree π ρ a → ∇ a X)
  from_suspension (≈-suspension h) = (refl, h)
