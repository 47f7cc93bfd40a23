-- 003, figure 2: freshness and equality of trees under a freshness environment, as two inductive families. Each constructor is a rule and
-- bears its name. Definitions alone; their laws are in proofs/.
use Rattle.std.specs.Prelude.{ℕ, ◌≢◌, [], ◌∷◌}
use Rattle.permutation.specs.Swaps.{Swaps, act, inverse, Disagree}
use Rattle.nominal.specs.Tree.{Tree, unit, atom, abstraction, pair, application, suspension, permute}

-- Which atom is given as fresh for which variable. A finite set of facts is one such environment (Solutions.antt).
abbrev pub Environment : Type 1
Environment = ℕ → ℕ → Type 0

infix 20 ◌⊢◌#◌
infix 20 ◌⊢◌≈◌
-- ∇ ⊢ a # t: the atom a is fresh for t.
pub data ◌⊢◌#◌ (∇ : Environment) : ℕ → Tree → Type 0 where
  #-unit : {a : ℕ} → ∇ ⊢ a # unit
  #-pair : {a : ℕ} {t₁ t₂ : Tree} → ∇ ⊢ a # t₁ → ∇ ⊢ a # t₂ → ∇ ⊢ a # pair t₁ t₂
  #-function_symbol : {a f : ℕ} {t : Tree} → ∇ ⊢ a # t → ∇ ⊢ a # application f t
  #-abstraction_1 : {a : ℕ} {t : Tree} → ∇ ⊢ a # abstraction a t
  #-abstraction_2 : {a b : ℕ} {t : Tree} → a ≢ b → ∇ ⊢ a # t → ∇ ⊢ a # abstraction b t
  #-atom : {a b : ℕ} → a ≢ b → ∇ ⊢ a # atom b
  #-suspension : {a : ℕ} {π : Swaps} {X : ℕ} → ∇ (act (inverse π) a) X → ∇ ⊢ a # suspension π X

-- ∇ ⊢ s ≈ t: s and t are equal up to renamed binders.
pub data ◌⊢◌≈◌ (∇ : Environment) : Tree → Tree → Type 0 where
  ≈-unit : ∇ ⊢ unit ≈ unit
  ≈-pair : {s₁ s₂ t₁ t₂ : Tree} → ∇ ⊢ s₁ ≈ t₁ → ∇ ⊢ s₂ ≈ t₂ → ∇ ⊢ pair s₁ s₂ ≈ pair t₁ t₂
  ≈-function_symbol : {f : ℕ} {s t : Tree} → ∇ ⊢ s ≈ t → ∇ ⊢ application f s ≈ application f t
  ≈-abstraction_1 : {a : ℕ} {s t : Tree} → ∇ ⊢ s ≈ t → ∇ ⊢ abstraction a s ≈ abstraction a t
  ≈-abstraction_2 : {a b : ℕ} {s t : Tree} → a ≢ b → ∇ ⊢ s ≈ permute ((a, b) ∷ []) t → ∇ ⊢ a # t → ∇ ⊢ abstraction a s ≈ abstraction b t
  ≈-atom : {a : ℕ} → ∇ ⊢ atom a ≈ atom a
  ≈-suspension : {π ρ : Swaps} {X : ℕ} → ((a : ℕ) → Disagree π ρ a → ∇ a X) → ∇ ⊢ suspension π X ≈ suspension ρ X
