-- The laws of trees that are the same but for lists of swaps that send every atom alike: nothing that the run or figure 2 asks of a tree tells them
-- apart.
use Prim.Native.Nat.{ℕ, suc}
use mathlib.Core.Path.{◌≡◌, refl, sym, ◌∙◌, ap}
use mathlib.Core.List.{◌++◌}
use Rattle.permutation.specs.Swaps.{Swaps, act, inverse, Alike}
use Rattle.permutation.proofs.Swaps.{act_append, inverse_act, act_inverse}
use Rattle.nominal.specs.Tree.{Tree, unit, atom, abstraction, pair, application, suspension, permute, size, Occurs, Substitution, substitute}
use Rattle.nominal.specs.Figure2.{Environment, ◌⊢◌≈◌, ≈-unit, ≈-pair, ≈-function_symbol, ≈-abstraction_1, ≈-atom, ≈-suspension}
use Rattle.nominal.specs.Same.{Same, same_unit, same_atom, same_abstraction, same_pair, same_application, same_suspension}
use Rattle.run.specs.Meaning.{occurs_in, fresh_for}

pub same_reflexive : (t : Tree) → Same t t
same_reflexive unit = same_unit
same_reflexive (atom a) = same_atom
same_reflexive (abstraction a t) = same_abstraction (same_reflexive t)
same_reflexive (pair s t) = same_pair (same_reflexive s) (same_reflexive t)
same_reflexive (application f t) = same_application (same_reflexive t)
same_reflexive (suspension π X) = same_suspension (λ a. refl)

pub same_symmetric : {s t : Tree} → Same s t → Same t s
same_symmetric same_unit = same_unit
same_symmetric same_atom = same_atom
same_symmetric (same_abstraction e) = same_abstraction (same_symmetric e)
same_symmetric (same_pair e k) = same_pair (same_symmetric e) (same_symmetric k)
same_symmetric (same_application e) = same_application (same_symmetric e)
same_symmetric (same_suspension h) = same_suspension (λ a. sym (h a))

pub same_transitive : {s t u : Tree} → Same s t → Same t u → Same s u
same_transitive same_unit k = k
same_transitive same_atom k = k
same_transitive (same_abstraction e) (same_abstraction k) = same_abstraction (same_transitive e k)
same_transitive (same_pair e f) (same_pair k l) = same_pair (same_transitive e k) (same_transitive f l)
same_transitive (same_application e) (same_application k) = same_application (same_transitive e k)
same_transitive (same_suspension h) (same_suspension l) = same_suspension (λ a. h a ∙ l a)

-- Equal, whatever the facts.
pub same_equal : {∇ : Environment} {s t : Tree} → Same s t → ∇ ⊢ s ≈ t
same_equal same_unit = ≈-unit
same_equal same_atom = ≈-atom
same_equal (same_abstraction e) = ≈-abstraction_1 (same_equal e)
same_equal (same_pair e k) = ≈-pair (same_equal e) (same_equal k)
same_equal (same_application e) = ≈-function_symbol (same_equal e)
same_equal (same_suspension h) = ≈-suspension (λ a n. absurd (n (h a)))

-- Alike lists make the same tree.
pub same_permute : (π ρ : Swaps) → Alike π ρ → (t : Tree) → Same (permute π t) (permute ρ t)
same_permute π ρ h unit = same_unit
same_permute π ρ h (atom a) = rw (h a) same_atom
same_permute π ρ h (abstraction a t) = rw (h a) (same_abstraction (same_permute π ρ h t))
same_permute π ρ h (pair s t) = same_pair (same_permute π ρ h s) (same_permute π ρ h t)
same_permute π ρ h (application f t) = same_application (same_permute π ρ h t)
same_permute π ρ h (suspension κ X) = same_suspension {π = π ++ κ} {ρ = ρ ++ κ} (λ a. act_append π κ a ∙ (h (act κ a) ∙ sym (act_append ρ κ a)))

pub same_permuted : (π : Swaps) {s t : Tree} → Same s t → Same (permute π s) (permute π t)
same_permuted π same_unit = same_unit
same_permuted π same_atom = same_atom
same_permuted π (same_abstraction e) = same_abstraction (same_permuted π e)
same_permuted π (same_pair e k) = same_pair (same_permuted π e) (same_permuted π k)
same_permuted π (same_application e) = same_application (same_permuted π e)
same_permuted π (same_suspension {π = κ} {ρ = ρ} h) =
    same_suspension {π = π ++ κ} {ρ = π ++ ρ} (λ a. act_append π κ a ∙ (ap (act π) (h a) ∙ sym (act_append π ρ a)))

-- And so it is under substitution, also by substitutions that are the same on every variable.
pub same_substitute : (σ : Substitution) {s t : Tree} → Same s t → Same (substitute σ s) (substitute σ t)
same_substitute σ same_unit = same_unit
same_substitute σ same_atom = same_atom
same_substitute σ (same_abstraction e) = same_abstraction (same_substitute σ e)
same_substitute σ (same_pair e k) = same_pair (same_substitute σ e) (same_substitute σ k)
same_substitute σ (same_application e) = same_application (same_substitute σ e)
same_substitute σ (same_suspension {π = π} {ρ = ρ} {X = X} h) = same_permute π ρ h (σ X)

pub same_substitutions : (σ τ : Substitution) → ((X : ℕ) → Same (σ X) (τ X)) → (t : Tree) → Same (substitute σ t) (substitute τ t)
same_substitutions σ τ h unit = same_unit
same_substitutions σ τ h (atom a) = same_atom
same_substitutions σ τ h (abstraction a t) = same_abstraction (same_substitutions σ τ h t)
same_substitutions σ τ h (pair s t) = same_pair (same_substitutions σ τ h s) (same_substitutions σ τ h t)
same_substitutions σ τ h (application f t) = same_application (same_substitutions σ τ h t)
same_substitutions σ τ h (suspension π X) = same_permuted π (h X)

pub same_size : {s t : Tree} → Same s t → size s ≡ size t
same_size same_unit = refl
same_size same_atom = refl
same_size (same_abstraction e) = ap suc (same_size e)
same_size (same_pair e k) = rw (same_size e, same_size k)
same_size (same_application e) = ap suc (same_size e)
same_size (same_suspension h) = refl

pub same_occurs : (X : ℕ) {s t : Tree} → Same s t → Occurs X s ≡ Occurs X t
same_occurs X same_unit = refl
same_occurs X same_atom = refl
same_occurs X (same_abstraction e) = same_occurs X e
same_occurs X (same_pair e k) = rw (same_occurs X e, same_occurs X k)
same_occurs X (same_application e) = same_occurs X e
same_occurs X (same_suspension h) = refl

pub same_occurs_in : (X : ℕ) {s t : Tree} → Same s t → occurs_in X s ≡ occurs_in X t
same_occurs_in X same_unit = refl
same_occurs_in X same_atom = refl
same_occurs_in X (same_abstraction e) = same_occurs_in X e
same_occurs_in X (same_pair e k) = rw (same_occurs_in X e, same_occurs_in X k)
same_occurs_in X (same_application e) = same_occurs_in X e
same_occurs_in X (same_suspension h) = refl

pub alike_inverse : (π ρ : Swaps) → Alike π ρ → Alike (inverse π) (inverse ρ)
alike_inverse π ρ h a = cc (act_inverse ρ a, h (act (inverse ρ) a), inverse_act π (act (inverse ρ) a))

pub same_fresh_for : (a : ℕ) {s t : Tree} → Same s t → fresh_for a s ≡ fresh_for a t
same_fresh_for a same_unit = refl
same_fresh_for a same_atom = refl
same_fresh_for a (same_abstraction e) = rw (same_fresh_for a e)
same_fresh_for a (same_pair e k) = rw (same_fresh_for a e, same_fresh_for a k)
same_fresh_for a (same_application e) = same_fresh_for a e
same_fresh_for a (same_suspension {π = π} {ρ = ρ} h) = rw (alike_inverse π ρ h a)
