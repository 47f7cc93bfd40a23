-- Laws of trees, of figure 1's action and of substitution. Nothing here knows figure 2.
use Prim.Native.Nat.{ℕ, suc, ◌≤◌}
use mathlib.Core.Path.{◌≡◌, refl, sym, ap}
use mathlib.Core.Logic.{inl, inr}
use mathlib.Core.List.{[], ◌++◌, append_assoc, append-nil}
use native.Mathlib.Omega.{arith}
use Rattle.permutation.specs.Swaps.{Swaps, act}
use Rattle.permutation.proofs.Swaps.{act_append}
use Rattle.nominal.specs.Tree.{Tree, unit, atom, abstraction, pair, application, suspension, variable, permute, size, Occurs, Substitution, substitute}
use Rattle.nominal.specs.Tree.{composed}

-- Permutations act on trees as a monoid: the empty list does nothing, an appended list is one after the other.
pub permute_nil : (t : Tree) → permute [] t ≡ t
permute_nil unit = refl
permute_nil (atom a) = refl
permute_nil (abstraction a t) = ap (abstraction a) (permute_nil t)
permute_nil (pair s t) = cc (permute_nil s, permute_nil t)
permute_nil (application f t) = ap (application f) (permute_nil t)
permute_nil (suspension ρ X) = refl

pub permute_append : (π ρ : Swaps) (t : Tree) → permute (π ++ ρ) t ≡ permute π (permute ρ t)
permute_append π ρ unit = refl
permute_append π ρ (atom a) = ap atom (act_append π ρ a)
permute_append π ρ (abstraction a t) = cc (act_append π ρ a, permute_append π ρ t)
permute_append π ρ (pair s t) = cc (permute_append π ρ s, permute_append π ρ t)
permute_append π ρ (application f t) = ap (application f) (permute_append π ρ t)
permute_append π ρ (suspension κ X) = ap (λ (l : Swaps). suspension l X) (append_assoc π ρ κ)

-- 003, after definition 2.10: "the size of a term is preserved under permutation actions".
pub size_permute : (π : Swaps) (t : Tree) → size (permute π t) ≡ size t
size_permute π unit = refl
size_permute π (atom a) = refl
size_permute π (abstraction a t) = ap suc (size_permute π t)
size_permute π (pair s t) = rw (size_permute π s, size_permute π t)
size_permute π (application f t) = ap suc (size_permute π t)
size_permute π (suspension κ X) = refl

pub occurs_permute : (X : ℕ) (π : Swaps) (t : Tree) → Occurs X (permute π t) ≡ Occurs X t
occurs_permute X π unit = refl
occurs_permute X π (atom a) = refl
occurs_permute X π (abstraction a t) = occurs_permute X π t
occurs_permute X π (pair s t) = rw (occurs_permute X π s, occurs_permute X π t)
occurs_permute X π (application f t) = occurs_permute X π t
occurs_permute X π (suspension κ Y) = refl

-- 003, lemma 2.14, first sentence: "Substitution commutes with the permutation action".
pub substitute_permute : (σ : Substitution) (π : Swaps) (t : Tree) → substitute σ (permute π t) ≡ permute π (substitute σ t)
substitute_permute σ π unit = refl
substitute_permute σ π (atom a) = refl
substitute_permute σ π (abstraction a t) = ap (abstraction (act π a)) (substitute_permute σ π t)
substitute_permute σ π (pair s t) = cc (substitute_permute σ π s, substitute_permute σ π t)
substitute_permute σ π (application f t) = ap (application f) (substitute_permute σ π t)
substitute_permute σ π (suspension κ X) = permute_append π κ (σ X)

-- Substitutions that agree on the variables of a tree give one tree.
pub substitute_agree : (σ τ : Substitution) (t : Tree) → ((X : ℕ) → Occurs X t → σ X ≡ τ X) → substitute σ t ≡ substitute τ t
substitute_agree σ τ unit h = refl
substitute_agree σ τ (atom a) h = refl
substitute_agree σ τ (abstraction a t) h = ap (abstraction a) (substitute_agree σ τ t h)
substitute_agree σ τ (pair s t) h = cc (substitute_agree σ τ s (λ X o. h X (inl o)), substitute_agree σ τ t (λ X o. h X (inr o)))
substitute_agree σ τ (application f t) h = ap (application f) (substitute_agree σ τ t h)
substitute_agree σ τ (suspension κ X) h = ap (permute κ) (h X refl)

-- Doing one substitution after another: `variable` is neutral on both sides, and the order of grouping does not matter.
pub substitute_variable : (t : Tree) → substitute variable t ≡ t
substitute_variable unit = refl
substitute_variable (atom a) = refl
substitute_variable (abstraction a t) = ap (abstraction a) (substitute_variable t)
substitute_variable (pair s t) = cc (substitute_variable s, substitute_variable t)
substitute_variable (application f t) = ap (application f) (substitute_variable t)
substitute_variable (suspension κ X) = ap (λ (l : Swaps). suspension l X) (append-nil κ)

pub substitute_composed : (τ σ : Substitution) (t : Tree) → substitute τ (substitute σ t) ≡ substitute (composed τ σ) t
substitute_composed τ σ unit = refl
substitute_composed τ σ (atom a) = refl
substitute_composed τ σ (abstraction a t) = ap (abstraction a) (substitute_composed τ σ t)
substitute_composed τ σ (pair s t) = cc (substitute_composed τ σ s, substitute_composed τ σ t)
substitute_composed τ σ (application f t) = ap (application f) (substitute_composed τ σ t)
substitute_composed τ σ (suspension κ X) = substitute_permute τ κ (σ X)

pub composed_associative : (ρ τ σ : Substitution) (X : ℕ) → composed (composed ρ τ) σ X ≡ composed ρ (composed τ σ) X
composed_associative ρ τ σ X = sym (substitute_composed ρ τ (σ X))

pub composed_neutral_left : (σ : Substitution) (X : ℕ) → composed variable σ X ≡ σ X
composed_neutral_left σ X = substitute_variable (σ X)

pub composed_neutral_right : (σ : Substitution) (X : ℕ) → composed σ variable X ≡ σ X
composed_neutral_right σ X = permute_nil (σ X)

-- The variables of a substituted tree are those of its variables' values.
pub occurs_substitute : (σ : Substitution) (X : ℕ) (t : Tree) → Occurs X (substitute σ t) → (Y : ℕ) × Occurs Y t × Occurs X (σ Y)
occurs_substitute σ X unit o = absurd o
occurs_substitute σ X (atom a) o = absurd o
occurs_substitute σ X (abstraction a t) o = occurs_substitute σ X t o
occurs_substitute σ X (pair s t) (inl o) = let k = occurs_substitute σ X s o in (k.0, inl k.1, k.2)
occurs_substitute σ X (pair s t) (inr o) = let k = occurs_substitute σ X t o in (k.0, inr k.1, k.2)
occurs_substitute σ X (application f t) o = occurs_substitute σ X t o
occurs_substitute σ X (suspension κ Y) o = (Y, refl, rw occurs_permute at o)

pub occurs_substituted : (σ : Substitution) (X Y : ℕ) (t : Tree) → Occurs Y t → Occurs X (σ Y) → Occurs X (substitute σ t)
occurs_substituted σ X Y unit o k = absurd o
occurs_substituted σ X Y (atom a) o k = absurd o
occurs_substituted σ X Y (abstraction a t) o k = occurs_substituted σ X Y t o k
occurs_substituted σ X Y (pair s t) (inl o) k = inl (occurs_substituted σ X Y s o k)
occurs_substituted σ X Y (pair s t) (inr o) k = inr (occurs_substituted σ X Y t o k)
occurs_substituted σ X Y (application f t) o k = occurs_substituted σ X Y t o k
occurs_substituted σ X Y (suspension κ Z) o k = rw occurs_permute (rw o at k)

-- A variable's value is no larger than the value of a tree in which it stands.
pub size_substitute : (σ : Substitution) (X : ℕ) (t : Tree) → Occurs X t → size (σ X) ≤ size (substitute σ t)
size_substitute σ X (abstraction a t) o = omega (arith, size_substitute σ X t o)
size_substitute σ X (pair s t) (inl o) = omega (arith, size_substitute σ X s o)
size_substitute σ X (pair s t) (inr o) = omega (arith, size_substitute σ X t o)
size_substitute σ X (application f t) o = omega (arith, size_substitute σ X t o)
size_substitute σ X (suspension κ Y) o = rw (o, size_permute) (omega arith)
size_substitute σ X unit o = absurd o
size_substitute σ X (atom a) o = absurd o
