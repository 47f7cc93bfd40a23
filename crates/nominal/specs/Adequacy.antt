-- 003, definition 2.15 and proposition 2.16: what equality and freshness ought to mean on trees without variables, in the traditional words.
-- That figure 2 means it is proved in proofs/Adequacy.antt. Definitions alone.
use Rattle.std.specs.Prelude.{ℕ, ◌≡◌, ◌≢◌, ◌⊎◌, cond, eqb}
use mathlib.Core.List.{Memᴰ}
use Rattle.permutation.specs.Swaps.{atoms}
use Rattle.nominal.specs.Tree.{Tree, unit, atom, abstraction, pair, application, suspension}

-- "ground terms (i.e. terms with no variables and hence no suspensions)"
abbrev pub GroundTree : Tree → Type 0
GroundTree unit = Unit {0}
GroundTree (atom a) = Unit {0}
GroundTree (abstraction a t) = GroundTree t
GroundTree (pair s t) = GroundTree s × GroundTree t
GroundTree (application f t) = GroundTree t
GroundTree (suspension π X) = ⊥

-- "the set FA(t) of free atoms of t": a is in it.
abbrev pub FreeIn : ℕ → Tree → Type 0
FreeIn a unit = ⊥
FreeIn a (atom b) = a ≡ b
FreeIn a (abstraction b t) = FreeIn a t × (a ≢ b)
FreeIn a (pair s t) = FreeIn a s ⊎ FreeIn a t
FreeIn a (application f t) = FreeIn a t
FreeIn a (suspension π X) = ⊥

-- "an atom not occurring at all in the term t", neither free nor bound nor binding.
abbrev pub Absent : ℕ → Tree → Type 0
Absent a unit = Unit {0}
Absent a (atom b) = a ≢ b
Absent a (abstraction b t) = (a ≢ b) × Absent a t
Absent a (pair s t) = Absent a s × Absent a t
Absent a (application f t) = Absent a t
Absent a (suspension π X) = Memᴰ a (atoms π) → ⊥

-- "[a → b]t indicates the result of replacing all free occurrences of a with b in t."
abbrev pub renamed : ℕ → ℕ → Tree → Tree
renamed a b unit = unit
renamed a b (atom c) = cond (eqb c a) (atom b) (atom c)
renamed a b (abstraction c t) = cond (eqb c a) (abstraction c t) (abstraction c (renamed a b t))
renamed a b (pair s t) = pair (renamed a b s) (renamed a b t)
renamed a b (application f t) = application f (renamed a b t)
renamed a b (suspension π X) = suspension π X

-- "Define the binary relation t =α t' .. to be the least .. congruence relation satisfying a.t =α b.[a → b]t whenever b is an atom .. not
-- occurring at all in the term t."
infix 20 ◌=α◌
pub data ◌=α◌ : Tree → Tree → Type 0 where
  α_reflexive : {t : Tree} → t =α t
  α_symmetric : {s t : Tree} → s =α t → t =α s
  α_transitive : {s t u : Tree} → s =α t → t =α u → s =α u
  α_abstraction : {a : ℕ} {s t : Tree} → s =α t → abstraction a s =α abstraction a t
  α_pair : {s₁ s₂ t₁ t₂ : Tree} → s₁ =α t₁ → s₂ =α t₂ → pair s₁ s₂ =α pair t₁ t₂
  α_application : {f : ℕ} {s t : Tree} → s =α t → application f s =α application f t
  α_renamed : {a b : ℕ} {t : Tree} → Absent b t → abstraction a t =α abstraction b (renamed a b t)
