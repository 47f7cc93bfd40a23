-- 003's terms as trees, of any size and over any atoms, symbols and variables; figure 1's action of a permutation; substitution, which may
-- capture. Definitions alone; their laws are in proofs/.
use Rattle.std.specs.Prelude.{ℕ, ◌+◌, suc, ◌≡◌, ◌⊎◌, cond, [], ◌++◌, eqb}
use Rattle.permutation.specs.Swaps.{Swaps, act}

-- "unit, atom a, abstraction [a]t, pair, application of a symbol to one term, suspension of a variable under a list of swaps"
pub data Tree : Type 0 where
  unit : Tree
  atom : ℕ → Tree
  abstraction : ℕ → Tree → Tree
  pair : Tree → Tree → Tree
  application : ℕ → Tree → Tree
  suspension : Swaps → ℕ → Tree

-- 003: "In case the permutation π in a suspension is the empty list, we just write X".
abbrev pub variable : ℕ → Tree
variable X = suspension [] X

-- Figure 1. "A permutation acts on every atom of a term, binding ones included."
abbrev pub permute : Swaps → Tree → Tree
permute π unit = unit
permute π (atom a) = atom (act π a)
permute π (abstraction a t) = abstraction (act π a) (permute π t)
permute π (pair s t) = pair (permute π s) (permute π t)
permute π (application f t) = application f (permute π t)
permute π (suspension ρ X) = suspension (π ++ ρ) X

-- 003, definition 2.13: a substitution gives each variable a term, and is put into a term with no regard for capture.
abbrev pub Substitution : Type 0
Substitution = ℕ → Tree

abbrev pub substitute : Substitution → Tree → Tree
substitute σ unit = unit
substitute σ (atom a) = atom a
substitute σ (abstraction a t) = abstraction a (substitute σ t)
substitute σ (pair s t) = pair (substitute σ s) (substitute σ t)
substitute σ (application f t) = application f (substitute σ t)
substitute σ (suspension π X) = permute π (σ X)

-- First σ, then τ.
abbrev pub composed : Substitution → Substitution → Substitution
composed τ σ X = substitute τ (σ X)

-- 003, (10): [X := t].
unfoldable pub replacing : ℕ → Tree → Substitution
replacing X t Y = cond (eqb Y X) t (variable Y)

-- 003, definition 2.10.
abbrev pub size : Tree → ℕ
size unit = 1
size (atom a) = 1
size (abstraction a t) = suc (size t)
size (pair s t) = suc (size s + size t)
size (application f t) = suc (size t)
size (suspension ρ X) = 1

-- The variable X occurs in the tree.
abbrev pub Occurs : ℕ → Tree → Type 0
Occurs X unit = ⊥
Occurs X (atom a) = ⊥
Occurs X (abstraction a t) = Occurs X t
Occurs X (pair s t) = Occurs X s ⊎ Occurs X t
Occurs X (application f t) = Occurs X t
Occurs X (suspension ρ Y) = X ≡ Y
