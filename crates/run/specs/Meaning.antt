-- The trees that a problem's nodes and sides are, and the meaning of bindings: what the run's two questions about trees, occurs and fresh, are
-- asked of. Definitions alone.
use Rattle.std.specs.Prelude.{ℕ, Bool, false, ◌||◌, cond, List, [], ◌∷◌, ◌++◌, get_or, eqb}
use Rattle.std.proofs.Math.Option.{Option, none, some}
use Rattle.permutation.specs.Swaps.{act, inverse}
use Rattle.permutation.specs.Table.{Table, swaps_of}
use Rattle.nominal.specs.Tree.{Tree, unit, atom, abstraction, pair, application, suspension, variable, permute, Substitution, substitute, composed, replacing}
pub use Rattle.nominal.specs.Solutions.{Fact}
use Rattle.problem.specs.Problem.{Node, unit_form, atom_form, abstraction_form, pair_form, application_form, suspension_form}

-- The tree of a node, given the trees of the nodes before it; the trees of all nodes, in their order.
abbrev pub tree_of : List Tree → Node → Tree
tree_of ts unit_form = unit
tree_of ts (atom_form a) = atom a
tree_of ts (abstraction_form a n) = abstraction a (get_or ts n unit)
tree_of ts (pair_form l r) = pair (get_or ts l unit) (get_or ts r unit)
tree_of ts (application_form f n) = application f (get_or ts n unit)
tree_of ts (suspension_form π X) = suspension π X

abbrev pub trees_after : List Tree → List Node → List Tree
trees_after ts [] = ts
trees_after ts (n ∷ nodes) = trees_after (ts ++ (tree_of ts n ∷ [])) nodes

unfoldable pub tree : List Node → ℕ → Tree
tree nodes n = get_or (trees_after [] nodes) n unit

-- "Each side is a permutation and a node."
pub record Side : Type 0 where
  pub images : Table
  pub node : ℕ

unfoldable pub side_tree : List Node → Side → Tree
side_tree nodes s = permute (swaps_of s.images) (tree nodes s.node)

-- "The binding holds the right side's node and the images acting on it from outside", and the number of the equation that made it.
pub record Binding : Type 0 where
  pub variable : ℕ
  pub value : Side
  pub equation : ℕ

-- "The bindings' meaning is to replace bound variables until none is left." With bindings in the order made: a binding's value, under the
-- bindings before it, is put for its variable in all of their values.
unfoldable pub meaning_after : List Node → Substitution → List Binding → Substitution
meaning_after nodes σ [] = σ
meaning_after nodes σ (b ∷ bs) = meaning_after nodes (composed (replacing b.variable (substitute σ (side_tree nodes b.value))) σ) bs

unfoldable pub meaning : List Node → List Binding → Substitution
meaning nodes bs = meaning_after nodes variable bs

-- "X occurs in the right side, looked at through all bindings": in the tree.
abbrev pub occurs_in : ℕ → Tree → Bool
occurs_in X unit = false
occurs_in X (atom a) = false
occurs_in X (abstraction a t) = occurs_in X t
occurs_in X (pair s t) = occurs_in X s || occurs_in X t
occurs_in X (application f t) = occurs_in X t
occurs_in X (suspension π Y) = eqb X Y

abbrev pub both : Option (List Fact) → Option (List Fact) → Option (List Fact)
both none d = none
both (some c) none = none
both (some c) (some d) = some (c ++ d)

-- "a is fresh for unit, for another atom, for a pair or application if for its parts, for [a]t always, for [b]t if for t, and for a suspension if
-- the atom sent to a is fresh for its variable." None, where it ends at an atom fresh for itself; else the facts that it comes down to.
abbrev pub fresh_for : ℕ → Tree → Option (List Fact)
fresh_for a unit = some []
fresh_for a (atom b) = cond (eqb a b) none (some [])
fresh_for a (abstraction b t) = cond (eqb a b) (some []) (fresh_for a t)
fresh_for a (pair s t) = both (fresh_for a s) (fresh_for a t)
fresh_for a (application f t) = fresh_for a t
fresh_for a (suspension π X) = some ((act (inverse π) a, X) ∷ [])
