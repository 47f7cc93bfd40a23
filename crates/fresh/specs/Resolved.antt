-- What resolving says in the end of the pairs that the demands are asked as. Definitions alone.
use Rattle.std.specs.Prelude.{ℕ, ◌≡◌, ◌↔◌}
use mathlib.Core.List.{List, Memᴰ}
use Rattle.std.proofs.Math.Option.{Option}
use Rattle.permutation.specs.Swaps.{Swaps, act, inverse}
use Rattle.nominal.specs.Tree.{permute, variable}
use Rattle.problem.specs.Problem.{Node, atom_form, form_at}
use Rattle.run.specs.Meaning.{Side, tree}
use Rattle.run.specs.Answer.{Asked}
use Rattle.visit.specs.Pairs.{Pair, of_node, of_variable, PairReached, Closed}

-- "A demand that ends at an atom fresh for itself."
abbrev pub Clashing : List Node → (Pair → Type 0) → Type 0
Clashing nodes Mark = (a n : ℕ) × Mark (of_node a n) × (form_at nodes n ≡ atom_form a)

-- What is marked in the end is exactly what the demands S lead to, and r says whether one of them ends at an atom fresh for itself.
pub record PairsResolved (nodes : List Node) (value : ℕ → Option Side) (S Mark : Pair → Type 0) (clashes : Type 0) : Type 0 where
  pub has : (w : Pair) → S w → Mark w
  pub from : (w : Pair) → Mark w → PairReached nodes value S w
  pub closed : (w : Pair) → Mark w → Closed nodes value Mark w
  pub verdict : clashes ↔ Clashing nodes Mark

-- The pair that a demand is asked as: an atom fresh for a variable itself; an atom fresh for a node's tree under swaps as the atom sent to it fresh
-- for the node.
abbrev pub AskedAs : List Node → Asked → Pair → Type 0
AskedAs nodes d (of_node b n) = (π : Swaps) × (d.1 ≡ permute π (tree nodes n)) × (b ≡ act (inverse π) d.0)
AskedAs nodes d (of_variable b X) = (d.1 ≡ variable X) × (b ≡ d.0)

-- The pairs S are those that the demands are asked as.
pub record Asks (nodes : List Node) (asked : List Asked) (S : Pair → Type 0) : Type 0 where
  pub all : (d : Asked) → Memᴰ d asked → (w : Pair) × S w × AskedAs nodes d w
  pub only : (w : Pair) → S w → (d : Asked) × Memᴰ d asked × AskedAs nodes d w
