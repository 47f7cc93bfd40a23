-- What resolving the demands looks at: pairs of an atom and a node, and pairs of an atom and a variable. 003's freshness rules, read from the
-- conclusion to the premiss, lead from pair to pair; each pair is looked at once, however many ways lead to it. Definitions alone.
use Rattle.std.specs.Prelude.{ℕ, ◌≡◌, ◌≢◌, List}
use Rattle.std.proofs.Math.Option.{Option, some}
use Rattle.permutation.specs.Swaps.{Swaps, act, inverse}
use Rattle.permutation.specs.Table.{image, inverted}
use Rattle.problem.specs.Problem.{Node, abstraction_form, pair_form, application_form, suspension_form, form_at}
use Rattle.run.specs.Meaning.{Side}

-- An atom is to be fresh for a node, for a variable: the atom first.
pub data Pair : Type 0 where
  of_node : ℕ → ℕ → Pair
  of_variable : ℕ → ℕ → Pair

-- "a is fresh .. for a pair or application if for its parts, for [a]t always, for [b]t if for t, and for a suspension if the atom sent to a is
-- fresh for its variable"; and for a bound variable if for its value.
pub data PairLeads (nodes : List Node) (value : ℕ → Option Side) : Pair → Pair → Type 0 where
  to_body : {a b n m : ℕ} → form_at nodes n ≡ abstraction_form b m → a ≢ b → PairLeads nodes value (of_node a n) (of_node a m)
  to_argument : {a f n m : ℕ} → form_at nodes n ≡ application_form f m → PairLeads nodes value (of_node a n) (of_node a m)
  to_left : {a n l r : ℕ} → form_at nodes n ≡ pair_form l r → PairLeads nodes value (of_node a n) (of_node a l)
  to_right : {a n l r : ℕ} → form_at nodes n ≡ pair_form l r → PairLeads nodes value (of_node a n) (of_node a r)
  to_variable : {a n X : ℕ} {π : Swaps} → form_at nodes n ≡ suspension_form π X → PairLeads nodes value (of_node a n) (of_variable (act (inverse π) a) X)
  to_value : {a X : ℕ} {v : Side} → value X ≡ some v → PairLeads nodes value (of_variable a X) (of_node (image (inverted v.images) a) v.node)

-- The pairs that the rules lead to from the pairs S.
pub data PairReached (nodes : List Node) (value : ℕ → Option Side) (S : Pair → Type 0) : Pair → Type 0 where
  start : {w : Pair} → S w → PairReached nodes value S w
  further : {v w : Pair} → PairReached nodes value S v → PairLeads nodes value v w → PairReached nodes value S w

-- All that the pair leads to is marked.
abbrev pub Closed : List Node → (ℕ → Option Side) → (Pair → Type 0) → Pair → Type 0
Closed nodes value Mark v = (w : Pair) → PairLeads nodes value v w → Mark w
