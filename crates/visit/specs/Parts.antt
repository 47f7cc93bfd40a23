-- Going through a node's parts by the table alone. A suspension's swaps stand in the input: one that has some waits, and is asked in the end. What is kept
-- until then, and what is told in between. Definitions alone.
use Rattle.std.specs.Prelude.{ℕ, ◌/◌, ◌%◌, ◌<◌, ◌≡◌, ◌≢◌, ◌⊎◌, true, List, [], length, get_or, set}
use Rattle.std.specs.Prelude as std
use Rattle.std.proofs.Math.Option.{Option}
use Rattle.names.specs.declared.Variable.{Variable}
use Rattle.sets.specs.Bits.{member, inserted}
use Rattle.permutation.specs.Swaps.{Swaps, act, inverse}
use Rattle.field.specs.Field.{Bytes}
use Rattle.problem.specs.Problem.{Node, suspension_form, form_at, Problem}
use Rattle.problem.specs.Held.{problem_of}
use Rattle.problem.specs.Look.{Standing}
use Rattle.run.specs.Meaning.{Side}
use Rattle.visit.specs.Pairs.{Pair, of_node, of_variable, PairReached, Closed}
use Rattle.visit.specs.Visited.{Marked, Only, added}

-- The nodes that wait, as bits: 64 to a word. One word's nodes, and one node more.
abbrev pub InWord : ℕ → ℕ → ℕ → Type 0
InWord i word n = (n / 64 ≡ i) × (member word (n % 64) ≡ true)

abbrev pub Late : List ℕ → ℕ → Type 0
Late late n = member (get_or late (n / 64) 0) (n % 64) ≡ true

unfoldable pub with_late : List ℕ → ℕ → List ℕ
with_late late n = set late (n / 64) (inserted 64 (get_or late (n / 64) 0) (n % 64))

-- A node that is there is a suspension.
pub record SuspendedAt (nodes : List Node) (n : ℕ) : Type 0 where
  pub few : n < length nodes
  pub swaps : Swaps
  pub variable : ℕ
  pub form : form_at nodes n ≡ suspension_form swaps variable

-- Atoms came to suspension n of variable X, of which the table says whether it has swaps: without any the atoms are asked of X as they are, else n waits.
pub record Came (bare : std.Option Variable) (n X atoms : ℕ) (variables late variables₁ late₁ : List ℕ) : Type 0 where
  pub asked : bare ≢ std.None → (variables₁ ≡ added variables X atoms) × (late₁ ≡ late)
  pub waits : bare ≡ std.None → (variables₁ ≡ variables) × (late₁ ≡ with_late late n)

-- A pair with a node is looked through, or the node waits; one with a variable may wait.
abbrev pub LookedOrLate : List Node → (ℕ → Option Side) → List ℕ → (Pair → Type 0) → Pair → Type 0
LookedOrLate nodes value late Mark (of_node a n) = Closed nodes value Mark (of_node a n) ⊎ Late late n
LookedOrLate nodes value late Mark (of_variable a X) = Unit {0}

-- No mark is lost, and each new one is reached from S and looked through, or waits.
pub record PartsGrown (nodes : List Node) (value : ℕ → Option Side) (late : List ℕ) (S Before After : Pair → Type 0) : Type 0 where
  pub kept : (w : Pair) → Before w → After w
  pub new : (w : Pair) → After w → Before w ⊎ (PairReached nodes value S w × LookedOrLate nodes value late After w)

-- No node that waits is lost, and each new one is a suspension.
pub record LateGrown (nodes : List Node) (late late₁ : List ℕ) : Type 0 where
  pub kept : (n : ℕ) → Late late n → Late late₁ n
  pub new : (n : ℕ) → Late late₁ n → Late late n ⊎ SuspendedAt nodes n

-- The atoms were visited at a node, but for what waits now.
pub record PartsVisited (nodes : List Node) (atoms n : ℕ) (Before After : Pair → Type 0) (late late₁ : List ℕ) : Type 0 where
  pub grown : (value : ℕ → Option Side) → PartsGrown nodes value late₁ (Only atoms n) Before After
  pub here : (a : ℕ) → member atoms a ≡ true → After (of_node a n)
  pub waits : LateGrown nodes late late₁

-- An input whose table this is, and whose problem has the node.
pub record InTable (places : List ℕ) (n : ℕ) : Type 0 where
  pub input : List ℕ
  pub bytes : Bytes input
  pub stands : Standing input places
  pub few : n < length (problem_of input).nodes

-- What the atoms seen at certain suspensions lead to: "if the atom sent to a is fresh for its variable".
pub data Sent (p : Problem) (seen : List ℕ) (Which : ℕ → Type 0) : Pair → Type 0 where
  sent : (a n : ℕ) {X : ℕ} {π : Swaps} → Which n → Marked p seen [] (of_node a n) → form_at p.nodes n ≡ suspension_form π X
      → Sent p seen Which (of_variable (act (inverse π) a) X)

-- That was asked of their variables, and nothing else.
pub record SwapsAsked (p : Problem) (seen : List ℕ) (Which : ℕ → Type 0) (variables variables₁ : List ℕ) : Type 0 where
  pub kept : (w : Pair) → Marked p seen variables w → Marked p seen variables₁ w
  pub new : (w : Pair) → Marked p seen variables₁ w → Marked p seen variables w ⊎ Sent p seen Which w
  pub all : (w : Pair) → Sent p seen Which w → Marked p seen variables₁ w
