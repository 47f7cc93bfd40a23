-- The marks in the code's tables: of each node and of each variable the set of atoms that are to be fresh for it, and when they are done. Definitions alone.
use Rattle.std.specs.Prelude.{ℕ, ◌≤◌, ◌<◌, ◌^◌, ◌≡◌, Bool, true, false, cond, List, [], length, get_or}
use Rattle.std.specs.Prelude as std
use Rattle.std.proofs.Math.Option.{Option, none, some}
use Rattle.names.specs.declared.Variable.{Variable}
use Rattle.sets.specs.Bits.{member, difference}
use Rattle.permutation.specs.Table.{image, Permutes}
use Rattle.problem.specs.Problem.{Node, unit_form, atom_form, abstraction_form, pair_form, application_form, suspension_form, form_at, Problem}
use Rattle.run.specs.Meaning.{Side}
use Rattle.bindings.specs.Bindings.{node_of, images_of, NodesThere}
use Rattle.demands.specs.Demands.{asked_of_nodes, asked_of_variables}
use Rattle.visit.specs.Pairs.{Pair, of_node, of_variable, PairReached, Closed}
use Rattle.visit.specs.Visited.{Marked, added, sent_into, Looked, Visited}

-- The lent table of marks: by node the atoms that were seen there, and by variable those that were passed on to its value.
abbrev pub seen_in : List (List ℕ) → List ℕ
seen_in marks = get_or marks 0 []

abbrev pub done_in : List (List ℕ) → List ℕ
done_in marks = get_or marks 1 []

-- What the table of demands asks, as pairs; and what resolving has marked so far: at nodes what was seen there, at variables what is asked of them.
abbrev pub Demanded : Problem → List (List ℕ) → Pair → Type 0
Demanded p asked = Marked p (asked_of_nodes asked) (asked_of_variables asked)

abbrev pub SoFar : Problem → List (List ℕ) → List (List ℕ) → Pair → Type 0
SoFar p asked marks = Marked p (seen_in marks) (asked_of_variables asked)

-- The demands S were visited: all that is left to look through are pairs with bound variables.
pub record Begun (nodes : List Node) (S Mark : Pair → Type 0) : Type 0 where
  pub has : (w : Pair) → S w → Mark w
  pub from : (value : ℕ → Option Side) → (w : Pair) → Mark w → PairReached nodes value S w
  pub looked : (value : ℕ → Option Side) → (w : Pair) → Mark w → Looked nodes value Mark w

-- And then all that waited was looked through.
pub record LookedThrough (nodes : List Node) (value : ℕ → Option Side) (Before After : Pair → Type 0) : Type 0 where
  pub kept : (w : Pair) → Before w → After w
  pub from : (w : Pair) → After w → PairReached nodes value Before w
  pub closed : (w : Pair) → After w → Closed nodes value After w

-- The value of a variable, as the bindings' tables have it, with A atoms in use: of a bound one.
abbrev pub valued : ℕ → List (List ℕ) → List (List ℕ) → ℕ → Side
valued A made values X = record { images = images_of A values X; node = node_of made X }

abbrev pub value_at : ℕ → ℕ → List (List ℕ) → List (List ℕ) → ℕ → Option Side
value_at A bound made values X = cond (member bound X) (some (valued A made values X)) none

-- Bound variables are there, and their values are sides.
pub record Bound (p : Problem) (bound : ℕ) (made values : List (List ℕ)) : Type 0 where
  pub few : (X : ℕ) → member bound X ≡ true → X < p.variables
  pub nodes : NodesThere (length p.nodes) made bound
  pub long : (X : ℕ) → member bound X ≡ true → length (images_of p.atoms values X) ≡ p.atoms
  pub permutes : (X : ℕ) → member bound X ≡ true → Permutes (images_of p.atoms values X)

-- The atom of a pair.
abbrev pub atom_of : Pair → ℕ
atom_of (of_node a n) = a
atom_of (of_variable a X) = a

-- The atoms of a variable that were asked and not yet passed on.
unfoldable pub new_at : List ℕ → List ℕ → ℕ → ℕ
new_at asked done X = difference (get_or asked X 0) (get_or done X 0)

-- Whether a variable is bound and has such atoms.
pub record Waits (bound : ℕ) (asked done : List ℕ) (X : ℕ) (r : Bool) : Type 0 where
  pub found : r ≡ true → (member bound X ≡ true) × (0 < new_at asked done X)
  pub none : r ≡ false → member bound X ≡ true → new_at asked done X ≡ 0

-- A variable that waits so, of those from one up to another; none, if none of these does.
pub record NextBetween (bound : ℕ) (asked done : List ℕ) (least most : ℕ) (r : std.Option Variable) : Type 0 where
  pub found : (x : Variable) → r ≡ std.Some x → (x.0 < most) × (member bound x.0 ≡ true) × (0 < new_at asked done x.0)
  pub none : r ≡ std.None → (X : ℕ) → least ≤ X → X < most → member bound X ≡ true → new_at asked done X ≡ 0

-- A variable that waits so, of those below one; none, if none of these does.
pub record LastBelow (bound : ℕ) (asked done : List ℕ) (from : ℕ) (r : std.Option Variable) : Type 0 where
  pub found : (x : Variable) → r ≡ std.Some x → (x.0 < from) × (member bound x.0 ≡ true) × (0 < new_at asked done x.0)
  pub none : r ≡ std.None → (X : ℕ) → X < from → member bound X ≡ true → new_at asked done X ≡ 0

-- A variable that waits so; none, if no variable does.
pub record Next (bound : ℕ) (asked done : List ℕ) (variables : ℕ) (r : std.Option Variable) : Type 0 where
  pub found : (x : Variable) → r ≡ std.Some x → (x.0 < variables) × (member bound x.0 ≡ true) × (0 < new_at asked done x.0)
  pub none : r ≡ std.None → (X : ℕ) → X < variables → member bound X ≡ true → new_at asked done X ≡ 0

-- A bound variable's new atoms were passed on to its value, each as the atom that the value's images send to it: the demands and the marks before and
-- after. What is demanded of nodes stays.
pub record Passed (p : Problem) (made values : List (List ℕ)) (X : ℕ) (asked marks asked' marks' : List (List ℕ)) : Type 0 where
  pub there : X < length (done_in marks)
  pub recorded : done_in marks' ≡ added (done_in marks) X (new_at (asked_of_variables asked) (done_in marks) X)
  pub more : get_or (done_in marks) X 0 < get_or (done_in marks') X 0
  pub small : get_or (done_in marks') X 0 < 2 ^ 32
  pub visited : Visited p.nodes (sent_into p.atoms (image (images_of p.atoms values X)) (new_at (asked_of_variables asked) (done_in marks) X))
      (node_of made X) (SoFar p asked marks) (SoFar p asked' marks')
  pub kept : asked_of_nodes asked' ≡ asked_of_nodes asked

-- Whether a node is an atom that is in a set.
abbrev pub clash_at : Node → ℕ → Bool
clash_at unit_form atoms = false
clash_at (atom_form a) atoms = member atoms a
clash_at (abstraction_form a n) atoms = false
clash_at (pair_form l r) atoms = false
clash_at (application_form f n) atoms = false
clash_at (suspension_form π X) atoms = false

-- Whether some node is an atom that is in its set.
pub record Clashed (nodes : List Node) (seen : List ℕ) (r : Bool) : Type 0 where
  pub found : r ≡ true → (n : ℕ) × (n < length nodes) × (clash_at (form_at nodes n) (get_or seen n 0) ≡ true)
  pub none : r ≡ false → (n : ℕ) → n < length nodes → clash_at (form_at nodes n) (get_or seen n 0) ≡ false
