-- Sides as the code has them, against the definition's (run, specs/Meaning.antt). Definitions alone; their laws are in proofs/.
use Rattle.std.specs.Prelude.{ℕ, ◌≤◌, ◌<◌, ◌≡◌, ◌≢◌, Bool, false, List, length, Option, Some}
use Rattle.std.proofs.Math.Option.{Option as Maybe, none}
use Rattle.names.specs.declared.NodeId.{NodeId}
use Rattle.permutation.specs.Table.{Table, after, of_swaps}
use Rattle.permutation.specs.Store.{table}
use Rattle.permutation.specs.declared.Permutation.{Permutation}
use Rattle.sets.specs.Bits.{member}
use Rattle.problem.specs.Held.{problem_of}
use Rattle.problem.specs.Look.{form_now, form_told, own_swaps}
use Rattle.problem.specs.declared.Form.{Form}
use Rattle.problem.specs.declared.Form.TheVariants.{Unit, Atom, Abstraction, Pair, Application, Suspension}
use Rattle.run.specs.Meaning.{Side, Binding}
use Rattle.run.specs.Run.{Ground, value_of, resolved}
use Rattle.bindings.specs.Bindings.{Bindings, bindings_of, Keeps, value_in, NodesThere}
use Rattle.bindings.specs.declared.Value.{Value}
use Rattle.side.specs.declared.Side.{Side as HeldSide}

-- Where the run of the problem takes place, with some variables protected.
abbrev pub ground_in : List ℕ → (ℕ → Bool) → Ground
ground_in s f = record { atoms = (problem_of s).atoms; nodes = (problem_of s).nodes; protected = f }

-- The definition's side of a permutation and a node that the code holds, and of a side.
abbrev pub side_at : ℕ → Permutation → NodeId → Side
side_at A p n = record { images = table A p; node = n.0 }

abbrev pub side_held : ℕ → HeldSide → Side
side_held A x = side_at A x.images x.node

-- A suspension's own swaps, then the images: "permutations already applied".
unfoldable pub whole_of : List ℕ → ℕ → Table → ℕ → Table
whole_of s A P n = after P (of_swaps A (own_swaps (form_now s n)))

-- Which of the six forms it is, in document 01's order.
abbrev pub kind : Form → ℕ
kind Unit = 0
kind (Atom a) = 1
kind (Abstraction a n) = 2
kind (Pair l r) = 3
kind (Application f n) = 4
kind (Suspension x) = 5

abbrev pub Suspends : Form → Type 0
Suspends w = kind w ≡ 5

abbrev pub Compound : Form → Type 0
Compound w = kind w ≢ 5

-- The value of the variable that a form suspends, if there is one and it is bound.
abbrev pub value_told : List Binding → Form → Maybe Side
value_told bs Unit = none
value_told bs (Atom a) = none
value_told bs (Abstraction a n) = none
value_told bs (Pair l r) = none
value_told bs (Application f n) = none
value_told bs (Suspension x) = value_of bs x.0

-- Whether a form is a suspension of a variable of the set of those that are bound.
abbrev pub is_bound : ℕ → Form → Bool
is_bound bound Unit = false
is_bound bound (Atom a) = false
is_bound bound (Abstraction a n) = false
is_bound bound (Pair l r) = false
is_bound bound (Application f n) = false
is_bound bound (Suspension x) = member bound x.0

-- What is found of a form: the definition's value, with any number of atoms in use.
pub record Valued (t : Bindings) (bound : ℕ) (form : Form) (r : Option Value) : Type 0 where
  pub value : (A : ℕ) → A ≤ 32 → (k : ℕ) → Keeps t.made k bound → value_told (bindings_of A t k) form ≡ value_in A r
  pub suspends : (v : Value) → r ≡ Some v → Suspends form
  pub there : (n : ℕ) → NodesThere n t.made bound → (v : Value) → r ≡ Some v → v.node.0 < n

-- What resolving gives: the definition's resolved side, whichever variables are protected, with what stands at its node.
pub record SideResolved (s : List ℕ) (A : ℕ) (t : Bindings) (bound k : ℕ) (before : Side) (r : HeldSide) : Type 0 where
  pub side : (f : ℕ → Bool) → Keeps t.made k bound → side_held A r ≡ resolved (ground_in s f) (bindings_of A t k) before
  pub form : r.form ≡ form_told (form_now s r.node.0)
  pub there : r.node.0 < length (problem_of s).nodes
