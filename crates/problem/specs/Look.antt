-- What the code looks up in the problem that an input is, in the code's own types, and what has to stand in the input and in the tables for it.
-- Definitions alone.
use Rattle.std.specs.Prelude.{ℕ, ◌<◌, cond, List, [], ◌∷◌, length, get_or, eqb, Option, Some, None}
use Rattle.names.specs.declared.Variable.{Variable}
use Rattle.field.specs.Word.{tag_in, key_in, first_byte_in, first_two_in, middle_two_in, last_two_in}
use Rattle.permutation.specs.Swaps.{Swaps}
use Rattle.problem.specs.Problem.{Node, unit_form, atom_form, abstraction_form, pair_form, application_form, suspension_form, form_at}
use Rattle.problem.specs.Problem.{Equal, Fresh}
use Rattle.problem.specs.Reader.{node, equation, freshness}
use Rattle.problem.specs.Readable.{Readable}
use Rattle.problem.specs.Held.{ItemKept, node_word, equation_word, freshness_word, problem_of}
use Rattle.problem.specs.declared.Form.{Form}
use Rattle.problem.specs.declared.Form.TheVariants.{Unit, Atom, Abstraction, Pair, Application, Suspension}
use Rattle.problem.specs.declared.look.Equation.{Equation}
use Rattle.problem.specs.declared.look.Freshness.{Freshness}

-- Node n, equation k and freshness field k of the problem that the input is. Past the end stands a default, as for nodes.
abbrev pub equation_at : List Equal → ℕ → Equal
equation_at equations k = get_or equations k (record { left = 0; right = 0 })

abbrev pub freshness_at : List Fresh → ℕ → Fresh
freshness_at demands k = get_or demands k (record { atom = 0; node = 0; offset = 0 })

abbrev pub form_now : List ℕ → ℕ → Node
form_now s n = form_at (problem_of s).nodes n

abbrev pub equation_now : List ℕ → ℕ → Equal
equation_now s k = equation_at (problem_of s).equations k

abbrev pub freshness_now : List ℕ → ℕ → Fresh
freshness_now s k = freshness_at (problem_of s).freshness k

-- A field stands in the input, and the table keeps what it should of it.
pub record NodeStands (s places : List ℕ) (n : ℕ) : Type 0 where
  pub small : n < 512
  pub kept : ItemKept s (node_word places n) (node (form_now s n))

pub record EquationStands (s places : List ℕ) (k : ℕ) : Type 0 where
  pub small : k < 64
  pub kept : ItemKept s (equation_word places k) (equation (equation_now s k))

pub record FreshnessStands (s places : List ℕ) (k : ℕ) : Type 0 where
  pub small : k < 64
  pub kept : ItemKept s (freshness_word places k) (freshness (freshness_now s k).atom (freshness_now s k).node)

-- The problem that was read stands in the input: it is within the limits with every name there, and each of its fields is in the table. What everything
-- after the reader leans on.
pub record Standing (s places : List ℕ) : Type 0 where
  pub readable : Readable (problem_of s)
  pub nodes : (n : ℕ) → n < length (problem_of s).nodes → NodeStands s places n
  pub equations : (k : ℕ) → k < length (problem_of s).equations → EquationStands s places k
  pub freshness : (k : ℕ) → k < length (problem_of s).freshness → FreshnessStands s places k

-- A form as the code has it: a suspension's swaps are left in the bytes.
abbrev pub form_told : Node → Form
form_told unit_form = Unit
form_told (atom_form a) = Atom (record { 0 = a })
form_told (abstraction_form a n) = Abstraction (record { 0 = a }) (record { 0 = n })
form_told (pair_form l r) = Pair (record { 0 = l }) (record { 0 = r })
form_told (application_form f n) = Application f (record { 0 = n })
form_told (suspension_form π X) = Suspension (record { 0 = X })

-- The form that is read off what is kept of a node. That it is the node's own is a law (proofs/Looking.antt).
unfoldable pub form_in : ℕ → Form
form_in w =
    cond (eqb (tag_in w) 0x10) Unit
    (cond (eqb (tag_in w) 0x11) (Atom (record { 0 = first_byte_in w }))
    (cond (eqb (tag_in w) 0x12) (Abstraction (record { 0 = first_byte_in w }) (record { 0 = middle_two_in w }))
    (cond (eqb (tag_in w) 0x13) (Pair (record { 0 = first_two_in w }) (record { 0 = last_two_in w }))
    (cond (eqb (tag_in w) 0x14) (Application (first_two_in w) (record { 0 = last_two_in w }))
    (Suspension (record { 0 = first_byte_in w }))))))

-- The variable of a suspension without swaps that is read off what is kept of a node; another form has none. That it is the node's own is a law too.
unfoldable pub bare_in : ℕ → Option Variable
bare_in w = cond (eqb (key_in w) 0x150001) (Some (record { 0 = first_byte_in w })) None

-- The form again, from what is told of it and its swaps.
abbrev pub untold : Swaps → Form → Node
untold π Unit = unit_form
untold π (Atom a) = atom_form a.0
untold π (Abstraction a n) = abstraction_form a.0 n.0
untold π (Pair l r) = pair_form l.0 r.0
untold π (Application f n) = application_form f n.0
untold π (Suspension X) = suspension_form π X.0

abbrev pub equation_told : Equal → Equation
equation_told e = record { left = record { 0 = e.left }; right = record { 0 = e.right } }

abbrev pub freshness_told : Fresh → Freshness
freshness_told d = record { atom = record { 0 = d.atom }; node = record { 0 = d.node } }

-- The form is a suspension; its swaps, and none for another form.
abbrev pub Suspended : Node → Type 0
Suspended unit_form = ⊥
Suspended (atom_form a) = ⊥
Suspended (abstraction_form a n) = ⊥
Suspended (pair_form l r) = ⊥
Suspended (application_form f n) = ⊥
Suspended (suspension_form π X) = Prim.Unit {0}

-- The variable of a suspension without swaps; another form has none.
abbrev pub bare_of : Node → Option Variable
bare_of unit_form = None
bare_of (atom_form a) = None
bare_of (abstraction_form a n) = None
bare_of (pair_form l r) = None
bare_of (application_form f n) = None
bare_of (suspension_form [] X) = Some (record { 0 = X })
bare_of (suspension_form (s ∷ π) X) = None

abbrev pub own_swaps : Node → Swaps
own_swaps unit_form = []
own_swaps (atom_form a) = []
own_swaps (abstraction_form a n) = []
own_swaps (pair_form l r) = []
own_swaps (application_form f n) = []
own_swaps (suspension_form π X) = π
