-- What a reading ensures of its problem, in the form in which it is used: within the limits, and every name is there. Definitions alone; that every
-- problem that is read is such is shown in proofs/.
use Rattle.std.specs.Prelude.{ℕ, ◌≤◌, ◌<◌, ◌^◌, length}
use mathlib.Core.List.{Memᴰ}
use Rattle.permutation.specs.Swaps.{Within}
use Rattle.problem.specs.Problem.{Node, unit_form, atom_form, abstraction_form, pair_form, application_form, suspension_form, form_at}
use Rattle.problem.specs.Problem.{Equal, Fresh, Assumed, Problem}

-- The names in a form are there: so many atoms and variables, and its parts are below the given node number.
abbrev pub Named : ℕ → ℕ → ℕ → Node → Type 0
Named atoms variables n unit_form = Unit {0}
Named atoms variables n (atom_form a) = a < atoms
Named atoms variables n (abstraction_form a m) = (a < atoms) × (m < n)
Named atoms variables n (pair_form l r) = (l < n) × (r < n)
Named atoms variables n (application_form f m) = m < n
Named atoms variables n (suspension_form π X) = (X < variables) × Within atoms π

pub record Readable (p : Problem) : Type 0 where
  -- "atoms A (0 to 32), variables V (0 to 64), step limit L (4 bytes)"
  pub few_atoms : p.atoms ≤ 32
  pub few_variables : p.variables ≤ 64
  pub small_limit : p.limit < 2 ^ 32
  -- "At most 512 nodes, 64 equations and 64 freshness fields"
  pub few_nodes : length p.nodes ≤ 512
  pub few_equations : length p.equations ≤ 64
  pub few_freshness : length p.freshness ≤ 64
  -- "a node is named only after its field": so the parts of node n are below n.
  pub named_nodes : (n : ℕ) → Named p.atoms p.variables n (form_at p.nodes n)
  pub named_equations : (e : Equal) → Memᴰ e p.equations → (e.left < length p.nodes) × (e.right < length p.nodes)
  pub named_freshness : (d : Fresh) → Memᴰ d p.freshness → (d.atom < p.atoms) × (d.node < length p.nodes)
  pub named_assumptions : (d : Assumed) → Memᴰ d p.assumptions → (d.atom < p.atoms) × (d.variable < p.variables)
  pub named_protected : (X : ℕ) → Memᴰ X p.protected → X < p.variables
