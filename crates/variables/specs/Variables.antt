-- The sets of the variables that occur in the nodes: what one is made of, and that a table has them. Definitions alone.
use Rattle.std.specs.Prelude.{ℕ, ◌<◌, ◌≡◌, List, length, get_or}
use Rattle.sets.specs.Bits.{union, inserted}
use Rattle.problem.specs.Problem.{Node, form_at}
use Rattle.problem.specs.Look.{form_told}
use Rattle.problem.specs.declared.Form.{Form}
use Rattle.problem.specs.declared.Form.TheVariants.{Unit, Atom, Abstraction, Pair, Application, Suspension}

-- The set that a table has for node n.
abbrev pub set_of : List ℕ → ℕ → ℕ
set_of table n = get_or table n 0

-- The variables of a form, from the sets of its parts.
abbrev pub variables_of : List ℕ → Form → ℕ
variables_of table Unit = 0
variables_of table (Atom a) = 0
variables_of table (Abstraction a n) = set_of table n.0
variables_of table (Pair l r) = union (set_of table l.0) (set_of table r.0)
variables_of table (Application f n) = set_of table n.0
variables_of table (Suspension X) = inserted 64 0 X.0

-- Each node's set is made of those of its parts. (That it then has just the variables that occur in the node's tree is a law of the occurs check.)
abbrev pub VariablesKept : List Node → List ℕ → Type 0
VariablesKept nodes table = (n : ℕ) → n < length nodes → set_of table n ≡ variables_of table (form_told (form_at nodes n))
