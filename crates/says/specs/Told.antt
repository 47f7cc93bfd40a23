-- What the code tells of a field, in its own types: the kind of its item, or why it is refused. Definitions alone.
use Rattle.std.specs.Prelude.{ℕ, zero, suc, ◌≡◌, Bool, true, false, ◌&&◌, cond, List, [], ◌∷◌, eqb, ltb, Result, Ok, Err, MatchResult}
use Rattle.numbers.specs.Numbers.{number_of}
use Rattle.numbers.specs.declared.Reason.{Reason}
use Rattle.numbers.specs.declared.Reason.TheVariants as reason
use Rattle.problem.specs.Reader.{Item, node, equation, freshness, assumption, protection, Sizes, base_tags, item, fault}
use Rattle.says.specs.declared.Sizes as counted
use Rattle.says.specs.declared.Said.{Said}
use Rattle.says.specs.declared.Said.TheVariants.{Node, Equation, Freshness, Assumption, Protection}

-- Every byte is below the given number.
abbrev pub below : ℕ → List ℕ → Bool
below atoms [] = true
below atoms (a ∷ s) = ltb a atoms && below atoms s

abbrev pub sized : counted.Sizes → Sizes
sized z = record { atoms = z.atoms; variables = z.variables; nodes = z.nodes; equations = z.equations; freshness = z.freshness }

-- The table's row for the number of a whole field's fault, which is 4, 5, 6 or 7.
abbrev pub row : ℕ → Reason
row f = cond (eqb f 4) reason.UnknownTag (cond (eqb f 5) reason.WrongLength (cond (eqb f 6) reason.TooMany reason.NotThere))

-- A fault tells its row. Without one, a field tells which kind it is: names of nodes and equations stay in the bytes.
abbrev pub said_by : ℕ → Item → Result Said Reason
said_by zero (node f) = Ok Node
said_by zero (equation e) = Ok Equation
said_by zero (freshness a n) = Ok Freshness
said_by zero (assumption a X) = Ok (Assumption (record { 0 = a }) (record { 0 = X }))
said_by zero (protection X) = Ok (Protection (record { 0 = X }))
said_by (suc f) i = Err (row (suc f))

unfoldable pub said_of : Sizes → ℕ → List ℕ → Result Said Reason
said_of z tag s = said_by (fault base_tags z tag s) (item tag s)

-- A name of a field as a test of whether it is there hands it on, or the row for one that is not.
abbrev pub NamedIf : {N : Type 0} → Result N Reason → Bool → N → Type 0
NamedIf r there name = MatchResult r (λ n. (n ≡ name) × (there ≡ true)) (λ f. (there ≡ false) × (f ≡ reason.NotThere))

-- The number of the fault, or 0.
abbrev pub fault_by : Result Said Reason → ℕ
fault_by (Ok said) = 0
fault_by (Err r) = number_of r
