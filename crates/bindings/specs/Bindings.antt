-- The bindings in tables: what the definition's bindings (run, specs/Meaning.antt) are read off them. Definitions alone; their laws are in proofs/.
use Rattle.std.specs.Prelude.{ℕ, ◌+◌, ◌^◌, ◌≤◌, ◌<◌, ◌≡◌, true, cond, List, [], ◌∷◌, ◌++◌, map, length, get_or, take, set, Option, Some, None}
use Rattle.std.proofs.Math.Option.{Option as Maybe, none, some}
use Rattle.permutation.specs.Store.{table}
use Rattle.permutation.specs.Table.{Table, image, tabulate}
use Rattle.sets.specs.Bits.{member, inserted, count, among}
use Rattle.rows.specs.Rows.{images_in, row_kept, row_held}
use Rattle.run.specs.Meaning.{Side, Binding}
use Rattle.run.specs.Run.{value_of}
use Rattle.bindings.specs.declared.Value.{Value}

-- Three columns: the variables in the order in which they were bound; by variable its value's node; by variable the equation.
unfoldable pub order_in : List (List ℕ) → List ℕ
order_in made = get_or made 0 []

abbrev pub variable_at : List (List ℕ) → ℕ → ℕ
variable_at made i = get_or (order_in made) i 0

unfoldable pub node_of : List (List ℕ) → ℕ → ℕ
node_of made X = get_or (get_or made 1 []) X 0

unfoldable pub made_by : List (List ℕ) → ℕ → ℕ
made_by made X = get_or (get_or made 2 []) X 0

-- By variable its value's images, with A atoms in use. The row is read atom by atom: so they are always A, whatever its length.
unfoldable pub images_of : ℕ → List (List ℕ) → ℕ → Table
images_of A values X = tabulate A (image (images_in A (get_or values X [])))

pub record Bindings : Type 0 where
  pub made : List (List ℕ)
  pub values : List (List ℕ)

abbrev pub binding_tables : List (List ℕ) → List (List ℕ) → Bindings
binding_tables made values = record { made = made; values = values }

-- The binding of the variable X, with A atoms in use.
unfoldable pub binding_at : ℕ → Bindings → ℕ → Binding
binding_at A t X =
    record { variable = X; value = record { images = images_of A t.values X; node = node_of t.made X }; equation = made_by t.made X }

-- The first k bindings, in the order made.
unfoldable pub bindings_of : ℕ → Bindings → ℕ → List Binding
bindings_of A t k = map (binding_at A t) (take k (order_in t.made))

-- The set of bound variables and their number belong to the order: the members are the first k of it, and no variable stands there twice.
pub record Keeps (made : List (List ℕ)) (k bound : ℕ) : Type 0 where
  pub holds : (X : ℕ) → member bound X ≡ among X (take k (order_in made))
  pub number : count bound ≡ k
  pub within : bound < 2 ^ 64
  pub placed : k ≤ length (order_in made)

-- The definition's value and binding of those that the code holds, with A atoms in use.
unfoldable pub side_of : ℕ → Value → Side
side_of A v = record { images = table A v.images; node = v.node.0 }

unfoldable pub binding_of : ℕ → ℕ → Value → ℕ → Binding
binding_of A X v n = record { variable = X; value = side_of A v; equation = n }

-- A column with one place written.
unfoldable pub put_in : ℕ → ℕ → ℕ → List (List ℕ) → List (List ℕ)
put_in column i v made = set made column (set (get_or made column []) i v)

-- The tables with one more binding, after k others; every other place stays.
unfoldable pub with_binding : ℕ → ℕ → Value → ℕ → Bindings → Bindings
with_binding k X v n t =
    record { made = put_in 2 X n (put_in 1 X v.node.0 (put_in 0 k X t.made)); values = set t.values X (row_kept v.images) }

-- What adding a binding does: the tables' whole content and the set, and what they are as bindings, for any number of atoms in use.
pub record Added (before : Bindings) (k bound X : ℕ) (v : Value) (number : ℕ) (after : Bindings) (r : ℕ) : Type 0 where
  pub content : after ≡ with_binding k X v number before
  pub set : r ≡ inserted 64 bound X
  pub bindings : (A : ℕ) → A ≤ 32 → bindings_of A after (k + 1) ≡ bindings_of A before k ++ (binding_of A X v number ∷ [])
  pub keeps : Keeps after.made (k + 1) r

-- What the code makes of the variable X: rows are read whole, however many atoms are in use.
unfoldable pub found_at : Bindings → ℕ → ℕ → Option Value
found_at t bound X =
    cond (member bound X) (Some (record { images = row_held (get_or t.values X []); node = record { 0 = node_of t.made X } })) None

unfoldable pub value_in : ℕ → Option Value → Maybe Side
value_in A None = none
value_in A (Some v) = some (side_of A v)

-- What looking a variable up gives: the definition's value, if the set of bound variables belongs to the order.
pub record LookedUp (t : Bindings) (bound X : ℕ) (r : Option Value) : Type 0 where
  pub content : r ≡ found_at t bound X
  pub value : (A : ℕ) → A ≤ 32 → (k : ℕ) → Keeps t.made k bound → value_of (bindings_of A t k) X ≡ value_in A r

-- The node of each bound variable's value is one of n.
abbrev pub NodesThere : ℕ → List (List ℕ) → ℕ → Type 0
NodesThere n made bound = (X : ℕ) → member bound X ≡ true → node_of made X < n
