-- The demands that a run raises, kept as sets: a run of L steps can raise 32 times L of them, but there are few different ones. For each node and for
-- each variable a set of atoms, and beside it the number of the equation that asked for each atom first. Definitions alone; their laws are in proofs/.
use Rattle.std.specs.Prelude.{ℕ, ◌+◌, ◌*◌, ◌<◌, ◌≤◌, ◌≡◌, Bool, true, false, ◌&&◌, ◌||◌, cond, List, [], ◌∷◌, ◌++◌, map}
use Rattle.std.specs.Prelude.{length, get_or, set, drop, replicate, eqb}
use Rattle.std.proofs.Math.Option.{Option, none, some}
use Rattle.permutation.specs.Table.{Table, image, inverted}
use Rattle.sets.specs.Bits.{member, union, inserted, members}
use Rattle.run.specs.Run.{Subject, of_variable, of_side, Demand, demands}

-- Two lent tables: the sets of atoms, in one column those of the nodes and in another those of the variables; and numbers of equations, 32 to a row.
pub record Sheet : Type 0 where
  pub asked : List (List ℕ)
  pub firsts : List (List ℕ)

abbrev pub sheet : List (List ℕ) → List (List ℕ) → Sheet
sheet asked firsts = record { asked = asked; firsts = firsts }

-- The sets by node and by variable.
abbrev pub asked_of_nodes : List (List ℕ) → List ℕ
asked_of_nodes asked = get_or asked 0 []

abbrev pub asked_of_variables : List (List ℕ) → List ℕ
asked_of_variables asked = get_or asked 1 []

-- The atoms asked of a node, and of a variable.
abbrev pub asked_of_node : List (List ℕ) → ℕ → ℕ
asked_of_node asked n = get_or (asked_of_nodes asked) n 0

abbrev pub asked_of_variable : List (List ℕ) → ℕ → ℕ
asked_of_variable asked X = get_or (asked_of_variables asked) X 0

-- Where the numbers of row i of a column stand: the variables' rows lie behind those of 512 nodes.
abbrev pub row_of : ℕ → ℕ → ℕ
row_of column i = column * 512 + i

-- The set in row i of a column, and the number that stands for atom b of that set.
abbrev pub atoms_at : Sheet → ℕ → ℕ → ℕ
atoms_at t column i = get_or (get_or t.asked column []) i 0

abbrev pub first_at : Sheet → ℕ → ℕ → ℕ → ℕ
first_at t column i b = get_or (get_or t.firsts (row_of column i) []) b 0

-- What the code has in hand of a row: the sets of its column, and its numbers.
pub record Line : Type 0 where
  pub sets : List ℕ
  pub numbers : List ℕ

abbrev pub line : List ℕ → List ℕ → Line
line sets numbers = record { sets = sets; numbers = numbers }

abbrev pub line_at : ℕ → ℕ → Sheet → Line
line_at column i t = line (get_or t.asked column []) (get_or t.firsts (row_of column i) [])

abbrev pub with_line : ℕ → ℕ → Line → Sheet → Sheet
with_line column i l t = sheet (set t.asked column l.sets) (set t.firsts (row_of column i) l.numbers)

-- The tables have the row, with a number for each of 32 atoms.
pub record RowThere (column i : ℕ) (t : Sheet) : Type 0 where
  pub columns : column < length t.asked
  pub sets : i < length (get_or t.asked column [])
  pub rows : row_of column i < length t.firsts
  pub numbers : length (get_or t.firsts (row_of column i) []) ≡ 32

-- Equation number k asks for atom b in row i: only the first time changes anything.
unfoldable pub line_marked : ℕ → ℕ → ℕ → Line → Line
line_marked i k b l =
    let atoms : ℕ = get_or l.sets i 0 in
    cond (member atoms b) l (line (set l.sets i (inserted 32 atoms b)) (set l.numbers b k))

unfoldable pub line_marked_all : ℕ → ℕ → List ℕ → Line → Line
line_marked_all i k [] l = l
line_marked_all i k (b ∷ bs) l = line_marked_all i k bs (line_marked i k b l)

-- The same in the tables.
unfoldable pub marked : ℕ → ℕ → ℕ → ℕ → Sheet → Sheet
marked column i k b t = with_line column i (line_marked i k b (line_at column i t)) t

unfoldable pub marked_all : ℕ → ℕ → ℕ → List ℕ → Sheet → Sheet
marked_all column i k bs t = with_line column i (line_marked_all i k bs (line_at column i t)) t

-- A set put into row i of a column; and that there is such a row.
abbrev pub with_set : ℕ → ℕ → ℕ → List (List ℕ) → List (List ℕ)
with_set column i atoms asked = set asked column (set (get_or asked column []) i atoms)

pub record SetThere (column i : ℕ) (asked : List (List ℕ)) : Type 0 where
  pub columns : column < length asked
  pub sets : i < length (get_or asked column [])

-- The first n sets emptied; the rest may hold anything and stays.
unfoldable pub emptied : ℕ → List ℕ → List ℕ
emptied n sets = replicate n 0 ++ drop n sets

-- Nothing is demanded of so many nodes and variables.
unfoldable pub demands_cleared : ℕ → ℕ → List (List ℕ) → List (List ℕ)
demands_cleared nodes variables asked = set (set asked 0 (emptied nodes (asked_of_nodes asked))) 1 (emptied variables (asked_of_variables asked))

-- Whether a demand asks that atom b is fresh for node n: a is fresh for a side exactly if the atom that the side's images send to a is fresh for its node.
abbrev pub is_of_node : ℕ → ℕ → ℕ → Subject → Bool
is_of_node n b a (of_variable X) = false
is_of_node n b a (of_side s) = eqb n s.node && eqb b (image (inverted s.images) a)

abbrev pub is_of_variable : ℕ → ℕ → ℕ → Subject → Bool
is_of_variable X b a (of_variable Y) = eqb X Y && eqb b a
is_of_variable X b a (of_side s) = false

-- The number of the first demand, in the order raised, that a test finds.
abbrev pub first_raised : (ℕ → Subject → Bool) → List Demand → Option ℕ
first_raised f [] = none
first_raised f (d ∷ ds) = cond (f d.atom d.subject) (some d.equation) (first_raised f ds)

-- What one place of the tables says: whether it is marked, and if so, the equation.
abbrev pub PlaceTells : Option ℕ → Bool → ℕ → Type 0
PlaceTells none m k = m ≡ false
PlaceTells (some e) m k = (m ≡ true) × (k ≡ e)

abbrev pub ToldAt : Option ℕ → ℕ → ℕ → ℕ → Sheet → Type 0
ToldAt o column i b t = PlaceTells o (member (atoms_at t column i) b) (first_at t column i b)

-- What the first rows of a column say.
abbrev pub RowsTell : (ℕ → ℕ → Option ℕ) → ℕ → ℕ → Sheet → Type 0
RowsTell f rows column t = (i b : ℕ) → i < rows → b < 32 → ToldAt (f i b) column i b t

-- The tables hold the demands raised so far, for that many nodes and variables.
pub record Raised (nodes variables : ℕ) (ds : List Demand) (t : Sheet) : Type 0 where
  pub nodes_told : RowsTell (λ n b. first_raised (is_of_node n b) ds) nodes 0 t
  pub variables_told : RowsTell (λ X b. first_raised (is_of_variable X b) ds) variables 1 t

-- Equation number k asks for atom b of node n: the tables' whole content, and what that is as demands, of whatever atom and images b is the atom.
pub record NodeRaised (b n k : ℕ) (before after : Sheet) : Type 0 where
  pub content : after ≡ marked 0 n k b before
  pub raised : (a : ℕ) (P : Table) → b ≡ image (inverted P) a → (nodes variables : ℕ) (ds : List Demand) → Raised nodes variables ds before
      → Raised nodes variables (ds ++ demands k ((a, of_side (record { images = P; node = n })) ∷ [])) after

-- Equation number k demands atom a fresh for the side of node n under the images P: the tables' whole content, and what that is as demands.
pub record SideRaised (a : ℕ) (P : Table) (n k : ℕ) (before after : Sheet) : Type 0 where
  pub content : after ≡ marked 0 n k (image (inverted P) a) before
  pub raised : (nodes variables : ℕ) (ds : List Demand) → Raised nodes variables ds before
      → Raised nodes variables (ds ++ demands k ((a, of_side (record { images = P; node = n })) ∷ [])) after

-- Equation number k demands each atom of the set w fresh for the variable X, from the lowest up. The rows of 512 nodes stay.
pub record VariableRaised (w X k : ℕ) (before after : Sheet) : Type 0 where
  pub content : after ≡ marked_all 1 X k (members 32 w) before
  pub raised : (nodes variables : ℕ) (ds : List Demand) → nodes ≤ 512 → Raised nodes variables ds before
      → Raised nodes variables (ds ++ demands k (map (λ a. (a, of_variable X)) (members 32 w))) after

-- Beyond what the equations demand, one atom more is asked of a node, and a set of atoms of a variable: the sets' whole content, who is in them, and that
-- those of the other kind stay.
pub record NodeAsked (n a : ℕ) (before after : List (List ℕ)) : Type 0 where
  pub content : after ≡ with_set 0 n (inserted 32 (asked_of_node before n) a) before
  pub marks : (m b : ℕ) → member (asked_of_node after m) b ≡ ((eqb n m && eqb a b) || member (asked_of_node before m) b)
  pub others : asked_of_variables after ≡ asked_of_variables before

pub record VariableAsked (X atoms : ℕ) (before after : List (List ℕ)) : Type 0 where
  pub content : after ≡ with_set 1 X (union (asked_of_variable before X) atoms) before
  pub marks : (Y b : ℕ) → member (asked_of_variable after Y) b ≡ ((eqb X Y && member atoms b) || member (asked_of_variable before Y) b)
  pub others : asked_of_nodes after ≡ asked_of_nodes before
