-- The reader of document 01, sections "The problem in bytes" and "Numbers given back": every list of bytes is a problem, or a number from 1 to 7
-- with its place. Definitions alone.
use Rattle.std.specs.Prelude.{ℕ, zero, suc, ◌+◌, ◌%◌, Bool, true, not, ◌&&◌, ◌||◌, cond, List, [], ◌∷◌, ◌++◌, length, drop, eqb, leb, ltb}
use Rattle.permutation.specs.Swaps.{Swaps, swaps_in}
use Rattle.field.specs.Field.{Field, cut, whole, byte, word, long, front}
use Rattle.problem.specs.Problem.{Node, unit_form, atom_form, abstraction_form, pair_form, application_form, suspension_form}
use Rattle.problem.specs.Problem.{Equal, Fresh, Assumed, Problem}

-- What a field after the head says: a node, an equation, a freshness field of an atom and a node, an assumption of an atom and a variable, a
-- protected variable.
pub data Item : Type 0 where
  node : Node → Item
  equation : Equal → Item
  freshness : ℕ → ℕ → Item
  assumption : ℕ → ℕ → Item
  protection : ℕ → Item

pub data Reading : Type 0 where
  read : Problem → Reading
  unreadable : ℕ → ℕ → Reading

-- "The head comes first and once": so 01 is no tag that is known after it. Which tags are known is a parameter of the reader.
unfoldable pub base_tags : ℕ → Bool
base_tags tag =
    eqb tag 0x10 || eqb tag 0x11 || eqb tag 0x12 || eqb tag 0x13 || eqb tag 0x14 || eqb tag 0x15 || eqb tag 0x20 || eqb tag 0x21 || eqb tag 0x22 || eqb tag 0x30

-- The table's column "length".
unfoldable pub length_fits : ℕ → ℕ → Bool
length_fits tag n =
    (eqb tag 0x10 && eqb n 0)
    || (eqb tag 0x11 && eqb n 1)
    || (eqb tag 0x12 && eqb n 3)
    || (eqb tag 0x13 && eqb n 4)
    || (eqb tag 0x14 && eqb n 4)
    || (eqb tag 0x15 && (eqb (n % 2) 1 && leb n 65))
    || (eqb tag 0x20 && eqb n 4)
    || (eqb tag 0x21 && eqb n 3)
    || (eqb tag 0x22 && eqb n 2)
    || (eqb tag 0x30 && eqb n 1)

-- The table's column "body".
unfoldable pub item : ℕ → List ℕ → Item
item tag s =
    cond (eqb tag 0x10) (node unit_form)
    (cond (eqb tag 0x11) (node (atom_form (byte s 0)))
    (cond (eqb tag 0x12) (node (abstraction_form (byte s 0) (word s 1)))
    (cond (eqb tag 0x13) (node (pair_form (word s 0) (word s 2)))
    (cond (eqb tag 0x14) (node (application_form (word s 0) (word s 2)))
    (cond (eqb tag 0x15) (node (suspension_form (swaps_in (drop 1 s)) (byte s 0)))
    (cond (eqb tag 0x20) (equation (record { left = word s 0; right = word s 2 }))
    (cond (eqb tag 0x21) (freshness (byte s 0) (word s 1))
    (cond (eqb tag 0x22) (assumption (byte s 0) (byte s 1))
    (protection (byte s 0))))))))))

-- How many atoms and variables there are, and how many nodes, equations and freshness fields so far: all that decides whether a field is at fault.
pub record Sizes : Type 0 where
  pub atoms : ℕ
  pub variables : ℕ
  pub nodes : ℕ
  pub equations : ℕ
  pub freshness : ℕ

unfoldable pub sizes : Problem → Sizes
sizes p = record { atoms = p.atoms; variables = p.variables; nodes = length p.nodes; equations = length p.equations; freshness = length p.freshness }

-- "At most 512 nodes, 64 equations and 64 freshness fields; 22 and 30 may repeat".
unfoldable pub room : Sizes → Item → Bool
room z (node n) = ltb z.nodes 512
room z (equation e) = ltb z.equations 64
room z (freshness a n) = ltb z.freshness 64
room z (assumption a X) = true
room z (protection X) = true

-- "atom, variable or node not there"; "a node is named only after its field": as many atoms, variables and, so far, nodes.
abbrev pub swaps_there : ℕ → Swaps → Bool
swaps_there atoms [] = true
swaps_there atoms (s ∷ π) = ltb s.0 atoms && (ltb s.1 atoms && swaps_there atoms π)

abbrev pub form_there : ℕ → ℕ → ℕ → Node → Bool
form_there atoms variables nodes unit_form = true
form_there atoms variables nodes (atom_form a) = ltb a atoms
form_there atoms variables nodes (abstraction_form a n) = ltb a atoms && ltb n nodes
form_there atoms variables nodes (pair_form l r) = ltb l nodes && ltb r nodes
form_there atoms variables nodes (application_form f n) = ltb n nodes
form_there atoms variables nodes (suspension_form π X) = ltb X variables && swaps_there atoms π

unfoldable pub there : Sizes → Item → Bool
there z (node n) = form_there z.atoms z.variables z.nodes n
there z (equation e) = ltb e.left z.nodes && ltb e.right z.nodes
there z (freshness a n) = ltb a z.atoms && ltb n z.nodes
there z (assumption a X) = ltb a z.atoms && ltb X z.variables
there z (protection X) = ltb X z.variables

-- A problem with the same head, and these fields behind it.
abbrev pub same_head : Problem → List Node → List Equal → List Fresh → List Assumed → List ℕ → Problem
same_head p nodes equations demands assumptions protected =
    record {
      atoms = p.atoms;
      variables = p.variables;
      limit = p.limit;
      nodes = nodes;
      equations = equations;
      freshness = demands;
      assumptions = assumptions;
      protected = protected;
    }

-- What a field says is set behind what the fields before it said; o is the field's offset.
unfoldable pub add : Problem → ℕ → Item → Problem
add p o (node n) = same_head p (p.nodes ++ (n ∷ [])) p.equations p.freshness p.assumptions p.protected
add p o (equation e) = same_head p p.nodes (p.equations ++ (e ∷ [])) p.freshness p.assumptions p.protected
add p o (freshness a n) =
    same_head p p.nodes p.equations (p.freshness ++ (record { atom = a; node = n; offset = o } ∷ [])) p.assumptions p.protected
add p o (assumption a X) =
    same_head p p.nodes p.equations p.freshness (p.assumptions ++ (record { atom = a; variable = X; offset = o } ∷ [])) p.protected
add p o (protection X) = same_head p p.nodes p.equations p.freshness p.assumptions (p.protected ++ (X ∷ []))

-- "within a field the order is 3, then 2 (first field only ..), 4, 5, 6, 7": the number that refuses a whole field after the head, or 0.
unfoldable pub fault : (ℕ → Bool) → Sizes → ℕ → List ℕ → ℕ
fault known z tag s =
    cond (not (known tag)) 4
    (cond (not (length_fits tag (length s))) 5
    (cond (not (room z (item tag s))) 6
    (cond (not (there z (item tag s))) 7 0)))

-- A fault refuses at its field's offset; without one the reading goes on.
abbrev pub unless : ℕ → ℕ → Reading → Reading
unless zero o r = r
unless (suc f) o r = unreadable (suc f) o

-- "The first field at fault decides": one field at offset o, and then, by `onward`, the fields after it.
abbrev pub one_field : (ℕ → Bool) → Problem → ℕ → (Problem → ℕ → List ℕ → Reading) → Field → Reading
one_field known p o onward cut = unreadable 3 o
one_field known p o onward (whole tag s rest) =
    let r : Reading = onward (add p o (item tag s)) (o + (3 + length s)) rest in unless (fault known (sizes p) tag s) o r

-- The fields from offset o on. The first number only bounds how many there can be: as many as bytes are enough.
unfoldable pub fields_from : (ℕ → Bool) → ℕ → Problem → ℕ → List ℕ → Reading
unfolding sizes
fields_from known zero p o s = read p
fields_from known (suc k) p o [] = read p
fields_from known (suc k) p o (b ∷ s) = one_field known p o (λ q i r. fields_from known k q i r) (front (b ∷ s))

-- "2 (first field only: other tag, length not 6, A over 32, V over 64)".
unfoldable pub good_head : ℕ → List ℕ → Bool
good_head tag s = eqb tag 0x01 && (eqb (length s) 6 && (leb (byte s 0) 32 && leb (byte s 1) 64))

-- "atoms A (0 to 32), variables V (0 to 64), step limit L (4 bytes)".
unfoldable pub started : ℕ → ℕ → ℕ → Problem
started atoms variables limit =
    record {
      atoms = atoms;
      variables = variables;
      limit = limit;
      nodes = [];
      equations = [];
      freshness = [];
      assumptions = [];
      protected = [];
    }

unfoldable pub headed : List ℕ → Problem
unfolding started
headed s = started (byte s 0) (byte s 1) (long s 2)

unfoldable pub head_field : (ℕ → Bool) → Field → Reading
head_field known cut = unreadable 3 0
head_field known (whole tag s rest) =
    let r : Reading = fields_from known (length rest) (headed s) (3 + length s) rest in cond (good_head tag s) r (unreadable 2 0)

-- "An empty input is 2."
unfoldable pub read_all : (ℕ → Bool) → List ℕ → Reading
read_all known [] = unreadable 2 0
read_all known (b ∷ s) = head_field known (front (b ∷ s))

-- "1 comes before all."
unfoldable pub reading : (ℕ → Bool) → List ℕ → Reading
reading known s = let r : Reading = read_all known s in cond (leb (length s) 65535) r (unreadable 1 0)
