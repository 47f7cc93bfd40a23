-- A problem's fields in bytes, for writing: document 01, "The problem in bytes", columns "tag" and "body". For reading it is the reader's `item`
-- (problem, specs/Reader.antt); that it reads back what was written is shown in proofs/. Definitions alone.
use Rattle.std.specs.Prelude.{ℕ, ◌<◌, ◌≤◌, List, [], ◌∷◌, ◌++◌, length}
use Rattle.permutation.specs.Swaps.{Swaps}
use Rattle.field.specs.Field.{bytes2, bytes4, field_bytes}
use Rattle.problem.specs.Problem.{unit_form, atom_form, abstraction_form, pair_form, application_form, suspension_form}
use Rattle.problem.specs.Reader.{Item, node, equation, freshness, assumption, protection}

-- "01 head: A, V, L (4 bytes)"
abbrev pub head_bytes : ℕ → ℕ → ℕ → List ℕ
head_bytes atoms variables limit = field_bytes 0x01 (atoms ∷ variables ∷ bytes4 limit)

-- "0 to 32 swaps of two atoms each"
abbrev pub swap_bytes : Swaps → List ℕ
swap_bytes [] = []
swap_bytes (s ∷ π) = s.0 ∷ s.1 ∷ swap_bytes π

-- The tag and the body of what a field says.
abbrev pub item_tag : Item → ℕ
item_tag (node unit_form) = 0x10
item_tag (node (atom_form a)) = 0x11
item_tag (node (abstraction_form a n)) = 0x12
item_tag (node (pair_form l r)) = 0x13
item_tag (node (application_form f n)) = 0x14
item_tag (node (suspension_form π X)) = 0x15
item_tag (equation e) = 0x20
item_tag (freshness a n) = 0x21
item_tag (assumption a X) = 0x22
item_tag (protection X) = 0x30

abbrev pub item_body : Item → List ℕ
item_body (node unit_form) = []
item_body (node (atom_form a)) = a ∷ []
item_body (node (abstraction_form a n)) = a ∷ bytes2 n
item_body (node (pair_form l r)) = bytes2 l ++ bytes2 r
item_body (node (application_form f n)) = bytes2 f ++ bytes2 n
item_body (node (suspension_form π X)) = X ∷ swap_bytes π
item_body (equation e) = bytes2 e.left ++ bytes2 e.right
item_body (freshness a n) = a ∷ bytes2 n
item_body (assumption a X) = a ∷ X ∷ []
item_body (protection X) = X ∷ []

abbrev pub item_field : Item → List ℕ
item_field i = field_bytes (item_tag i) (item_body i)

-- Numbers that have room where they are written: node numbers and symbols in two bytes, swaps in a field. Atoms and variables are bytes as they are.
abbrev pub ItemHasRoom : Item → Type 0
ItemHasRoom (node unit_form) = Unit {0}
ItemHasRoom (node (atom_form a)) = Unit {0}
ItemHasRoom (node (abstraction_form a n)) = n < 65536
ItemHasRoom (node (pair_form l r)) = (l < 65536) × (r < 65536)
ItemHasRoom (node (application_form f n)) = (f < 65536) × (n < 65536)
ItemHasRoom (node (suspension_form π X)) = length π ≤ 32
ItemHasRoom (equation e) = (e.left < 65536) × (e.right < 65536)
ItemHasRoom (freshness a n) = n < 65536
ItemHasRoom (assumption a X) = Unit {0}
ItemHasRoom (protection X) = Unit {0}

-- By name, as document 01's examples have them.
abbrev pub unit_field : List ℕ
unit_field = item_field (node unit_form)

abbrev pub atom_field : ℕ → List ℕ
atom_field a = item_field (node (atom_form a))

abbrev pub abstraction_field : ℕ → ℕ → List ℕ
abstraction_field a n = item_field (node (abstraction_form a n))

abbrev pub application_field : ℕ → ℕ → List ℕ
application_field f n = item_field (node (application_form f n))

abbrev pub suspension_field : Swaps → ℕ → List ℕ
suspension_field π X = item_field (node (suspension_form π X))

abbrev pub equation_field : ℕ → ℕ → List ℕ
equation_field l r = item_field (equation (record { left = l; right = r }))

abbrev pub freshness_field : ℕ → ℕ → List ℕ
freshness_field a n = item_field (freshness a n)

abbrev pub assumption_field : ℕ → ℕ → List ℕ
assumption_field a X = item_field (assumption a X)

abbrev pub protection_field : ℕ → List ℕ
protection_field X = item_field (protection X)
