-- A tree's form and its parts by place, so that two trees can be compared without a case for each pair of forms. A part that a form has not is
-- 0, the empty list or unit.
use Rattle.std.specs.Prelude.{ℕ, []}
use Rattle.permutation.specs.Swaps.{Swaps}
use Rattle.nominal.specs.Tree.{Tree, unit, atom, abstraction, pair, application, suspension}

-- Which of the six forms a tree has.
abbrev pub form : Tree → ℕ
form unit = 0
form (atom a) = 1
form (abstraction a t) = 2
form (pair s t) = 3
form (application f t) = 4
form (suspension π X) = 5

-- The atom of an atom or an abstraction, the symbol of an application, the variable of a suspension.
abbrev pub name : Tree → ℕ
name unit = 0
name (atom a) = a
name (abstraction a t) = a
name (pair s t) = 0
name (application f t) = f
name (suspension π X) = X

abbrev pub swaps_at : Tree → Swaps
swaps_at unit = []
swaps_at (atom a) = []
swaps_at (abstraction a t) = []
swaps_at (pair s t) = []
swaps_at (application f t) = []
swaps_at (suspension π X) = π

abbrev pub first : Tree → Tree
first unit = unit
first (atom a) = unit
first (abstraction a t) = t
first (pair s t) = s
first (application f t) = t
first (suspension π X) = unit

abbrev pub second : Tree → Tree
second unit = unit
second (atom a) = unit
second (abstraction a t) = unit
second (pair s t) = t
second (application f t) = unit
second (suspension π X) = unit
