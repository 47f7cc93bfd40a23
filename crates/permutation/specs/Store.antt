-- A permutation as the code keeps it, for up to 32 atoms. The contracts speak of it through `table` and `of_table` alone, so that the store
-- can change behind them (document 02, E9). Definitions alone; their laws are in proofs/.
use Rattle.std.specs.Prelude.{ℕ, Bool, not, List, ◌++◌, length, take, drop, eqb}
use Rattle.permutation.specs.Table.{Table, image, identity}
use Rattle.permutation.specs.declared.Permutation.{Permutation}

-- The images of the first n atoms.
unfoldable pub table : ℕ → Permutation → Table
table n p = take n p.images

-- A table in store. Past its end every atom is its own image, as `image` has it: so the identity of any number of atoms is one value, and is known by
-- looking at all 32 places.
unfoldable pub padded : Table → List ℕ
padded P = P ++ drop (length P) (identity 32)

unfoldable pub of_table : Table → Permutation
of_table P = record { images = padded P }

-- Whether two tables send an atom to different atoms.
abbrev pub disagree_at : Table → Table → ℕ → Bool
disagree_at P Q a = not (eqb (image P a) (image Q a))
