-- A permutation as it lies in a lent table. The definitions above speak of a row through these three alone, so that the store can change behind them
-- (document 02, E9). Definitions alone; their laws are in proofs/.
use Rattle.std.specs.Prelude.{ℕ, ◌≤◌, take, ◌≡◌, List, map}
use Rattle.permutation.specs.Swaps.{swapped}
use Rattle.permutation.specs.Table.{Table, swapped_after}
use Rattle.permutation.specs.declared.Permutation.{Permutation}

-- The images of A atoms that a row has.
unfoldable pub images_in : ℕ → List ℕ → Table
images_in A row = take A row

-- The row that keeps a permutation, and the permutation that a row keeps: whole, however many atoms are in use.
unfoldable pub row_kept : Permutation → List ℕ
row_kept p = p.images

unfoldable pub row_held : List ℕ → Permutation
row_held row = record { images = row }

-- A row with the swap of a and b done after it: its whole content, and what that is as images, for any number of atoms in use.
pub record RowSwapped (a b : ℕ) (before after : List ℕ) : Type 0 where
  pub content : after ≡ map (swapped a b) before
  pub images : (A : ℕ) → A ≤ 32 → images_in A after ≡ swapped_after a b (images_in A before)
