-- The laws of rows: what is kept has the permutation's images, and what is loaded has the row's, for any number of atoms in use; and how a loop over a row's
-- places gets on.
use Prim.Native.Nat.{ℕ, zero, suc, ◌≤◌, ◌<◌}
use native.Mathlib.Omega.{arith}
use mathlib.Core.Path.{◌≡◌, refl, ◌∙◌, ap}
use mathlib.Core.List.{List, [], ◌∷◌, map}
use lib.ListN.{length, get_or, take}
use lib.Seq.{length-take-le, get_or-take}
use Rattle.permutation.specs.Swaps.{swapped}
use Rattle.permutation.specs.Table.{image, swapped_after}
use Rattle.permutation.specs.Store.{table}
use Rattle.permutation.specs.declared.Permutation.{Permutation}
use Rattle.permutation.proofs.Table.{get_d_default}
use Rattle.rows.specs.Rows.{images_in, row_kept, row_held, RowSwapped}

pub images_in_kept : (A : ℕ) (p : Permutation) → images_in A (row_kept p) ≡ table A p
unfolding images_in row_kept table
images_in_kept A p = refl

pub table_held : (A : ℕ) (row : List ℕ) → table A (row_held row) ≡ images_in A row
unfolding images_in row_held table
table_held A row = refl

pub length_images_in : (A : ℕ) (row : List ℕ) → A ≤ length row → length (images_in A row) ≡ A
unfolding images_in
length_images_in A row h = length-take-le A row h

pub image_images_in : (A : ℕ) (row : List ℕ) (a : ℕ) → a < A → A ≤ length row → image (images_in A row) a ≡ get_or row a 0
unfolding images_in
image_images_in A row a h k = get_or-take A row a a h ∙ get_d_default row a a 0 (omega arith)

-- ---- a swap

take_map : (f : ℕ → ℕ) (n : ℕ) (l : List ℕ) → take n (map f l) ≡ map f (take n l)
take_map f zero l = refl
take_map f (suc n) [] = refl
take_map f (suc n) (x ∷ l) = ap (λ (k : List ℕ). f x ∷ k) (take_map f n l)

pub row_swapped : (a b : ℕ) (row : List ℕ) {after : List ℕ} → after ≡ map (swapped a b) row → RowSwapped a b row after
unfolding images_in swapped_after
row_swapped a b row whole = record { content = whole; images = λ A few. ap (take A) whole ∙ take_map (swapped a b) A row }
