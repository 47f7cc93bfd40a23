-- Trees that are the same but for lists of swaps that send every atom alike, and so count as one permutation. The run keeps tables of images, so two
-- ways to one side can give such trees; nothing that figures 2 and 3 or the run ask of a tree tells them apart. Definitions alone.
use Rattle.std.specs.Prelude.{ℕ}
use Rattle.permutation.specs.Swaps.{Swaps, Alike}
use Rattle.nominal.specs.Tree.{Tree, unit, atom, abstraction, pair, application, suspension}

pub data Same : Tree → Tree → Type 0 where
  same_unit : Same unit unit
  same_atom : {a : ℕ} → Same (atom a) (atom a)
  same_abstraction : {a : ℕ} {s t : Tree} → Same s t → Same (abstraction a s) (abstraction a t)
  same_pair : {s₁ s₂ t₁ t₂ : Tree} → Same s₁ t₁ → Same s₂ t₂ → Same (pair s₁ s₂) (pair t₁ t₂)
  same_application : {f : ℕ} {s t : Tree} → Same s t → Same (application f s) (application f t)
  same_suspension : {π ρ : Swaps} {X : ℕ} → Alike π ρ → Same (suspension π X) (suspension ρ X)
