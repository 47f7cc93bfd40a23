-- Paths in any graph on numbers: one after the other, and into another graph.
use Prim.Native.Nat.{ℕ}
use mathlib.Core.Path.{◌≡◌}
use mathlib.Core.Logic.{◌⊎◌, inl, inr}
use Rattle.run.specs.Circle.{Path, last, onward}

-- No step or more.
abbrev pub Star : (ℕ → ℕ → Type 0) → ℕ → ℕ → Type 0
Star E X Y = (X ≡ Y) ⊎ Path E X Y

module _ {E : ℕ → ℕ → Type 0} where
  pub path_join : {X Y Z : ℕ} → Path E X Y → Path E Y Z → Path E X Z
  path_join (last e) q = onward e q
  path_join (onward e p) q = onward e (path_join p q)

  pub path_star : {X Y Z : ℕ} → Path E X Y → Star E Y Z → Path E X Z
  path_star p (inl e) = rw (← e) p
  path_star p (inr q) = path_join p q

  pub star_path : {X Y Z : ℕ} → Star E X Y → Path E Y Z → Path E X Z
  star_path (inl e) q = rw e q
  star_path (inr p) q = path_join p q

pub path_map : {E F : ℕ → ℕ → Type 0} → ((X Y : ℕ) → E X Y → F X Y) → {X Y : ℕ} → Path E X Y → Path F X Y
path_map f {X} {Y} (last e) = last (f X Y e)
path_map f {X} {Y} (onward {Y = W} e p) = onward (f X W e) (path_map f p)

pub star_map : {E F : ℕ → ℕ → Type 0} → ((X Y : ℕ) → E X Y → F X Y) → {X Y : ℕ} → Star E X Y → Star F X Y
star_map f (inl e) = inl e
star_map f (inr p) = inr (path_map f p)
