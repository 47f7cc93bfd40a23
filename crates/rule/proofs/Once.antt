-- One act alone fits two sides: what `decide` tells is the only answer that its contract lets it give.
use Prim.Native.Nat.{ℕ}
use mathlib.Core.Path.{◌≡◌, refl}
use mathlib.Core.Bool.{Bool}
use mathlib.Core.List.{List}
use Rattle.permutation.specs.Table.{Table}
use Rattle.problem.specs.declared.Form.{Form}
use Rattle.run.specs.Meaning.{Side}
use Rattle.side.specs.declared.Side.{Side as HeldSide}
use Rattle.rule.specs.declared.Act.{Act}
use Rattle.rule.specs.Rule.{
  Compounds,
  both_units,
  both_atoms,
  both_abstractions,
  both_pairs,
  both_applications,
  different,
  RuleFits,
  both_suspended,
  left_suspended,
  right_suspended,
  none_suspended,
  Free,
  Agrees,
  Decided,
}

-- Forms of one kind are not different; the rest have one rule each.
pub compounds_once : {P Q : Table} {v w : Form} {a b : Act} → Compounds P Q v w a → Compounds P Q v w b → a ≡ b
compounds_once both_units both_units = refl
compounds_once both_atoms both_atoms = refl
compounds_once both_abstractions both_abstractions = refl
compounds_once both_pairs both_pairs = refl
compounds_once both_applications both_applications = refl
compounds_once (different n) (different m) = refl
compounds_once both_units (different n) = absurd (n refl)
compounds_once both_atoms (different n) = absurd (n refl)
compounds_once both_abstractions (different n) = absurd (n refl)
compounds_once both_pairs (different n) = absurd (n refl)
compounds_once both_applications (different n) = absurd (n refl)
compounds_once (different n) both_units = absurd (n refl)
compounds_once (different n) both_atoms = absurd (n refl)
compounds_once (different n) both_abstractions = absurd (n refl)
compounds_once (different n) both_pairs = absurd (n refl)
compounds_once (different n) both_applications = absurd (n refl)

-- A suspension is no compound form.
pub fits_once : {protected : ℕ → Bool} {occurring : ℕ → Side → Bool} {s t : Side} {v w : Form} {a b : Act}
    → RuleFits protected occurring s t v w a → RuleFits protected occurring s t v w b → a ≡ b
fits_once both_suspended both_suspended = refl
fits_once (left_suspended k) (left_suspended j) = refl
fits_once (right_suspended h) (right_suspended i) = refl
fits_once (none_suspended h k c) (none_suspended i j d) = compounds_once c d
fits_once both_suspended (left_suspended k) = absurd (k refl)
fits_once both_suspended (right_suspended h) = absurd (h refl)
fits_once both_suspended (none_suspended h k c) = absurd (h refl)
fits_once (left_suspended k) both_suspended = absurd (k refl)
fits_once (left_suspended k) (right_suspended h) = absurd (h refl)
fits_once (left_suspended k) (none_suspended h j c) = absurd (h refl)
fits_once (right_suspended h) both_suspended = absurd (h refl)
fits_once (right_suspended h) (left_suspended k) = absurd (k refl)
fits_once (right_suspended h) (none_suspended i k c) = absurd (k refl)
fits_once (none_suspended h k c) both_suspended = absurd (h refl)
fits_once (none_suspended h k c) (left_suspended j) = absurd (h refl)
fits_once (none_suspended h k c) (right_suspended i) = absurd (k refl)

-- So two acts that both meet the contract of `decide` are equal.
pub decided_once : (A : ℕ) (protected : ℕ → Bool) (bound : ℕ) (made : List (List ℕ)) (variables_of_nodes : List ℕ) (l r : HeldSide)
    (occurring : ℕ → Side → Bool) → Agrees A bound made variables_of_nodes l r occurring → Free bound l.form → Free bound r.form
    → (a b : Act) → Decided A protected bound made variables_of_nodes l r a → Decided A protected bound made variables_of_nodes l r b → a ≡ b
decided_once A protected bound made variables_of_nodes l r occurring agrees free_left free_right a b d e =
    fits_once (d occurring agrees free_left free_right) (e occurring agrees free_left free_right)
