-- The nine cases of two tops are all: each pair of forms, of which there are 36, is shown once which it is. Every proof about two tops goes by `View`.
use Prim.Native.Nat.{ℕ}
use native.Mathlib.Omega.{arith}
use mathlib.Core.Logic.{◌≢◌}
use Rattle.problem.specs.Problem.{Form, unit_form, atom_form, abstraction_form, pair_form, application_form, suspension_form}
use Rattle.run.specs.Tops.{Tops, two_suspensions, left_suspension, right_suspension, two_units, two_atoms, two_abstractions, two_pairs}
use Rattle.run.specs.Tops.{two_applications, different_forms, tops}

-- Which of the six forms a top has, counted as the trees' forms are.
abbrev pub kind : {P N : Type 0} → Form P N → ℕ
kind unit_form = 0
kind (atom_form a) = 1
kind (abstraction_form a n) = 2
kind (pair_form m n) = 3
kind (application_form f n) = 4
kind (suspension_form π X) = 5

-- What two forms are like in each case.
pub data View {P N : Type 0} : Form P N → Form P N → Tops P N → Type 0 where
  of_suspensions : {π ρ : P} {X Y : ℕ} → View (suspension_form π X) (suspension_form ρ Y) (two_suspensions π X ρ Y)
  on_the_left : {π : P} {X : ℕ} {w : Form P N} → kind w ≢ 5 → View (suspension_form π X) w (left_suspension π X)
  on_the_right : {v : Form P N} {ρ : P} {Y : ℕ} → kind v ≢ 5 → View v (suspension_form ρ Y) (right_suspension ρ Y)
  of_units : View unit_form unit_form two_units
  of_atoms : {a b : ℕ} → View (atom_form a) (atom_form b) (two_atoms a b)
  of_abstractions : {a b : ℕ} {u v : N} → View (abstraction_form a u) (abstraction_form b v) (two_abstractions a u b v)
  of_pairs : {l r v w : N} → View (pair_form l r) (pair_form v w) (two_pairs l r v w)
  of_applications : {f h : ℕ} {u v : N} → View (application_form f u) (application_form h v) (two_applications f u h v)
  of_different : {v w : Form P N} → kind v ≢ 5 → kind w ≢ 5 → kind v ≢ kind w → View v w different_forms

module _ {P N : Type 0} where
  differ : (v w : Form P N) → kind v ≢ 5 → kind w ≢ 5 → kind v ≢ kind w → View v w different_forms
  differ v w h k n = of_different {v = v} {w = w} h k n

  left_alone : (π : P) (X : ℕ) (w : Form P N) → kind w ≢ 5 → View (suspension_form π X) w (left_suspension π X)
  left_alone π X w h = on_the_left {w = w} h

  right_alone : (v : Form P N) (ρ : P) (Y : ℕ) → kind v ≢ 5 → View v (suspension_form ρ Y) (right_suspension ρ Y)
  right_alone v ρ Y h = on_the_right {v = v} h

  pub view : (v w : Form P N) → View v w (tops v w)
  view unit_form unit_form = of_units
  view unit_form (atom_form b) = differ unit_form (atom_form b) (λ e. omega arith) (λ e. omega arith) (λ e. omega arith)
  view unit_form (abstraction_form b v) = differ unit_form (abstraction_form b v) (λ e. omega arith) (λ e. omega arith) (λ e. omega arith)
  view unit_form (pair_form v w) = differ unit_form (pair_form v w) (λ e. omega arith) (λ e. omega arith) (λ e. omega arith)
  view unit_form (application_form h v) = differ unit_form (application_form h v) (λ e. omega arith) (λ e. omega arith) (λ e. omega arith)
  view unit_form (suspension_form ρ Y) = right_alone unit_form ρ Y (λ e. omega arith)
  view (atom_form a) unit_form = differ (atom_form a) unit_form (λ e. omega arith) (λ e. omega arith) (λ e. omega arith)
  view (atom_form a) (atom_form b) = of_atoms
  view (atom_form a) (abstraction_form b v) = differ (atom_form a) (abstraction_form b v) (λ e. omega arith) (λ e. omega arith) (λ e. omega arith)
  view (atom_form a) (pair_form v w) = differ (atom_form a) (pair_form v w) (λ e. omega arith) (λ e. omega arith) (λ e. omega arith)
  view (atom_form a) (application_form h v) = differ (atom_form a) (application_form h v) (λ e. omega arith) (λ e. omega arith) (λ e. omega arith)
  view (atom_form a) (suspension_form ρ Y) = right_alone (atom_form a) ρ Y (λ e. omega arith)
  view (abstraction_form a u) unit_form = differ (abstraction_form a u) unit_form (λ e. omega arith) (λ e. omega arith) (λ e. omega arith)
  view (abstraction_form a u) (atom_form b) = differ (abstraction_form a u) (atom_form b) (λ e. omega arith) (λ e. omega arith) (λ e. omega arith)
  view (abstraction_form a u) (abstraction_form b v) = of_abstractions
  view (abstraction_form a u) (pair_form v w) = differ (abstraction_form a u) (pair_form v w) (λ e. omega arith) (λ e. omega arith) (λ e. omega arith)
  view (abstraction_form a u) (application_form h v) =
      differ (abstraction_form a u) (application_form h v) (λ e. omega arith) (λ e. omega arith) (λ e. omega arith)
  view (abstraction_form a u) (suspension_form ρ Y) = right_alone (abstraction_form a u) ρ Y (λ e. omega arith)
  view (pair_form l r) unit_form = differ (pair_form l r) unit_form (λ e. omega arith) (λ e. omega arith) (λ e. omega arith)
  view (pair_form l r) (atom_form b) = differ (pair_form l r) (atom_form b) (λ e. omega arith) (λ e. omega arith) (λ e. omega arith)
  view (pair_form l r) (abstraction_form b v) = differ (pair_form l r) (abstraction_form b v) (λ e. omega arith) (λ e. omega arith) (λ e. omega arith)
  view (pair_form l r) (pair_form v w) = of_pairs
  view (pair_form l r) (application_form h v) = differ (pair_form l r) (application_form h v) (λ e. omega arith) (λ e. omega arith) (λ e. omega arith)
  view (pair_form l r) (suspension_form ρ Y) = right_alone (pair_form l r) ρ Y (λ e. omega arith)
  view (application_form f u) unit_form = differ (application_form f u) unit_form (λ e. omega arith) (λ e. omega arith) (λ e. omega arith)
  view (application_form f u) (atom_form b) = differ (application_form f u) (atom_form b) (λ e. omega arith) (λ e. omega arith) (λ e. omega arith)
  view (application_form f u) (abstraction_form b v) =
      differ (application_form f u) (abstraction_form b v) (λ e. omega arith) (λ e. omega arith) (λ e. omega arith)
  view (application_form f u) (pair_form v w) = differ (application_form f u) (pair_form v w) (λ e. omega arith) (λ e. omega arith) (λ e. omega arith)
  view (application_form f u) (application_form h v) = of_applications
  view (application_form f u) (suspension_form ρ Y) = right_alone (application_form f u) ρ Y (λ e. omega arith)
  view (suspension_form π X) unit_form = left_alone π X unit_form (λ e. omega arith)
  view (suspension_form π X) (atom_form b) = left_alone π X (atom_form b) (λ e. omega arith)
  view (suspension_form π X) (abstraction_form b v) = left_alone π X (abstraction_form b v) (λ e. omega arith)
  view (suspension_form π X) (pair_form v w) = left_alone π X (pair_form v w) (λ e. omega arith)
  view (suspension_form π X) (application_form h v) = left_alone π X (application_form h v) (λ e. omega arith)
  view (suspension_form π X) (suspension_form ρ Y) = of_suspensions
