-- What a step can do, once: document 01's cases read backwards. Every property of a step is proved from these.
use Prim.Native.Nat.{ℕ, ◌<◌}
use native.Mathlib.Omega.{arith}
use mathlib.Core.Path.{◌≡◌, refl}
use mathlib.Core.Logic.{◌≢◌}
use mathlib.Core.Bool.{Bool, true, false, cond}
use mathlib.Core.List.{List, [], ◌∷◌, map}
use lib.Dec.{eqb}
use borrow.Author.Tests.{eqb-true, eqb-false}
use Rattle.permutation.specs.Table.{Table, inverted, disagreement}
use Rattle.nominal.specs.Tree.{substitute}
use Rattle.problem.specs.Problem.{Form, unit_form, atom_form, abstraction_form, pair_form, application_form, suspension_form}
use Rattle.run.specs.Meaning.{Side, side_tree, Binding, meaning, occurs_in}
use Rattle.run.specs.Run.{Ground, of_variable, of_side, top, under, resolved, clash, inside, protection, Step, refuses, goes_on, done, bound, one_variable}
use Rattle.run.specs.Run.{two_variables, abstractions, fitting, rule, step}
use Rattle.run.specs.Tops.{Tops, two_suspensions, left_suspension, right_suspension, two_atoms, two_abstractions, two_applications}
use Rattle.run.proofs.Trees.{under_swap}
use Rattle.run.proofs.Tops.{kind, View, of_suspensions, on_the_left, on_the_right, of_units, of_atoms, of_abstractions, of_pairs, of_applications}
use Rattle.run.proofs.Tops.{of_different, view}

-- A top is a suspension, or it is not.
pub data Root : Form Table Side → Type 0 where
  suspended : (P : Table) (X : ℕ) → Root (suspension_form P X)
  otherwise : {w : Form Table Side} → kind w ≢ 5 → Root w

other : (w : Form Table Side) → kind w < 5 → Root w
other w h = otherwise {w = w} (λ e. omega arith)

pub root : (w : Form Table Side) → Root w
root unit_form = other unit_form (omega arith)
root (atom_form a) = other (atom_form a) (omega arith)
root (abstraction_form a s) = other (abstraction_form a s) (omega arith)
root (pair_form l r) = other (pair_form l r) (omega arith)
root (application_form f s) = other (application_form f s) (omega arith)
root (suspension_form P X) = suspended P X

-- The form is no suspension of X.
abbrev pub NotOf : ℕ → Form Table Side → Type 0
NotOf X w = (Q : Table) → w ≢ suspension_form Q X

-- Whether X occurs in the side "looked at through all bindings".
abbrev pub occurs_side : Ground → List Binding → ℕ → Side → Bool
occurs_side g bs X t = occurs_in X (substitute (meaning g.nodes bs) (side_tree g.nodes t))

-- What a step did with the resolved sides s and t, by their tops.
pub data Did (g : Ground) (bs : List Binding) (s t : Side) : Form Table Side → Form Table Side → Step → Type 0 where
  two_units : Did g bs s t unit_form unit_form done
  same_atoms : {a : ℕ} → Did g bs s t (atom_form a) (atom_form a) done
  same_abstractions : {a : ℕ} {u v : Side} → Did g bs s t (abstraction_form a u) (abstraction_form a v) (goes_on ((u, v) ∷ []) [] [])
  other_abstractions : {a b : ℕ} {u v : Side} → a ≢ b
      → Did g bs s t (abstraction_form a u) (abstraction_form b v) (goes_on ((u, under_swap a b v) ∷ []) [] ((a, of_side v) ∷ []))
  two_pairs : {l r v w : Side} → Did g bs s t (pair_form l r) (pair_form v w) (goes_on ((l, v) ∷ (r, w) ∷ []) [] [])
  same_symbols : {f : ℕ} {u v : Side} → Did g bs s t (application_form f u) (application_form f v) (goes_on ((u, v) ∷ []) [] [])
  from_one_variable : {P Q : Table} {X : ℕ}
      → Did g bs s t (suspension_form P X) (suspension_form Q X) (goes_on [] [] (map (λ a. (a, of_variable X)) (disagreement P Q)))
  left_bound : {P : Table} {X : ℕ} {w : Form Table Side} → NotOf X w → g.protected X ≡ false → occurs_side g bs X t ≡ false
      → Did g bs s t (suspension_form P X) w (goes_on [] ((X, under (inverted P) t) ∷ []) [])
  right_bound : {v : Form Table Side} {Q : Table} {Y : ℕ} → NotOf Y v → ((P : Table) (X : ℕ) → v ≡ suspension_form P X → g.protected X ≡ true)
      → g.protected Y ≡ false
      → occurs_side g bs Y s ≡ false → Did g bs s t v (suspension_form Q Y) (goes_on [] ((Y, under (inverted Q) s) ∷ []) [])
  left_inside : {P : Table} {X : ℕ} {w : Form Table Side} → NotOf X w → g.protected X ≡ false → occurs_side g bs X t ≡ true
      → Did g bs s t (suspension_form P X) w (refuses inside)
  right_inside : {v : Form Table Side} {Q : Table} {Y : ℕ} → NotOf Y v → ((P : Table) (X : ℕ) → v ≡ suspension_form P X → g.protected X ≡ true)
      → g.protected Y ≡ false
      → occurs_side g bs Y s ≡ true → Did g bs s t v (suspension_form Q Y) (refuses inside)
  left_protected : {P : Table} {X : ℕ} {w : Form Table Side} → kind w ≢ 5 → g.protected X ≡ true → Did g bs s t (suspension_form P X) w (refuses protection)
  right_protected : {v : Form Table Side} {Q : Table} {Y : ℕ} → kind v ≢ 5 → g.protected Y ≡ true → Did g bs s t v (suspension_form Q Y) (refuses protection)
  both_protected : {P Q : Table} {X Y : ℕ} → X ≢ Y → g.protected X ≡ true → g.protected Y ≡ true
      → Did g bs s t (suspension_form P X) (suspension_form Q Y) (refuses protection)
  different_forms : {v w : Form Table Side} → kind v ≢ 5 → kind w ≢ 5 → kind v ≢ kind w → Did g bs s t v w (refuses clash)
  different_atoms : {a b : ℕ} → a ≢ b → Did g bs s t (atom_form a) (atom_form b) (refuses clash)
  different_symbols : {f h : ℕ} {u v : Side} → f ≢ h → Did g bs s t (application_form f u) (application_form h v) (refuses clash)

-- Split a conditional, keeping what was decided.
pub either : (P : Step → Type 0) (c : Bool) (x y : Step) → (c ≡ true → P x) → (c ≡ false → P y) → P (cond c x y)
either P true x y f g = f refl
either P false x y f g = g refl

pub not_of : (X : ℕ) (w : Form Table Side) → kind w ≢ 5 → NotOf X w
not_of X w n Q e = n (rw e)

no_variable : (g : Ground) (v : Form Table Side) → kind v ≢ 5 → (P : Table) (X : ℕ) → v ≡ suspension_form P X → g.protected X ≡ true
no_variable g v n P X e = absurd (not_of X v n P e)

module _ (g : Ground) (bs : List Binding) (s t : Side) where
  left_one : (P : Table) (X : ℕ) (w : Form Table Side) → NotOf X w → g.protected X ≡ false → Did g bs s t (suspension_form P X) w (bound g bs P X t)
  unfolding bound
  left_one P X w n p = either (Did g bs s t (suspension_form P X) w) (occurs_side g bs X t) _ _ (left_inside n p) (left_bound n p)

  left_did : (P : Table) (X : ℕ) (w : Form Table Side) → kind w ≢ 5 → Did g bs s t (suspension_form P X) w (one_variable g bs P X t)
  unfolding one_variable
  left_did P X w n = either (Did g bs s t (suspension_form P X) w) (g.protected X) _ _ (left_protected n) (left_one P X w (not_of X w n))

  right_one : (v : Form Table Side) (Q : Table) (Y : ℕ) → NotOf Y v → ((P : Table) (X : ℕ) → v ≡ suspension_form P X → g.protected X ≡ true)
      → g.protected Y ≡ false
      → Did g bs s t v (suspension_form Q Y) (bound g bs Q Y s)
  unfolding bound
  right_one v Q Y n m p = either (Did g bs s t v (suspension_form Q Y)) (occurs_side g bs Y s) _ _ (right_inside n m p) (right_bound n m p)

  right_did : (v : Form Table Side) (Q : Table) (Y : ℕ) → kind v ≢ 5 → Did g bs s t v (suspension_form Q Y) (one_variable g bs Q Y s)
  unfolding one_variable
  right_did v Q Y n =
      either (Did g bs s t v (suspension_form Q Y)) (g.protected Y) _ _ (right_protected n) (right_one v Q Y (not_of Y v n) (no_variable g v n))

  two_did : (P : Table) (X : ℕ) (Q : Table) (Y : ℕ) → Did g bs s t (suspension_form P X) (suspension_form Q Y) (two_variables g bs P X s Q Y t)
  unfolding two_variables one_variable
  two_did P X Q Y =
      either (Did g bs s t (suspension_form P X) (suspension_form Q Y)) (eqb X Y) _ _
      (λ e. rw (eqb-true X Y e) from_one_variable) λ e.
      let n : X ≢ Y = eqb-false X Y e in
      either (Did g bs s t (suspension_form P X) (suspension_form Q Y)) (g.protected X) _ _
      (λ p. either (Did g bs s t (suspension_form P X) (suspension_form Q Y)) (g.protected Y) _ _ (both_protected n p)
      (right_one (suspension_form P X) Q Y (λ R q. n (cc)) (λ R Z q. let z : Z ≡ X = cc in rw z p)))
      (left_one P X (suspension_form Q Y) (λ R q. n (cc)))

  abstractions_did : (a : ℕ) (u : Side) (b : ℕ) (v : Side) → Did g bs s t (abstraction_form a u) (abstraction_form b v) (abstractions a u b v)
  unfolding abstractions
  abstractions_did a u b v =
      either (Did g bs s t (abstraction_form a u) (abstraction_form b v)) (eqb a b) _ _ (λ e. rw (eqb-true a b e) same_abstractions)
      (λ e. other_abstractions (eqb-false a b e))

  fitting_did : {v w : Form Table Side} {x : Tops Table Side} → View v w x → Did g bs s t v w (fitting g bs s t x)
  fitting_did {x = two_suspensions P X Q Y} of_suspensions = two_did P X Q Y
  fitting_did {w = w} {x = left_suspension P X} (on_the_left n) = left_did P X w n
  fitting_did {v = v} {x = right_suspension Q Y} (on_the_right n) = right_did v Q Y n
  fitting_did of_units = two_units
  fitting_did {x = two_atoms a b} of_atoms =
      either (Did g bs s t (atom_form a) (atom_form b)) (eqb a b) _ _ (λ e. rw (eqb-true a b e) same_atoms) (λ e. different_atoms (eqb-false a b e))
  fitting_did {x = two_abstractions a u b v} of_abstractions = abstractions_did a u b v
  fitting_did of_pairs = two_pairs
  fitting_did {x = two_applications f u h v} of_applications =
      either (Did g bs s t (application_form f u) (application_form h v)) (eqb f h) _ _ (λ e. rw (eqb-true f h e) same_symbols)
      (λ e. different_symbols (eqb-false f h e))
  fitting_did {v = v} {w = w} (of_different h k n) = different_forms {v = v} {w = w} h k n

  pub rule_did : (v w : Form Table Side) → Did g bs s t v w (rule g bs s t v w)
  rule_did v w = fitting_did (view v w)

pub step_did : (g : Ground) (bs : List Binding) (l r : Side)
    → Did g bs (resolved g bs l) (resolved g bs r) (top g (resolved g bs l)) (top g (resolved g bs r)) (step g bs l r)
unfolding step
step_did g bs l r = rule_did g bs (resolved g bs l) (resolved g bs r) (top g (resolved g bs l)) (top g (resolved g bs r))
