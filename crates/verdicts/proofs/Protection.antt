-- A run asks which variables are protected only of variables that suspensions of its nodes name: runs under two protections that agree on these are the same.
-- So a set of variables serves as the definition's protection, also where the judge protects every variable.
use Prim.Native.Nat.{ℕ, zero, suc, ◌<◌}
use native.Mathlib.Omega.{arith}
use mathlib.Core.Path.{◌≡◌, refl, ◌∙◌, ap}
use mathlib.Core.Bool.{Bool, cond}
use mathlib.Core.List.{List, [], ◌∷◌, ◌++◌}
use mathlib.Core.Option.{Option, none, some}
use lib.ListN.{length}
use Rattle.permutation.specs.Table.{Table}
use Rattle.problem.specs.Problem.{Form, unit_form, atom_form, abstraction_form, pair_form, application_form, suspension_form, Node, form_at}
use Rattle.problem.specs.Readable.{Named}
use Rattle.run.specs.Meaning.{Side, Binding}
use Rattle.run.specs.Run.{Equation, Demand, Ground, permuted, top, value_of, under, replacement, replaced, resolved_in, resolved}
use Rattle.run.specs.Run.{Step, refuses, goes_on, bound, one_variable, two_variables, protection, fitting, rule, step}
use Rattle.run.specs.Tops.{Tops, two_suspensions, left_suspension, right_suspension}
use Rattle.run.proofs.Tops.{View, of_suspensions, on_the_left, on_the_right, of_units, of_atoms, of_abstractions, of_pairs, of_applications, of_different}
use Rattle.run.proofs.Tops.{view}
use Rattle.run.specs.Run.{End, pending, bindings, demands, next, run}

module _ (atoms : ℕ) (nodes : List Node) (variables : ℕ) (named : (n : ℕ) → Named atoms variables n (form_at nodes n)) (f h : ℕ → Bool)
    (agree : (X : ℕ) → X < variables → f X ≡ h X) where
  abbrev G : Ground
  G = record { atoms = atoms; nodes = nodes; protected = f }

  abbrev H : Ground
  H = record { atoms = atoms; nodes = nodes; protected = h }

  top_agrees : (s : Side) (P : Table) (X : ℕ) → top G s ≡ suspension_form P X → f X ≡ h X
  unfolding top
  top_agrees s P X e = go (form_at nodes s.node) (named s.node) e
    where
      go : (t : Node) → Named atoms variables s.node t → permuted atoms s.images t ≡ suspension_form P X → f X ≡ h X
      go unit_form n q = let z : ◌≡◌ {A = ℕ} 0 1 = cc in absurd (omega arith)
      go (atom_form a) n q = let z : ◌≡◌ {A = ℕ} 0 1 = cc in absurd (omega arith)
      go (abstraction_form a m) n q = let z : ◌≡◌ {A = ℕ} 0 1 = cc in absurd (omega arith)
      go (pair_form l r) n q = let z : ◌≡◌ {A = ℕ} 0 1 = cc in absurd (omega arith)
      go (application_form k m) n q = let z : ◌≡◌ {A = ℕ} 0 1 = cc in absurd (omega arith)
      go (suspension_form π Y) n q = let y : X ≡ Y = cc in agree X (omega (arith, n.0))

  replaced_alike : (bs : List Binding) (s : Side) (v : Form Table Side) (x y : Side → Side) → ((t : Side) → x t ≡ y t) → replaced bs s v x ≡ replaced bs s v y
  replaced_alike bs s unit_form x y k = refl
  replaced_alike bs s (atom_form a) x y k = refl
  replaced_alike bs s (abstraction_form a t) x y k = refl
  replaced_alike bs s (pair_form t u) x y k = refl
  replaced_alike bs s (application_form q t) x y k = refl
  replaced_alike bs s (suspension_form P X) x y k = by_value (value_of bs X)
    where
      by_value : (o : Option Side) → replacement o s P x ≡ replacement o s P y
      by_value none = refl
      by_value (some v) = k (under P v)

  resolved_alike : (k : ℕ) (bs : List Binding) (s : Side) → resolved_in k G bs s ≡ resolved_in k H bs s
  unfolding resolved_in top
  resolved_alike zero bs s = refl
  resolved_alike (suc k) bs s =
      replaced_alike bs s (permuted atoms s.images (form_at nodes s.node)) (resolved_in k G bs) (resolved_in k H bs) (λ t. resolved_alike k bs t)

  module _ (bs : List Binding) where
    one_alike : (P : Table) (X : ℕ) (t : Side) → f X ≡ h X → one_variable G bs P X t ≡ one_variable H bs P X t
    unfolding one_variable bound
    one_alike P X t e = ap (λ (b : Bool). cond b (refuses protection) (bound H bs P X t)) e

    two_alike : (P : Table) (X : ℕ) (s : Side) (Q : Table) (Y : ℕ) (t : Side) → f X ≡ h X → f Y ≡ h Y
        → two_variables G bs P X s Q Y t ≡ two_variables H bs P X s Q Y t
    unfolding two_variables bound
    two_alike P X s Q Y t e k = rw (e, one_alike Q Y s k)

    abbrev Agree : Form Table Side → Type 0
    Agree v = (P : Table) (X : ℕ) → v ≡ suspension_form P X → f X ≡ h X

    fitting_alike : (s t : Side) {v w : Form Table Side} {x : Tops Table Side} → View v w x → Agree v → Agree w → fitting G bs s t x ≡ fitting H bs s t x
    fitting_alike s t {x = two_suspensions P X Q Y} of_suspensions i j = two_alike P X s Q Y t (i P X refl) (j Q Y refl)
    fitting_alike s t {x = left_suspension P X} (on_the_left n) i j = one_alike P X t (i P X refl)
    fitting_alike s t {x = right_suspension Q Y} (on_the_right n) i j = one_alike Q Y s (j Q Y refl)
    fitting_alike s t of_units i j = refl
    fitting_alike s t of_atoms i j = refl
    fitting_alike s t of_abstractions i j = refl
    fitting_alike s t of_pairs i j = refl
    fitting_alike s t of_applications i j = refl
    fitting_alike s t (of_different l m n) i j = refl

    rule_tops : (s t : Side) → rule G bs s t (top G s) (top G t) ≡ rule H bs s t (top H s) (top H t)
    unfolding top
    rule_tops s t = fitting_alike s t (view (top G s) (top G t)) (top_agrees s) (top_agrees t)

    step_alike : (l r : Side) → step G bs l r ≡ step H bs l r
    unfolding step resolved
    step_alike l r =
        rule_tops (resolved_in (length bs) G bs l) (resolved_in (length bs) G bs r)
        ∙ ap (λ (s : Side). rule H bs s (resolved_in (length bs) G bs r) (top H s) (top H (resolved_in (length bs) G bs r))) (resolved_alike (length bs) bs l)
        ∙ ap (λ (t : Side). rule H bs (resolved_in (length bs) H bs l) t (top H (resolved_in (length bs) H bs l)) (top H t)) (resolved_alike (length bs) bs r)

  next_alike : (x y : List Equation → List Binding → List Demand → End)
      → ((es : List Equation) (bs : List Binding) (ds : List Demand) → x es bs ds ≡ y es bs ds)
      → (n : ℕ) (es : List Equation) (bs : List Binding) (ds : List Demand) (z : Step) → next x n es bs ds z ≡ next y n es bs ds z
  next_alike x y k n es bs ds (refuses r) = refl
  next_alike x y k n es bs ds (goes_on qs b d) = k (pending n qs ++ es) (bs ++ bindings n b) (ds ++ demands n d)

  pub run_alike : (k : ℕ) (es : List Equation) (bs : List Binding) (ds : List Demand) → run G k es bs ds ≡ run H k es bs ds
  unfolding run
  run_alike zero [] bs ds = refl
  run_alike zero (e ∷ es) bs ds = refl
  run_alike (suc k) [] bs ds = refl
  run_alike (suc k) (e ∷ es) bs ds =
      next_alike (λ es' bs' ds'. run G k es' bs' ds') (λ es' bs' ds'. run H k es' bs' ds') (λ es' bs' ds'. run_alike k es' bs' ds') e.number es bs ds
      (step G bs e.left e.right)
      ∙ ap (next (λ es' bs' ds'. run H k es' bs' ds') e.number es bs ds) (step_alike bs e.left e.right)
