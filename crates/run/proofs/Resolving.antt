-- As often as there are bindings is enough to resolve a side, in whatever order they are, if there is no circle: a binding that was used is not met
-- again, so the others settle what comes of it.
use Prim.Native.Nat.{ℕ, zero, suc, ◌≤◌, ◌<◌}
use native.Mathlib.Omega.{arith}
use mathlib.Core.Path.{◌≡◌, refl, sym, ◌∙◌}
use mathlib.Core.Logic.{◌≢◌}
use mathlib.Core.Bool.{cond}
use mathlib.Core.List.{List, [], ◌∷◌}
use mathlib.Core.Option.{Option, none, some}
use lib.ListN.{length}
use lib.Dec.{eqb}
use borrow.Author.Tests.{eq-eqb, ne_eqb}
use Rattle.permutation.specs.Table.{Table}
use Rattle.names.proofs.Equal.{by_eq}
use Rattle.problem.specs.Problem.{Form, suspension_form, Node, form_at}
use Rattle.problem.specs.Readable.{Named}
use Rattle.run.specs.Meaning.{Side, Binding}
use Rattle.run.specs.Run.{Ground, top, value_of, under, replacement, replaced, resolved_in, resolved}
use Rattle.run.specs.Circle.{Fits, Leads, Path, last, NoCircle}
use Rattle.run.proofs.Did.{Root, suspended, otherwise, root}
use Rattle.run.proofs.Bindings.{by_value, Settled, top_under, replaced_other, settled_other, root_occurs, resolved_in_keeps}
use Rattle.run.proofs.Paths.{path_join, path_map}

-- ---- the bindings of other variables

abbrev without : ℕ → List Binding → List Binding
without X [] = []
without X (b ∷ bs) = cond (eqb X b.variable) (without X bs) (b ∷ without X bs)

without_same : (X : ℕ) (bs : List Binding) → value_of (without X bs) X ≡ none
without_same X [] = refl
without_same X (b ∷ bs) =
    by_eq X b.variable (λ e. rw (eq-eqb X b.variable e) (without_same X bs))
    (λ n. rw (ne_eqb X b.variable n) (rw (ne_eqb X b.variable n) (without_same X bs)))

without_other : (X Y : ℕ) → Y ≢ X → (bs : List Binding) → value_of (without X bs) Y ≡ value_of bs Y
without_other X Y n [] = refl
without_other X Y n (b ∷ bs) =
    by_eq X b.variable
    (λ e. rw (eq-eqb X b.variable e, ne_eqb Y b.variable (λ q. n (q ∙ sym e))) (without_other X Y n bs))
    (λ k. rw (ne_eqb X b.variable k)
    (by_eq Y b.variable (λ e. rw (eq-eqb Y b.variable e)) (λ l. rw (ne_eqb Y b.variable l) (without_other X Y n bs))))

without_fewer : (X : ℕ) (bs : List Binding) → length (without X bs) ≤ length bs
without_fewer X [] = omega arith
without_fewer X (b ∷ bs) =
    by_eq X b.variable (λ e. rw (eq-eqb X b.variable e) (omega (arith, without_fewer X bs)))
    (λ n. rw (ne_eqb X b.variable n) (omega (arith, without_fewer X bs)))

without_less : (X : ℕ) (v : Side) (bs : List Binding) → value_of bs X ≡ some v → length (without X bs) < length bs
without_less X v [] h = absurd (let z : ◌≡◌ {A = ℕ} 0 1 = cc in omega arith)
without_less X v (b ∷ bs) h =
    by_eq X b.variable (λ e. rw (eq-eqb X b.variable e) (omega (arith, without_fewer X bs)))
    (λ n. rw (ne_eqb X b.variable n) (omega (arith, without_less X v bs (rw (ne_eqb X b.variable n) at h))))

-- What they bind is bound.
without_value : (X Y : ℕ) (v : Side) (bs : List Binding) → value_of (without X bs) Y ≡ some v → value_of bs Y ≡ some v
without_value X Y v bs h =
    by_eq Y X (λ e. absurd (let z : ◌≡◌ {A = ℕ} 0 1 = cc (without_same X bs) in omega arith)) (λ n. sym (without_other X Y n bs) ∙ h)

circle_without : (nodes : List Node) (bs : List Binding) (X : ℕ) → NoCircle nodes bs → NoCircle nodes (without X bs)
circle_without nodes bs X no_circle Y p = no_circle Y (path_map (λ W Z l. (l.0, without_value X W l.0 bs l.1, l.2)) p)

-- ---- resolving

replacement_same : (s : Side) (P : Table) (f h : Side → Side) (o o' : Option Side) → o ≡ o'
    → ((v : Side) → o ≡ some v → f (under P v) ≡ h (under P v)) → replacement o s P f ≡ replacement o' s P h
replacement_same s P f h none o' e k = rw (← e)
replacement_same s P f h (some v) o' e k = rw (← e) (k v refl)

module _ (g : Ground) (variables : ℕ) (named : (n : ℕ) → Named g.atoms variables n (form_at g.nodes n)) where
  -- Values are sides.
  abbrev Fitting : List Binding → Type 0
  Fitting bs = (X : ℕ) (v : Side) → value_of bs X ≡ some v → Fits g.atoms g.nodes v

  module _ (bs : List Binding) (fits : Fitting bs) where
    -- The variable at the side's root is met from X.
    abbrev From : ℕ → Side → Type 0
    From X t = (R : Table) (Z : ℕ) → top g t ≡ suspension_form R Z → Path (Leads g.nodes bs) X Z

    from_value : (X : ℕ) (P : Table) (v : Side) → value_of bs X ≡ some v → From X (under P v)
    from_value X P v e R Z q = let (Q, k) = top_under g P v R Z q in last (v, e, root_occurs g variables named v Q Z (fits X v e) k)

    from_next : (X : ℕ) (s : Side) (P : Table) (Y : ℕ) (v : Side) → From X s → top g s ≡ suspension_form P Y → value_of bs Y ≡ some v → From X (under P v)
    from_next X s P Y v f e q R Z r = path_join (f P Y e) (from_value Y P v q R Z r)

    module _ (no_circle : NoCircle g.nodes bs) where
      -- So X is not met again.
      agrees : (X : ℕ) (t : Side) → From X t → (on on' : Side → Side) → ((u : Side) → From X u → on u ≡ on' u) → {w : Form Table Side} → Root w → top g t ≡ w
          → replaced bs t w on ≡ replaced (without X bs) t w on'
      agrees X t f on on' k (suspended P Y) e =
          replacement_same t P on on' (value_of bs Y) (value_of (without X bs) Y) (sym (without_other X Y (λ q. no_circle X (rw q at (f P Y e))) bs))
          (λ v q. k (under P v) (from_next X t P Y v f e q))
      agrees X t f on on' k {w} (otherwise n) e = replaced_other bs t on w n ∙ sym (replaced_other (without X bs) t on' w n)

      resolved_in_agrees : (k X : ℕ) (t : Side) → From X t → resolved_in k g bs t ≡ resolved_in k g (without X bs) t
      unfolding resolved_in
      resolved_in_agrees zero X t f = refl
      resolved_in_agrees (suc k) X t f =
          agrees X t f (λ u. resolved_in k g bs u) (λ u. resolved_in k g (without X bs) u) (λ u h. resolved_in_agrees k X u h) (root (top g t)) refl

      -- What the other bindings settle is settled.
      settled_back : (k X : ℕ) (t : Side) → From X t → Settled (without X bs) (top g (resolved_in k g (without X bs) t))
          → Settled bs (top g (resolved_in k g bs t))
      settled_back k X t f h P Z e =
          let p : Path (Leads g.nodes bs) X Z = resolved_in_keeps g bs (From X) (λ s P Y v r q j. from_next X s P Y v r q j) k t f P Z e in
          sym (without_other X Z (λ q. no_circle X (rw q at p)) bs) ∙ h P Z (rw (resolved_in_agrees k X t f) at e)

      settled_first : (k : ℕ) (s : Side)
          → ((X : ℕ) (v : Side) → value_of bs X ≡ some v → (t : Side) → Settled (without X bs) (top g (resolved_in k g (without X bs) t)))
          → {w : Form Table Side} → Root w → top g s ≡ w → Settled bs (top g (replaced bs s w (λ t. resolved_in k g bs t)))
      settled_first k s ih (suspended P X) e =
          by_value (value_of bs X)
          (λ q. rw (q, e) (λ Q Z z. let y : Z ≡ X = cc in rw y q))
          (λ v q. rw q (settled_back k X (under P v) (from_value X P v q) (ih X v q (under P v))))
      settled_first k s ih {w} (otherwise n) e = rw (replaced_other bs s (λ t. resolved_in k g bs t) w n, e) (settled_other bs w n)

  settled_within : (k : ℕ) (bs : List Binding) → length bs ≤ k → Fitting bs → NoCircle g.nodes bs → (s : Side)
      → Settled bs (top g (resolved_in k g bs s))
  unfolding resolved_in
  settled_within zero [] h fits no_circle s = λ P X e. refl
  settled_within zero (b ∷ bs) h fits no_circle s = absurd (omega arith)
  settled_within (suc k) bs h fits no_circle s =
      settled_first bs fits no_circle k s
      (λ X v q. settled_within k (without X bs) (omega (arith, without_less X v bs q)) (λ Y u y. fits Y u (without_value X Y u bs y))
      (circle_without g.nodes bs X no_circle))
      (root (top g s)) refl

  pub settles_any : (bs : List Binding) → Fitting bs → NoCircle g.nodes bs → (s : Side) → Settled bs (top g (resolved g bs s))
  unfolding resolved
  settles_any bs fits no_circle s = settled_within (length bs) bs (omega arith) fits no_circle s
