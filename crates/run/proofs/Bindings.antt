-- The meaning of bindings. One record says all that is used of bindings and the substitution that they mean; it knows no order. It holds of no
-- bindings, and one more binding keeps it: in any place, if it is not on a circle with those before it and sides are settled, and so as the run makes it.
use Prim.Native.Nat.{ℕ, zero, suc, ◌<◌}
use native.Mathlib.Omega.{arith}
use native.Mathlib.Numerals.{add-one}
use mathlib.Core.Path.{◌≡◌, refl, sym, ◌∙◌, ap}
use mathlib.Core.Logic.{◌≢◌, ◌↔◌}
use mathlib.Core.List.{List, [], ◌∷◌, ◌++◌}
use mathlib.Core.Option.{Option, none, some}
use lib.ListN.{length, length-append}
use borrow.Author.Tests.{eq-eqb, ne_eqb}
use Rattle.permutation.specs.Swaps.{Swaps, Alike}
use Rattle.permutation.specs.Table.{Table, after, of_swaps, swaps_of}
use Rattle.names.proofs.Equal.{by_eq}
use Rattle.nominal.specs.Tree.{Tree, suspension, variable, Occurs, Substitution, substitute, composed, replacing}
use Rattle.nominal.specs.Figure2.{Environment, ◌⊢◌≈◌}
use Rattle.nominal.specs.Solutions.{Satisfies, Idempotent}
use Rattle.nominal.proofs.Tree.{permute_nil, substitute_permute, substitute_variable, substitute_composed, substitute_agree, occurs_substitute}
use Rattle.nominal.proofs.Tree.{occurs_substituted}
use Rattle.nominal.proofs.Laws.{equal_symmetric, equal_transitive, equal_reflexive}
use Rattle.nominal.proofs.Solutions.{satisfies_tree}
use Rattle.nominal.proofs.Replacing.{replacing_same, replacing_other, replacing_absent, extended_same, extended_other, extended_tree, extended_satisfied}
use Rattle.problem.specs.Problem.{Form, unit_form, atom_form, abstraction_form, pair_form, application_form, suspension_form, Node, form_at}
use Rattle.problem.specs.Readable.{Named}
use Rattle.run.specs.Meaning.{Side, side_tree, Binding, meaning_after, meaning}
use Rattle.run.specs.Run.{Ground, permuted, top, value_of, under, replaced, resolved_in, resolved}
use Rattle.nominal.specs.Same.{Same}
use Rattle.run.proofs.Same.{same_reflexive, same_symmetric, same_transitive, same_permute, same_substitute, same_equal}
use Rattle.run.proofs.Tops.{kind}
use Rattle.run.proofs.Did.{Root, suspended, otherwise, root, not_of}
use Rattle.run.proofs.Trees.{Permuting, Fits, fits_under, tree_under, act_permuting, Shows, TopFits, top_shows, top_fits, NamedTree, named_substitute}
use Rattle.run.proofs.Trees.{named_side}

-- ---- the value of a variable

-- Split on whether a variable is bound.
pub by_value : (o : Option Side) {R : Type 0} → (o ≡ none → R) → ((v : Side) → o ≡ some v → R) → R
by_value none f g = f refl
by_value (some v) f g = g v refl

abbrev pub first : Option Side → Option Side → Option Side
first none o = o
first (some v) o = some v

pub value_of_append : (bs cs : List Binding) (X : ℕ) → value_of (bs ++ cs) X ≡ first (value_of bs X) (value_of cs X)
value_of_append [] cs X = refl
value_of_append (b ∷ bs) cs X =
    by_eq X b.variable (λ e. rw (eq-eqb X b.variable e)) (λ n. rw (ne_eqb X b.variable n) (value_of_append bs cs X))

-- A bound variable stays bound to its value.
pub value_of_kept : (bs cs : List Binding) (X : ℕ) (v : Side) → value_of bs X ≡ some v → value_of (bs ++ cs) X ≡ some v
value_of_kept bs cs X v e = value_of_append bs cs X ∙ rw e

module _ (bs : List Binding) (b : Binding) where
  pub value_of_new : value_of bs b.variable ≡ none → value_of (bs ++ (b ∷ [])) b.variable ≡ some b.value
  value_of_new e = value_of_append bs (b ∷ []) b.variable ∙ rw (e, eq-eqb b.variable b.variable refl)

  pub value_of_other : (X : ℕ) → X ≢ b.variable → value_of (bs ++ (b ∷ [])) X ≡ value_of bs X
  value_of_other X n = value_of_append bs (b ∷ []) X ∙ by_value (value_of bs X) (λ e. rw (e, ne_eqb X b.variable n)) (λ v e. rw e)

  -- What was bound is what was bound before, and the new variable.
  pub value_of_split : {R : Type 0} (X : ℕ) (v : Side) → value_of (bs ++ (b ∷ [])) X ≡ some v → value_of bs b.variable ≡ none → (value_of bs X ≡ some v → R)
      → (X ≡ b.variable → v ≡ b.value → R) → R
  value_of_split X v e free old new =
      by_eq X b.variable
      (λ q. new q (let k : value_of (bs ++ (b ∷ [])) X ≡ some b.value = rw q (value_of_new free) in cc))
      (λ n. old (sym (value_of_other X n) ∙ e))

-- What was unbound is what still is, and the new variable.
pub value_of_unbound : (bs cs : List Binding) (X : ℕ) → value_of (bs ++ cs) X ≡ none → value_of bs X ≡ none
value_of_unbound bs cs X e =
    by_value (value_of bs X) (λ q. q) (λ v q. absurd (let z : ◌≡◌ {A = ℕ} 0 1 = cc (value_of_kept bs cs X v q) in omega arith))

-- ---- the record

-- The form is no suspension of a bound variable.
abbrev pub Settled : List Binding → Form Table Side → Type 0
Settled bs w = (P : Table) (X : ℕ) → w ≡ suspension_form P X → value_of bs X ≡ none

-- The pair takes each bound variable and its value for equal: bindings read as equations.
abbrev pub Lines : Environment → Substitution → List Node → List Binding → Type 0
Lines ∇ τ nodes bs = (X : ℕ) (v : Side) → value_of bs X ≡ some v → ∇ ⊢ τ X ≈ substitute τ (side_tree nodes v)

-- σ is what the bindings mean: "to replace bound variables until none is left".
pub record Meant (g : Ground) (variables : ℕ) (bs : List Binding) (σ : Substitution) : Type 1 where
  -- Bound variables are there, and their values are sides.
  pub few : (X : ℕ) (v : Side) → value_of bs X ≡ some v → X < variables
  pub fits : (X : ℕ) (v : Side) → value_of bs X ≡ some v → Fits g.atoms g.nodes v
  -- An unbound variable stands for itself, a bound one for its value, and no bound variable is left.
  pub free : (X : ℕ) → value_of bs X ≡ none → σ X ≡ variable X
  pub worth : (X : ℕ) (v : Side) → value_of bs X ≡ some v → σ X ≡ substitute σ (side_tree g.nodes v)
  pub gone : (X Y : ℕ) → Occurs Y (σ X) → value_of bs Y ≡ none
  pub named : (X : ℕ) → X < variables → NamedTree g.atoms variables (σ X)
  -- "No value contains its own variable."
  pub apart : (X : ℕ) (v : Side) → value_of bs X ≡ some v → Occurs X (side_tree g.nodes v) → ⊥
  -- As often as there are bindings is enough to resolve a side.
  pub settles : (s : Side) → Settled bs (top g (resolved g bs s))
  -- Who takes each bound variable and its value for equal takes each variable and its meaning for equal.
  pub follows : (∇ : Environment) (τ : Substitution) → Lines ∇ τ g.nodes bs → Satisfies ∇ τ σ
  pub absorbs : (τ : Substitution) → ((X : ℕ) (v : Side) → value_of bs X ≡ some v → τ X ≡ substitute τ (side_tree g.nodes v)) → (X : ℕ)
      → τ X ≡ substitute τ (σ X)

module _ {g : Ground} {variables : ℕ} {bs : List Binding} {σ : Substitution} (m : Meant g variables bs σ) where
  -- A substitution that leaves unbound variables as they are leaves σX as it is.
  fixed : (τ : Substitution) → ((X : ℕ) → value_of bs X ≡ none → τ X ≡ variable X) → (X : ℕ) → substitute τ (σ X) ≡ σ X
  fixed τ h X = substitute_agree τ variable (σ X) (λ Y o. h Y (m.gone X Y o)) ∙ substitute_variable (σ X)

  -- The substitution done twice is itself.
  pub meant_idempotent : Idempotent σ
  meant_idempotent = fixed σ m.free

  -- It is the only one of which the two equations hold.
  pub meant_only : (τ : Substitution) → ((X : ℕ) → value_of bs X ≡ none → τ X ≡ variable X)
      → ((X : ℕ) (v : Side) → value_of bs X ≡ some v → τ X ≡ substitute τ (side_tree g.nodes v))
      → (X : ℕ) → τ X ≡ σ X
  meant_only τ h k X = m.absorbs τ k X ∙ fixed τ h X

  pub meant_gone : (Y : ℕ) (t : Tree) → Occurs Y (substitute σ t) → value_of bs Y ≡ none
  meant_gone Y t o = let k = occurs_substitute σ Y t o in m.gone k.0 Y k.2

  -- And the other way round: who takes each variable and its meaning for equal takes each bound variable and its value for equal.
  pub meant_lines : {∇ : Environment} (τ : Substitution) → Satisfies ∇ τ σ → Lines ∇ τ g.nodes bs
  meant_lines τ h X v e = equal_transitive (rw (m.worth X v e) at (h X)) (equal_symmetric (satisfies_tree τ σ h (side_tree g.nodes v)))

  -- So bindings may be read as equations.
  pub meant_equations : (∇ : Environment) (τ : Substitution) → Satisfies ∇ τ σ ↔ Lines ∇ τ g.nodes bs
  meant_equations ∇ τ = (meant_lines τ, m.follows ∇ τ)

-- ---- resolving

-- The variable at a side's root is the same under any permutation.
pub top_under : (g : Ground) (P : Table) (v : Side) (R : Table) (Z : ℕ) → top g (under P v) ≡ suspension_form R Z
    → (Q : Table) × (top g v ≡ suspension_form Q Z)
unfolding top
top_under g P v R Z = by_form (form_at g.nodes v.node)
  where
    by_form : (f : Node) → permuted g.atoms (after P v.images) f ≡ suspension_form R Z
        → (Q : Table) × (permuted g.atoms v.images f ≡ suspension_form Q Z)
    by_form unit_form e = ([], cc)
    by_form (atom_form a) e = ([], cc)
    by_form (abstraction_form a n) e = ([], cc)
    by_form (pair_form l r) e = ([], cc)
    by_form (application_form h n) e = ([], cc)
    by_form (suspension_form π X) e = (after v.images (of_swaps g.atoms π), ap (suspension_form (after v.images (of_swaps g.atoms π))) (cc))

-- Only a suspension is replaced.
pub replaced_other : (bs : List Binding) (s : Side) (onward : Side → Side) (w : Form Table Side) → kind w ≢ 5 → replaced bs s w onward ≡ s
replaced_other bs s onward unit_form n = refl
replaced_other bs s onward (atom_form a) n = refl
replaced_other bs s onward (abstraction_form a t) n = refl
replaced_other bs s onward (pair_form t u) n = refl
replaced_other bs s onward (application_form f t) n = refl
replaced_other bs s onward (suspension_form P X) n = absurd (n refl)

pub settled_other : (bs : List Binding) (w : Form Table Side) → kind w ≢ 5 → Settled bs w
settled_other bs w n P X e = absurd (not_of X w n P e)

module _ (g : Ground) (bs : List Binding) where
  -- One replacement keeps R, so resolving does.
  module _ (R : Side → Type 0)
      (once : (s : Side) (P : Table) (X : ℕ) (v : Side) → R s → top g s ≡ suspension_form P X → value_of bs X ≡ some v → R (under P v)) where
    replaced_keeps : (s : Side) → R s → (onward : Side → Side) → ((t : Side) → R t → R (onward t)) → {w : Form Table Side} → Root w → top g s ≡ w
        → R (replaced bs s w onward)
    replaced_keeps s r onward k (suspended P X) e = by_value (value_of bs X) (λ q. rw q r) (λ v q. rw q (k (under P v) (once s P X v r e q)))
    replaced_keeps s r onward k {w} (otherwise n) e = rw (replaced_other bs s onward w n) r

    pub resolved_in_keeps : (k : ℕ) (s : Side) → R s → R (resolved_in k g bs s)
    unfolding resolved_in
    resolved_in_keeps zero s r = r
    resolved_in_keeps (suc k) s r = replaced_keeps s r (λ t. resolved_in k g bs t) (λ t q. resolved_in_keeps k t q) (root (top g s)) refl

    pub resolved_keeps : (s : Side) → R s → R (resolved g bs s)
    unfolding resolved
    resolved_keeps s r = resolved_in_keeps (length bs) s r

  -- A settled side is resolved.
  replaced_settled : (s : Side) (onward : Side → Side) {w : Form Table Side} → Root w → Settled bs w → replaced bs s w onward ≡ s
  replaced_settled s onward (suspended P X) h = rw (h P X refl)
  replaced_settled s onward {w} (otherwise n) h = replaced_other bs s onward w n

  pub resolved_in_settled : (k : ℕ) (s : Side) → Settled bs (top g s) → resolved_in k g bs s ≡ s
  unfolding resolved_in
  resolved_in_settled zero s h = refl
  resolved_in_settled (suc k) s h = replaced_settled s (λ t. resolved_in k g bs t) (root (top g s)) h

-- One more binding takes at most one more replacement.
module _ (g : Ground) (bs : List Binding) (b : Binding) (free : value_of bs b.variable ≡ none) (apart : Settled (bs ++ (b ∷ [])) (top g b.value)) where
  settled_under : (P : Table) → Settled (bs ++ (b ∷ [])) (top g (under P b.value))
  settled_under P R Z e = let k = top_under g P b.value R Z e in apart k.0 Z k.1

  settled_once : (s : Side) (k : ℕ) {w : Form Table Side} → Root w → top g s ≡ w → Settled bs w
      → Settled (bs ++ (b ∷ [])) (top g (replaced (bs ++ (b ∷ [])) s w (λ t. resolved_in k g (bs ++ (b ∷ [])) t)))
  settled_once s k (suspended P X) e h =
      by_eq X b.variable
      (λ q. rw (q, value_of_new bs b free, resolved_in_settled g (bs ++ (b ∷ [])) k (under P b.value) (settled_under P)) (settled_under P))
      (λ n. rw (value_of_other bs b X n, h P X refl, e) (λ Q Y q. let z : Y ≡ X = cc in rw z (value_of_other bs b X n ∙ h P X refl)))
  settled_once s k {w} (otherwise n) e h =
      rw (replaced_other (bs ++ (b ∷ [])) s (λ t. resolved_in k g (bs ++ (b ∷ [])) t) w n, e) (settled_other (bs ++ (b ∷ [])) w n)

  settled_step : (s : Side) (k : ℕ)
      → ((t : Side) → Settled bs (top g (resolved_in k g bs t)) → Settled (bs ++ (b ∷ [])) (top g (resolved_in (suc k) g (bs ++ (b ∷ [])) t)))
      → {w : Form Table Side} → Root w → top g s ≡ w → Settled bs (top g (replaced bs s w (λ t. resolved_in k g bs t)))
      → Settled (bs ++ (b ∷ [])) (top g (replaced (bs ++ (b ∷ [])) s w (λ t. resolved_in (suc k) g (bs ++ (b ∷ [])) t)))
  settled_step s k ih (suspended P X) e h =
      by_value (value_of bs X)
      (λ q. settled_once s (suc k) (suspended P X) e (λ R Y y. let z : Y ≡ X = cc in rw (z, q)))
      (λ v q. rw (value_of_kept bs (b ∷ []) X v q) (ih (under P v) (rw q at h)))
  settled_step s k ih {w} (otherwise n) e h = settled_once s (suc k) (otherwise n) e (settled_other bs w n)

  settled_more : (k : ℕ) (s : Side) → Settled bs (top g (resolved_in k g bs s)) → Settled (bs ++ (b ∷ [])) (top g (resolved_in (suc k) g (bs ++ (b ∷ [])) s))
  unfolding resolved_in
  settled_more zero s h = settled_once s zero (root (top g s)) refl h
  settled_more (suc k) s h = settled_step s k (λ t. settled_more k t) (root (top g s)) refl h

  pub settled_resolved : (s : Side) → Settled bs (top g (resolved g bs s)) → Settled (bs ++ (b ∷ [])) (top g (resolved g (bs ++ (b ∷ [])) s))
  unfolding resolved
  settled_resolved s h = rw (length-append bs (b ∷ []), add-one (length bs)) (settled_more (length bs) s h)

module _ (g : Ground) (variables : ℕ) (named : (n : ℕ) → Named g.atoms variables n (form_at g.nodes n)) where
  -- A suspension at a side's root: its list of swaps is alike to its table's.
  pub top_suspension : (s : Side) (P : Table) (X : ℕ) → Fits g.atoms g.nodes s → top g s ≡ suspension_form P X
      → (ρ : Swaps) × (side_tree g.nodes s ≡ suspension ρ X) × Alike ρ (swaps_of P) × Permuting g.atoms P × (X < variables)
  top_suspension s P X f e =
      let k : TopFits g.atoms variables g.nodes s.node (suspension_form P X) = rw e at (top_fits g variables named s f) in
      let h : Shows g.nodes (side_tree g.nodes s) (suspension_form P X) = rw e at (top_shows g variables named s f.images) in
      (h.0, h.1, λ a. h.2 a ∙ sym (act_permuting k.0 a), k.0, k.1)

  -- Another variable than X at the root of a value in which X does not occur.
  pub root_occurs : (s : Side) (P : Table) (X : ℕ) → Fits g.atoms g.nodes s → top g s ≡ suspension_form P X → Occurs X (side_tree g.nodes s)
  root_occurs s P X f e = rw (top_suspension s P X f e).1 refl

  module _ {bs : List Binding} {σ : Substitution} (m : Meant g variables bs σ) where
    -- A suspension of a bound variable and its value under the permutations mean the same.
    value_same : (s : Side) (P : Table) (X : ℕ) (v : Side) → Fits g.atoms g.nodes s → top g s ≡ suspension_form P X → value_of bs X ≡ some v
        → Same (substitute σ (side_tree g.nodes s)) (substitute σ (side_tree g.nodes (under P v)))
    value_same s P X v f e q =
        let (ρ, t, a, p, l) = top_suspension s P X f e in
        rw (t, m.worth X v q)
        (same_transitive (same_permute ρ (swaps_of P) a (substitute σ (side_tree g.nodes v)))
        (rw substitute_permute at (same_symmetric (same_substitute σ (tree_under g.nodes p (m.fits X v q))))))

    -- So a side and the side resolved do.
    pub resolved_same : (s : Side) → Fits g.atoms g.nodes s
        → Fits g.atoms g.nodes (resolved g bs s) × Same (substitute σ (side_tree g.nodes s)) (substitute σ (side_tree g.nodes (resolved g bs s)))
    resolved_same s f =
        resolved_keeps g bs (λ t. Fits g.atoms g.nodes t × Same (substitute σ (side_tree g.nodes s)) (substitute σ (side_tree g.nodes t)))
        (λ t P X v r e q. (
          fits_under (top_suspension t P X r.0 e).3 (m.fits X v q),
          same_transitive r.1 (value_same t P X v r.0 e q),
        ))
        s (f, same_reflexive (substitute σ (side_tree g.nodes s)))

    pub resolved_fits : (s : Side) → Fits g.atoms g.nodes s → Fits g.atoms g.nodes (resolved g bs s)
    resolved_fits s f = (resolved_same s f).0

    -- Who takes each variable and its meaning for equal takes a side and the side resolved for equal.
    pub resolved_equal : {∇ : Environment} (τ : Substitution) → Satisfies ∇ τ σ → (s : Side) → Fits g.atoms g.nodes s
        → ∇ ⊢ substitute τ (side_tree g.nodes s) ≈ substitute τ (side_tree g.nodes (resolved g bs s))
    resolved_equal τ h s f =
        equal_transitive (satisfies_tree τ σ h (side_tree g.nodes s))
        (equal_transitive (same_equal (same_substitute τ (resolved_same s f).1))
        (equal_symmetric (satisfies_tree τ σ h (side_tree g.nodes (resolved g bs s)))))

  -- ---- no bindings, and one more

  pub meant_none : Meant g variables [] variable
  unfolding resolved resolved_in
  meant_none = record {
    few = λ X v e. absurd (let z : ◌≡◌ {A = ℕ} 0 1 = cc in omega arith);
    fits = λ X v e. absurd (let z : ◌≡◌ {A = ℕ} 0 1 = cc in omega arith);
    free = λ X e. refl;
    worth = λ X v e. absurd (let z : ◌≡◌ {A = ℕ} 0 1 = cc in omega arith);
    gone = λ X Y o. refl;
    named = λ X h. (h, tt);
    apart = λ X v e. absurd (let z : ◌≡◌ {A = ℕ} 0 1 = cc in omega arith);
    settles = λ s P X e. refl;
    follows = λ ∇ τ h X. rw permute_nil (equal_reflexive (τ X));
    absorbs = λ τ h X. sym (permute_nil (τ X));
  }

  -- What a binding in any place needs to have a meaning with those before it.
  pub record New (bs : List Binding) (σ : Substitution) (X : ℕ) (v : Side) : Type 0 where
    pub unbound : value_of bs X ≡ none
    pub small : X < variables
    pub fits : Fits g.atoms g.nodes v
    pub absent : Occurs X (substitute σ (side_tree g.nodes v)) → ⊥

  module _ {bs : List Binding} {σ : Substitution} (m : Meant g variables bs σ) (b : Binding) (s : New bs σ b.variable b.value) where
    abbrev worth' : Tree
    worth' = substitute σ (side_tree g.nodes b.value)

    abbrev σ' : Substitution
    σ' = composed (replacing b.variable worth') σ

    still : (Y : ℕ) → value_of bs Y ≡ none → Y ≢ b.variable → value_of (bs ++ (b ∷ [])) Y ≡ none
    still Y e n = value_of_other bs b Y n ∙ e

    free' : (X : ℕ) → value_of (bs ++ (b ∷ [])) X ≡ none → σ' X ≡ variable X
    free' X e =
        extended_other σ b.variable worth' X
        (λ q. absurd (let z : ◌≡◌ {A = ℕ} 0 1 = cc (value_of_new bs b s.unbound) in omega arith))
        (m.free X (value_of_unbound bs (b ∷ []) X e))

    new_worth : σ' b.variable ≡ substitute σ' (side_tree g.nodes b.value)
    new_worth =
        extended_same σ b.variable worth' (m.free b.variable s.unbound)
        ∙ sym (extended_tree σ b.variable worth' (side_tree g.nodes b.value) ∙ replacing_absent b.variable worth' worth' s.absent)

    old_worth : (X : ℕ) (v : Side) → value_of bs X ≡ some v → σ' X ≡ substitute σ' (side_tree g.nodes v)
    old_worth X v e =
        ap (substitute (replacing b.variable worth')) (m.worth X v e) ∙ substitute_composed (replacing b.variable worth') σ (side_tree g.nodes v)

    gone' : (X Y : ℕ) → Occurs Y (σ' X) → value_of (bs ++ (b ∷ [])) Y ≡ none
    gone' X Y o =
        let (W, k, j) = occurs_substitute (replacing b.variable worth') Y (σ X) o in
        by_eq W b.variable
        (λ q.
        let i : Occurs Y worth' = rw (q, replacing_same) at j in
        still Y (meant_gone m Y (side_tree g.nodes b.value) i) (λ y. s.absent (rw y at i)))
        (λ n.
        let i : Y ≡ W = rw (replacing_other b.variable worth' W n) at j in
        still Y (rw i (m.gone X W k)) (λ y. n (sym i ∙ y)))

    named' : (X : ℕ) → X < variables → NamedTree g.atoms variables (σ' X)
    named' X h =
        named_substitute g.atoms variables (replacing b.variable worth')
        (λ Y l. by_eq Y b.variable
        (λ q. rw (q, replacing_same)
        (named_substitute g.atoms variables σ m.named (side_tree g.nodes b.value)
        (named_side g.atoms variables g.nodes named b.value s.fits.images)))
        (λ n. rw (replacing_other b.variable worth' Y n) (l, tt)))
        (σ X) (m.named X h)

    new_apart : Occurs b.variable (side_tree g.nodes b.value) → ⊥
    new_apart o = s.absent (occurs_substituted σ b.variable b.variable (side_tree g.nodes b.value) o (rw (m.free b.variable s.unbound) refl))

    follows' : (∇ : Environment) (τ : Substitution) → Lines ∇ τ g.nodes (bs ++ (b ∷ [])) → Satisfies ∇ τ σ'
    follows' ∇ τ h =
        let k : Satisfies ∇ τ σ = m.follows ∇ τ (λ X v e. h X v (value_of_kept bs (b ∷ []) X v e)) in
        (extended_satisfied σ b.variable worth' τ (m.free b.variable s.unbound)).0
        (equal_transitive (h b.variable b.value (value_of_new bs b s.unbound)) (satisfies_tree τ σ k (side_tree g.nodes b.value)), k)

    absorbs' : (τ : Substitution) → ((X : ℕ) (v : Side) → value_of (bs ++ (b ∷ [])) X ≡ some v → τ X ≡ substitute τ (side_tree g.nodes v)) → (X : ℕ)
        → τ X ≡ substitute τ (σ' X)
    absorbs' τ h X =
        let k : (Y : ℕ) → τ Y ≡ substitute τ (σ Y) = m.absorbs τ (λ Y v e. h Y v (value_of_kept bs (b ∷ []) Y v e)) in
        let w : τ b.variable ≡ substitute τ worth' =
        h b.variable b.value (value_of_new bs b s.unbound) ∙ substitute_agree τ (composed τ σ) (side_tree g.nodes b.value) (λ Y o. k Y)
        ∙ sym (substitute_composed τ σ (side_tree g.nodes b.value)) in
        k X
        ∙ substitute_agree τ (composed τ (replacing b.variable worth')) (σ X)
        (λ Y o. by_eq Y b.variable (λ q. rw (q, replacing_same) w) (λ n. rw (replacing_other b.variable worth' Y n) (sym (permute_nil (τ Y)))))
        ∙ sym (substitute_composed τ (replacing b.variable worth') (σ X))

    pub meant_new : ((t : Side) → Settled (bs ++ (b ∷ [])) (top g (resolved g (bs ++ (b ∷ [])) t)))
        → Meant g variables (bs ++ (b ∷ [])) (composed (replacing b.variable (substitute σ (side_tree g.nodes b.value))) σ)
    meant_new settles' = record {
      few = λ X v e. value_of_split bs b X v e s.unbound (m.few X v) (λ q k. rw q s.small);
      fits = λ X v e. value_of_split bs b X v e s.unbound (m.fits X v) (λ q k. rw k s.fits);
      free = free';
      worth = λ X v e. value_of_split bs b X v e s.unbound (old_worth X v) (λ q k. rw (q, k) new_worth);
      gone = gone';
      named = named';
      apart = λ X v e. value_of_split bs b X v e s.unbound (m.apart X v) (λ q k. rw (q, k) new_apart);
      settles = settles';
      follows = follows';
      absorbs = absorbs';
    }

  -- "if X occurs in the right side, looked at through all bindings, 10; else X becomes ..": what is known of a binding when it is made.
  pub record Sound (bs : List Binding) (σ : Substitution) (X : ℕ) (v : Side) : Type 0 where
    pub unbound : value_of bs X ≡ none
    pub small : X < variables
    pub fits : Fits g.atoms g.nodes v
    pub absent : Occurs X (substitute σ (side_tree g.nodes v)) → ⊥
    pub settled : Settled bs (top g v)

  module _ {bs : List Binding} {σ : Substitution} (m : Meant g variables bs σ) (b : Binding) (s : Sound bs σ b.variable b.value) where
    -- X itself is not at the root of its value.
    not_at_root : Settled (bs ++ (b ∷ [])) (top g b.value)
    not_at_root P Z e =
        let f : value_of bs Z ≡ none = s.settled P Z e in
        value_of_other bs b Z (λ q. s.absent (rw ((top_suspension b.value P Z s.fits e).1, m.free Z f) (sym q))) ∙ f

    pub meant_more : Meant g variables (bs ++ (b ∷ [])) (composed (replacing b.variable (substitute σ (side_tree g.nodes b.value))) σ)
    meant_more =
        meant_new m b (record { unbound = s.unbound; small = s.small; fits = s.fits; absent = s.absent })
        (λ t. settled_resolved g bs b s.unbound not_at_root t (m.settles t))

-- The definition's meaning of one more binding.
meaning_after_more : (nodes : List Node) (σ : Substitution) (bs : List Binding) (b : Binding)
    → meaning_after nodes σ (bs ++ (b ∷ []))
    ≡ composed (replacing b.variable (substitute (meaning_after nodes σ bs) (side_tree nodes b.value))) (meaning_after nodes σ bs)
unfolding meaning_after
meaning_after_more nodes σ [] b = refl
meaning_after_more nodes σ (c ∷ bs) b = meaning_after_more nodes (composed (replacing c.variable (substitute σ (side_tree nodes c.value))) σ) bs b

pub meaning_more : (nodes : List Node) (bs : List Binding) (b : Binding)
    → meaning nodes (bs ++ (b ∷ [])) ≡ composed (replacing b.variable (substitute (meaning nodes bs) (side_tree nodes b.value))) (meaning nodes bs)
unfolding meaning
meaning_more nodes bs b = meaning_after_more nodes variable bs b
