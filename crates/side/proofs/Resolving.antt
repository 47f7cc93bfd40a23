-- The laws of resolving: what one turn of the loop does is what one turn of the definition does.
use Prim.Native.Nat.{ℕ, zero, suc, ◌+◌, ◌-◌, ◌≤◌, ◌<◌}
use native.Mathlib.Omega.{arith}
use mathlib.Core.Path.{◌≡◌, refl, sym, ◌∙◌, ap}
use mathlib.Core.Logic.{◌≢◌}
use mathlib.Core.Bool.{Bool, false}
use mathlib.Core.List.{List, [], ◌∷◌, map}
use mathlib.Core.Option.{none, some}
use lib.ListN.{length, length-map}
use Rattle.std.specs.Prelude.{Option, Some, None}
use Rattle.names.specs.declared.NodeId.{NodeId}
use Rattle.names.specs.declared.Variable.{Variable}
use Rattle.permutation.specs.Swaps.{Swaps, swaps_in}
use Rattle.permutation.specs.Table.{Table, image, identity, after, of_swaps}
use Rattle.permutation.specs.Store.{table, of_table}
use Rattle.permutation.specs.declared.Permutation.{Permutation}
use Rattle.permutation.proofs.Table.{table_extensional, image_map, image_identity, length_identity, length_after, length_of_swaps, of_swaps_none}
use Rattle.permutation.proofs.Store.{length_table, table_after, table_of_swaps}
use Rattle.sets.proofs.Bits.{by_member}
use Rattle.problem.specs.Problem.{Node, unit_form, atom_form, abstraction_form, pair_form, application_form, suspension_form}
use Rattle.problem.specs.Held.{problem_of}
use Rattle.problem.specs.Look.{form_now, form_told, own_swaps}
use Rattle.problem.specs.declared.Form.{Form}
use Rattle.problem.specs.declared.Form.TheVariants.{Unit, Atom, Abstraction, Pair, Application, Suspension}
use Rattle.run.specs.Meaning.{Side, Binding}
use Rattle.run.specs.Run.{Ground, permuted, top, under, replaced, resolved_in, resolved}
use Rattle.bindings.specs.Bindings.{Bindings, node_of, bindings_of, Keeps, found_at, value_in, side_of, LookedUp, NodesThere}
use Rattle.bindings.specs.declared.Value.{Value}
use Rattle.bindings.proofs.Laws.{value_of_set, length_bindings_of}
use Rattle.side.specs.Side.{ground_in, side_at, side_held, whole_of, Compound, value_told, is_bound, Valued, SideResolved}
use Rattle.side.specs.declared.Side.{Side as HeldSide}
use Rattle.side.proofs.Forms.{compound_valueless}

-- ---- a suspension under a side's images

pub whole_is : (s : List ℕ) (A : ℕ) (P : Table) (n : ℕ) (own r : Permutation) (π : Swaps) → own ≡ of_table (of_swaps A π) → π ≡ own_swaps (form_now s n)
    → r ≡ of_table (after P (table A own)) → table A r ≡ whole_of s A P n
unfolding whole_of
whole_is s A P n own r π e f g =
    ap (table A) g ∙ rw (e, table_of_swaps A π) (table_after A P (of_swaps A π) (length_of_swaps A π) ∙ rw f)

pub after_none : (A : ℕ) (P : Table) → length P ≡ A → after P (of_swaps A []) ≡ P
unfolding after
after_none A P l =
    rw (of_swaps_none A)
    (table_extensional (map (image P) (identity A)) P (length-map (identity A) (image P) ∙ length_identity A ∙ sym l) λ a h.
    let k : a < length (identity A) = rw length-map at h in image_map (image P) (identity A) a k ∙ ap (image P) (image_identity A a))

no_swaps : (w : List ℕ) → length w ≡ 0 → swaps_in w ≡ []
no_swaps [] e = refl
no_swaps (a ∷ w) e = absurd (omega arith)

-- A suspension without swaps.
pub whole_bare : (s : List ℕ) (A : ℕ) (p : Permutation) (n : ℕ) (w : List ℕ) → A ≤ 32 → length p.images ≡ 32
    → swaps_in w ≡ own_swaps (form_now s n) → length w ≡ 0 → table A p ≡ whole_of s A (table A p) n
unfolding whole_of
whole_bare s A p n w h l e z = rw (← e, no_swaps w z) (sym (after_none A (table A p) (length_table A p (omega arith))))

pub length_whole : (s : List ℕ) (A : ℕ) (P : Table) (n : ℕ) → length (whole_of s A P n) ≡ A
unfolding whole_of
length_whole s A P n = length_after P (of_swaps A (own_swaps (form_now s n))) ∙ length_of_swaps A (own_swaps (form_now s n))

-- ---- what is found of a form

-- The value of a variable that is looked up has a node that is there.
found_there : (t : Bindings) (bound X n : ℕ) → NodesThere n t.made bound → (v : Value) → found_at t bound X ≡ Some v → v.node.0 < n
unfolding found_at
found_there t bound X n nodes v e =
    by_member bound X
    (λ m. let q = rw m at e in let node : record { 0 = node_of t.made X } ≡ v.node = cc in rw (← node) (nodes X m))
    (λ m. absurd (let q = rw m at e in let y : ◌≡◌ {A = ℕ} 0 1 = cc in omega arith))

pub valued_suspension : {t : Bindings} {bound : ℕ} {x : Variable} {r : Option Value} → LookedUp t bound x.0 r → Valued t bound (Suspension x) r
valued_suspension {t} {bound} {x} l =
    record {
      value = l.value;
      suspends = λ v e. refl;
      there = λ n nodes v e. found_there t bound x.0 n nodes v (sym l.content ∙ e);
    }

pub valued_other : {t : Bindings} {bound : ℕ} {w : Form} → Compound w → Valued t bound w None
unfolding value_in
valued_other {t} {w = w} h =
    record {
      value = λ A s k i. compound_valueless (bindings_of A t k) w h;
      suspends = λ v e. absurd (let y : ◌≡◌ {A = ℕ} 0 1 = cc in omega arith);
      there = λ n nodes v e. absurd (let y : ◌≡◌ {A = ℕ} 0 1 = cc in omega arith);
    }

-- ---- one turn of the definition

module _ (bs : List Binding) (A : ℕ) (P : Table) (x : Side) (onward : Side → Side) where
  replaced_none : (node : Node) → value_told bs (form_told node) ≡ none → replaced bs x (permuted A P node) onward ≡ x
  replaced_none unit_form e = refl
  replaced_none (atom_form a) e = refl
  replaced_none (abstraction_form a n) e = refl
  replaced_none (pair_form l r) e = refl
  replaced_none (application_form f n) e = refl
  replaced_none (suspension_form π X) e = rw e

  replaced_some : (node : Node) (v : Side) → value_told bs (form_told node) ≡ some v
      → replaced bs x (permuted A P node) onward ≡ onward (under (after P (of_swaps A (own_swaps node))) v)
  replaced_some unit_form v e = absurd (let z : ◌≡◌ {A = ℕ} 0 1 = cc in omega arith)
  replaced_some (atom_form a) v e = absurd (let z : ◌≡◌ {A = ℕ} 0 1 = cc in omega arith)
  replaced_some (abstraction_form a n) v e = absurd (let z : ◌≡◌ {A = ℕ} 0 1 = cc in omega arith)
  replaced_some (pair_form l r) v e = absurd (let z : ◌≡◌ {A = ℕ} 0 1 = cc in omega arith)
  replaced_some (application_form f n) v e = absurd (let z : ◌≡◌ {A = ℕ} 0 1 = cc in omega arith)
  replaced_some (suspension_form π X) v e = rw e

module _ (s : List ℕ) (f : ℕ → Bool) (bs : List Binding) (x : Side) where
  pub resolved_stop : (k : ℕ) → value_told bs (form_told (form_now s x.node)) ≡ none → resolved_in k (ground_in s f) bs x ≡ x
  unfolding resolved_in top
  resolved_stop zero e = refl
  resolved_stop (suc k) e = replaced_none bs (problem_of s).atoms x.images x (λ t. resolved_in k (ground_in s f) bs t) (form_now s x.node) e

  pub resolved_on : (k : ℕ) (v : Side) → k ≢ 0 → value_told bs (form_told (form_now s x.node)) ≡ some v
      → resolved_in k (ground_in s f) bs x ≡ resolved_in (k - 1) (ground_in s f) bs (under (whole_of s (problem_of s).atoms x.images x.node) v)
  unfolding resolved_in top whole_of
  resolved_on zero v n e = absurd (n refl)
  resolved_on (suc k) v n e =
      let q : suc k - 1 ≡ k = omega arith in
      rw q (replaced_some bs (problem_of s).atoms x.images x (λ t. resolved_in k (ground_in s f) bs t) (form_now s x.node) v e)

resolved_zero : (g : Ground) (bs : List Binding) (x : Side) (k : ℕ) → k ≡ 0 → resolved_in k g bs x ≡ x
unfolding resolved_in
resolved_zero g bs x k e = rw e

-- ---- the loop

-- With so many replacements left, what the side is now resolves to what the first one does with all of them; and it says what stands at its node.
pub record Kept (s : List ℕ) (A : ℕ) (t : Bindings) (bound k : ℕ) (before : Side) (x : HeldSide) (left : ℕ) : Type 0 where
  pub resolves : (f : ℕ → Bool) → Keeps t.made k bound
      → resolved_in k (ground_in s f) (bindings_of A t k) before ≡ resolved_in left (ground_in s f) (bindings_of A t k) (side_held A x)
  pub form : x.form ≡ form_told (form_now s x.node.0)
  pub there : x.node.0 < length (problem_of s).nodes

module _ {s : List ℕ} {A : ℕ} {t : Bindings} {bound k : ℕ} {before : Side} {x : HeldSide} {left : ℕ} (h : Kept s A t bound k before x left) where
  finish : ((f : ℕ → Bool) → Keeps t.made k bound → resolved_in left (ground_in s f) (bindings_of A t k) (side_held A x) ≡ side_held A x)
      → SideResolved s A t bound k before x
  unfolding resolved
  finish stays =
      record {
        side = λ f i. rw (length_bindings_of A t k bound i) (sym (h.resolves f i ∙ stays f i));
        form = h.form;
        there = h.there;
      }

  -- No replacement is left.
  pub finish_none : left ≡ 0 → SideResolved s A t bound k before x
  finish_none z = finish (λ f i. resolved_zero (ground_in s f) (bindings_of A t k) (side_held A x) left z)

  -- The side is no suspension of a bound variable.
  pub finish_free : A ≤ 32 → Valued t bound x.form None → SideResolved s A t bound k before x
  unfolding value_in
  finish_free few v = finish λ f i. resolved_stop s f (bindings_of A t k) (side_held A x) left (rw h.form at (v.value A few k i))

  -- One more replacement.
  pub kept_more : {v : Value} {rest : ℕ} {y : HeldSide} (outer inner : Permutation) → A ≡ (problem_of s).atoms → A ≤ 32 → Valued t bound x.form (Some v)
      → left ≡ rest + 1 → length v.images.images ≡ 32 → NodesThere (length (problem_of s).nodes) t.made bound
      → table A outer ≡ whole_of s A (table A x.images) x.node.0 → inner ≡ of_table (after (table A outer) (table A v.images))
      → y ≡ record { images = inner; node = v.node; form = form_told (form_now s v.node.0) }
      → Kept s A t bound k before y rest
  unfolding side_of value_in
  kept_more {v} {rest} outer inner all few valued one_more long nodes is_outer is_inner is_side =
      let W = whole_of s A (table A x.images) x.node.0 in
      let U = table A v.images in
      let some_left : left ≢ 0 = omega (arith, one_more) in
      let one_less : left - 1 ≡ rest = omega (arith, one_more) in
      let images_are : table A inner ≡ after W U =
      ap (table A) is_inner ∙ table_after A (table A outer) U (length_table A v.images (omega arith)) ∙ ap (λ (T : Table). after T U) is_outer in
      rw is_side
      (record {
        resolves = λ f i.
            let bs = bindings_of A t k in
            let value : value_told bs (form_told (form_now s x.node.0)) ≡ some (side_of A v) = rw h.form at (valued.value A few k i) in
            h.resolves f i ∙ resolved_on s f bs (side_held A x) left (side_of A v) some_left value ∙ rw (one_less, images_are, ← all) refl;
        form = refl;
        there = valued.there _ nodes v refl;
      })

-- ---- a side that is no suspension of a bound variable

pub unbound_told : (A : ℕ) (t : Bindings) (k bound : ℕ) → Keeps t.made k bound → (w : Form) → is_bound bound w ≡ false
    → value_told (bindings_of A t k) w ≡ none
unbound_told A t k bound h Unit e = refl
unbound_told A t k bound h (Atom a) e = refl
unbound_told A t k bound h (Abstraction a n) e = refl
unbound_told A t k bound h (Pair l r) e = refl
unbound_told A t k bound h (Application f n) e = refl
unbound_told A t k bound h (Suspension x) e = value_of_set A t k bound h x.0 ∙ rw e

-- It resolves to itself, however many bindings there are.
pub resolved_itself : (s : List ℕ) (A : ℕ) (t : Bindings) (bound k : ℕ) (p : Permutation) (at : NodeId) (w : Form)
    → at.0 < length (problem_of s).nodes → w ≡ form_told (form_now s at.0) → is_bound bound w ≡ false
    → SideResolved s A t bound k (side_at A p at) (record { images = p; node = at; form = w })
resolved_itself s A t bound k p at w there e b =
    let kept : Kept s A t bound k (side_at A p at) (record { images = p; node = at; form = w }) k =
    record { resolves = λ f i. refl; form = e; there = there } in
    finish kept λ f i. resolved_stop s f (bindings_of A t k) (side_at A p at) k (rw e at (unbound_told A t k bound i w b))
