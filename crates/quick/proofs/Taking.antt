-- The laws of a meeting: two nodes of the same form, under the images at their place, and what the definition's rule makes of them.
use Prim.Native.Nat.{ℕ, ◌≤◌, ◌<◌}
use native.Mathlib.Omega.{arith}
use mathlib.Core.Path.{◌≡◌, refl, sym, ◌∙◌, ap}
use mathlib.Core.Bool.{Bool, true, false, cond}
use mathlib.Core.List.{List, [], ◌∷◌, map, append-nil}
use lib.ListN.{length}
use lib.Dec.{eqb}
use borrow.Author.Tests.{eq-eqb}
use Rattle.names.specs.declared.NodeId.{NodeId}
use Rattle.permutation.specs.Table.{image, inverted, disagreement}
use Rattle.permutation.proofs.Store.{members_disagreement}
use Rattle.sets.specs.Bits.{member, members, of_list}
use Rattle.sets.proofs.Bits.{by_test}
use Rattle.problem.specs.Problem.{Node, unit_form, atom_form, abstraction_form, pair_form, application_form, suspension_form}
use Rattle.problem.specs.Held.{problem_of}
use Rattle.problem.specs.Look.{form_now, form_told}
use Rattle.run.specs.Meaning.{Binding}
use Rattle.run.specs.Run.{of_variable, of_side, permuted, top, Step, goes_on, two_variables, abstractions, rule}
use Rattle.run.specs.Circle.{Permuting}
use Rattle.stack.specs.Stack.{most_waiting}
use Rattle.stack.specs.InPlace.{left_at, right_at, RightSwapped}
use Rattle.demands.specs.Demands.{Sheet, NodeRaised, VariableRaised}
use Rattle.side.specs.Side.{ground_in, is_bound}
use Rattle.side.proofs.Resolving.{after_none}
use Rattle.quick.specs.Met.{side_under, Facing, MeetTables, left_of, Taken, Met, Meets}
use Rattle.quick.specs.declared.Meeting.{Meeting}
use Rattle.quick.specs.declared.Meeting.TheVariants.{Leave, Done, Part, Parts}

-- ---- a step that is taken

-- Nothing is demanded, and no image moves.
taken_still : {A number n : ℕ} {step : Step} {meeting : Meeting} {t : MeetTables} → step ≡ goes_on (left_of A t.images n meeting) [] []
    → Taken A number n step meeting t t
taken_still e = record { demanded = []; onward = e; below = λ heads. refl; raised = λ nodes variables ds few raised. rw append-nil raised }

-- "with a equal to b, s against t"
pub same_abstractions : {A number n : ℕ} {t : MeetTables} {m k : NodeId} (a b : ℕ) → eqb a b ≡ true
    → Taken A number n (abstractions a (side_under (left_at A t.images n) m) b (side_under (right_at A t.images n) k)) (Part m k) t t
unfolding abstractions
same_abstractions a b e = taken_still (rw e)

-- "else s against t under the swap of a and b, and a is demanded fresh for t": by the atom that t's images send to a.
pub other_abstractions : {A number n : ℕ} {before after : MeetTables} {m k : NodeId} {a b c : ℕ} → A ≤ 32 → eqb a b ≡ false
    → c ≡ image (inverted (right_at A before.images n)) a → NodeRaised c k.0 number before.sheet after.sheet
    → RightSwapped a b n before.images after.images
    → Taken A number n (abstractions a (side_under (left_at A before.images n) m) b (side_under (right_at A before.images n) k)) (Part m k) before after
unfolding abstractions
other_abstractions {A} {n = n} {before} {k = k} {a} {b} few differ is_preimage asked swapped =
    record {
      demanded = (a, of_side (side_under (right_at A before.images n) k)) ∷ [];
      onward = rw (differ, swapped.left A, swapped.right A few);
      below = swapped.below A;
      raised = λ nodes variables ds few_nodes raised. asked.raised a (right_at A before.images n) is_preimage nodes variables ds raised;
    }

-- "each atom of the disagreement set is demanded fresh for X": none, if the set is empty.
no_members : members 32 0 ≡ []
unfolding members member
no_members = refl

module _ (A number n X w : ℕ) (images : List (List (List ℕ))) (short : length (left_at A images n) ≤ 32)
    (is_set : w ≡ of_list 32 (disagreement (left_at A images n) (right_at A images n))) where
  abbrev differing : List ℕ
  differing = disagreement (left_at A images n) (right_at A images n)

  abbrev demands_all : Step
  demands_all = goes_on [] [] (map (λ a. (a, of_variable X)) differing)

  members_are : members 32 w ≡ differing
  members_are = ap (members 32) is_set ∙ members_disagreement (left_at A images n) (right_at A images n) short

  taken_demanding : {before after : Sheet} → VariableRaised w X number before after
      → Taken A number n demands_all Done (record { images = images; sheet = before }) (record { images = images; sheet = after })
  taken_demanding asked =
      record {
        demanded = map (λ a. (a, of_variable X)) differing;
        onward = refl;
        below = λ heads. refl;
        raised = λ nodes variables ds few raised. rw members_are at (asked.raised nodes variables ds few raised);
      }

  taken_agreeing : {asked : Sheet} → w ≡ 0
      → Taken A number n demands_all Done (record { images = images; sheet = asked }) (record { images = images; sheet = asked })
  taken_agreeing z =
      let none : differing ≡ [] = sym members_are ∙ rw z no_members in
      taken_still (rw none)

-- ---- two nodes that have met

module _ {s : List ℕ} {places : List ℕ} {A n : ℕ} {images : List (List (List ℕ))} {l r : NodeId} (facing : Facing s places A n images l r) where
  short : length (left_at A images n) ≤ 32
  short = rw facing.left.images.long facing.standing.readable.few_atoms

  pub few_atoms : A ≤ 32
  few_atoms = rw facing.number facing.standing.readable.few_atoms

  -- What two abstractions take.
  pub abstractions_fit : {a m b k : ℕ} → form_now s l.0 ≡ abstraction_form a m → form_now s r.0 ≡ abstraction_form b k
      → (n < most_waiting) × (A ≤ 32) × (a < A) × (k < 512) × Permuting A (left_at A images n) × Permuting A (right_at A images n)
  abstractions_fit {a} {m} {b} {k} is_left is_right =
      let readable = facing.standing.readable in
      let left_named : (a < (problem_of s).atoms) × (m < l.0) = rw is_left at (readable.named_nodes l.0) in
      let right_named : (b < (problem_of s).atoms) × (k < r.0) = rw is_right at (readable.named_nodes r.0) in (
        facing.placed,
        few_atoms,
        rw facing.number left_named.0,
        omega (arith, right_named.1, facing.right.there, readable.few_nodes),
        rw (← facing.number) at facing.left.images,
        rw (← facing.number) at facing.right.images,
      )

module _ {s : List ℕ} {A bound number n : ℕ} {l r : NodeId} where
  met : {before after : MeetTables} {meeting : Meeting} (v w : Node) → form_now s l.0 ≡ v → form_now s r.0 ≡ w
      → is_bound bound (form_told v) ≡ false → is_bound bound (form_told w) ≡ false
      → ((f : ℕ → Bool) (bs : List Binding) → Taken A number n
      (rule (ground_in s f) bs (side_under (left_at A before.images n) l) (side_under (right_at A before.images n) r)
      (permuted (problem_of s).atoms (left_at A before.images n) v) (permuted (problem_of s).atoms (right_at A before.images n) w)) meeting before after)
      → Met s A bound number n l r meeting before after
  unfolding top
  met v w is_left is_right left_free right_free taken =
      record { left = rw is_left left_free; right = rw is_right right_free; taken = λ f bs. rw (is_left, is_right) (taken f bs) }

  pub met_units : {t : MeetTables} → form_now s l.0 ≡ unit_form → form_now s r.0 ≡ unit_form → Met s A bound number n l r Done t t
  met_units p q = met unit_form unit_form p q refl refl (λ f bs. taken_still refl)

  met_atoms : {t : MeetTables} {a b : ℕ} → form_now s l.0 ≡ atom_form a → form_now s r.0 ≡ atom_form b
      → eqb (image (left_at A t.images n) a) (image (right_at A t.images n) b) ≡ true → Met s A bound number n l r Done t t
  met_atoms {t} {a} {b} p q e = met (atom_form a) (atom_form b) p q refl refl (λ f bs. taken_still (rw e))

  pub met_abstractions : {before after : MeetTables} {a b : ℕ} {m k : NodeId} → form_now s l.0 ≡ abstraction_form a m.0
      → form_now s r.0 ≡ abstraction_form b k.0
      → Taken A number n (abstractions (image (left_at A before.images n) a) (side_under (left_at A before.images n) m)
      (image (right_at A before.images n) b) (side_under (right_at A before.images n) k)) (Part m k) before after
      → Met s A bound number n l r (Part m k) before after
  met_abstractions {a = a} {b} {m} {k} p q taken = met (abstraction_form a m.0) (abstraction_form b k.0) p q refl refl (λ f bs. taken)

  pub met_pairs : {t : MeetTables} {m o k p : NodeId} → form_now s l.0 ≡ pair_form m.0 o.0 → form_now s r.0 ≡ pair_form k.0 p.0
      → Met s A bound number n l r (Parts m o k p) t t
  met_pairs {m = m} {o} {k} {p} is_left is_right =
      met (pair_form m.0 o.0) (pair_form k.0 p.0) is_left is_right refl refl (λ f bs. taken_still refl)

  met_applications : {t : MeetTables} {h i : ℕ} {m k : NodeId} → form_now s l.0 ≡ application_form h m.0
      → form_now s r.0 ≡ application_form i k.0
      → eqb h i ≡ true → Met s A bound number n l r (Part m k) t t
  met_applications {h = h} {i} {m} {k} p q e =
      met (application_form h m.0) (application_form i k.0) p q refl refl (λ f bs. taken_still (rw e))

  met_suspensions : {before after : MeetTables} {X : ℕ} → form_now s l.0 ≡ suspension_form [] X → form_now s r.0 ≡ suspension_form [] X
      → member bound X ≡ false → length (left_at A before.images n) ≡ (problem_of s).atoms
      → length (right_at A before.images n) ≡ (problem_of s).atoms
      → Taken A number n (goes_on [] [] (map (λ a. (a, of_variable X)) (disagreement (left_at A before.images n) (right_at A before.images n)))) Done
      before after
      → Met s A bound number n l r Done before after
  unfolding two_variables
  met_suspensions {before} {X = X} p q unbound left_long right_long taken =
      met (suspension_form [] X) (suspension_form [] X) p q unbound unbound λ f bs.
      rw (
        eq-eqb X X refl,
        after_none (problem_of s).atoms (left_at A before.images n) left_long,
        after_none (problem_of s).atoms (right_at A before.images n) right_long,
      )
      taken

  module _ {places : List ℕ} {images : List (List (List ℕ))} {X w : ℕ} (facing : Facing s places A n images l r)
      (is_left : form_now s l.0 ≡ suspension_form [] X) (is_right : form_now s r.0 ≡ suspension_form [] X) (unbound : member bound X ≡ false)
      (is_set : w ≡ of_list 32 (disagreement (left_at A images n) (right_at A images n))) where
    pub met_demanding : {before after : Sheet} → VariableRaised w X number before after
        → Met s A bound number n l r Done (record { images = images; sheet = before }) (record { images = images; sheet = after })
    met_demanding asked =
        met_suspensions is_left is_right unbound facing.left.images.long facing.right.images.long
        (taken_demanding A number n X w images (short facing) is_set asked)

    pub met_agreeing : {asked : Sheet} → w ≡ 0
        → Met s A bound number n l r Done (record { images = images; sheet = asked }) (record { images = images; sheet = asked })
    met_agreeing z =
        met_suspensions is_left is_right unbound facing.left.images.long facing.right.images.long
        (taken_agreeing A number n X w images (short facing) is_set z)

-- Two atoms and two applications, as the code tells it.
module _ (s : List ℕ) (A bound number n : ℕ) (l r : NodeId) (t : MeetTables) where
  pub meets_atoms : {a b : ℕ} {z : Meeting} → form_now s l.0 ≡ atom_form a → form_now s r.0 ≡ atom_form b
      → z ≡ cond (eqb (image (left_at A t.images n) a) (image (right_at A t.images n) b)) Done Leave → Meets s A bound number n l r t t z
  meets_atoms {a} {b} p q told =
      by_test (eqb (image (left_at A t.images n) a) (image (right_at A t.images n) b)) (λ e. rw (told, e) (met_atoms p q e)) (λ e. rw (told, e) refl)

  pub meets_applications : {h i : ℕ} {m k : NodeId} {z : Meeting} → form_now s l.0 ≡ application_form h m.0
      → form_now s r.0 ≡ application_form i k.0 → z ≡ cond (eqb h i) (Part m k) Leave → Meets s A bound number n l r t t z
  meets_applications {h} {i} p q told = by_test (eqb h i) (λ e. rw (told, e) (met_applications p q e)) (λ e. rw (told, e) refl)
