-- How marks grow: laws that know no tables, and then what visiting a node does, form by form.
use Prim.Native.Nat.{ℕ, ◌/◌, ◌<◌}
use mathlib.Core.Path.{◌≡◌, refl, sym, ◌∙◌, ap, subst}
use mathlib.Core.Logic.{◌≢◌, ◌⊎◌, inl, inr, ⊎_elim}
use mathlib.Core.Bool.{Bool, true, false, not, ◌&&◌, true≢false}
use mathlib.Core.List.{List, [], ◌∷◌}
use mathlib.Core.Option.{Option, none}
use Rattle.std.specs.Prelude as std
use Rattle.names.specs.declared.Variable.{Variable}
use lib.ListN.{length, get_or}
use Rattle.sets.specs.Bits.{member, difference, removed}
use Rattle.sets.proofs.Bits.{by_member, member_difference, member_removed_same, member_removed_other, subset_member}
use Rattle.permutation.specs.Swaps.{Swaps, act, inverse}
use Rattle.names.proofs.Equal.{by_eq}
use Rattle.problem.specs.Problem.{Node, unit_form, atom_form, abstraction_form, pair_form, application_form, suspension_form, form_at, Problem}
use Rattle.problem.specs.Look.{bare_of}
use Rattle.run.specs.Meaning.{Side}
use Rattle.visit.specs.Pairs.{Pair, of_node, of_variable, to_body, to_argument, to_left, to_right, to_variable, PairReached, start, further, Closed}
use Rattle.visit.specs.Visited.{Marked, Only, added, Looked, Visited, Settled}
use Rattle.visit.specs.Parts.{Late, with_late, SuspendedAt, Came, LookedOrLate, PartsGrown, LateGrown, PartsVisited, Sent, sent, SwapsAsked}
use Rattle.visit.proofs.Rows.{row_kept, row_new, row_cases}
use Rattle.visit.proofs.Waiting.{late_same, late_more, late_none, late_further}

-- ---- without tables

module _ {nodes : List Node} {value : ℕ → Option Side} where
  pub reached_through : {S T : Pair → Type 0} → ((w : Pair) → T w → PairReached nodes value S w)
      → {w : Pair} → PairReached nodes value T w → PairReached nodes value S w
  reached_through h (start t) = h _ t
  reached_through h (further r l) = further (reached_through h r) l

pub looked_more : (nodes : List Node) (value : ℕ → Option Side) {Before After : Pair → Type 0}
    → ((w : Pair) → Before w → After w) → (w : Pair)
    → Looked nodes value Before w → Looked nodes value After w
looked_more nodes value h (of_node a n) c = λ v l. h v (c v l)
looked_more nodes value h (of_variable a X) c = tt

-- What was looked through or waited does so still.
through_more : (nodes : List Node) (value : ℕ → Option Side) (late late₁ : List ℕ) {Before After : Pair → Type 0}
    → ((n : ℕ) → Late late n → Late late₁ n) → ((w : Pair) → Before w → After w) → (w : Pair)
    → LookedOrLate nodes value late Before w → LookedOrLate nodes value late₁ After w
through_more nodes value late late₁ more h (of_node a n) c = ⊎_elim (λ k. inl (λ v l. h v (k v l))) (λ k. inr (more n k)) c
through_more nodes value late late₁ more h (of_variable a X) c = tt

module _ {nodes : List Node} {value : ℕ → Option Side} where
  grown_none : {late : List ℕ} {S Mark : Pair → Type 0} → PartsGrown nodes value late S Mark Mark
  grown_none = record { kept = λ w h. h; new = λ w h. inl h }

  grown_more : {late late₁ : List ℕ} {S A B C : Pair → Type 0} → ((n : ℕ) → Late late n → Late late₁ n)
      → PartsGrown nodes value late S A B → PartsGrown nodes value late₁ S B C → PartsGrown nodes value late₁ S A C
  grown_more {late} {late₁} {S} {A} {B} {C} more g h = record {
    kept = λ w k. h.kept w (g.kept w k);
    new = λ w k. ⊎_elim (earlier w) (λ r. inr r) (h.new w k);
  }
    where
      -- What the first growth marked stays looked through.
      earlier : (w : Pair) → B w → A w ⊎ (PairReached nodes value S w × LookedOrLate nodes value late₁ C w)
      earlier w b = ⊎_elim (λ a. inl a) (λ r. inr (r.0, through_more nodes value late late₁ more h.kept w r.1)) (g.new w b)

  grown_from : {late : List ℕ} {S T A B : Pair → Type 0} → ((w : Pair) → T w → PairReached nodes value S w)
      → PartsGrown nodes value late T A B → PartsGrown nodes value late S A B
  grown_from h g = record { kept = g.kept; new = λ w k. ⊎_elim (λ a. inl a) (λ r. inr (reached_through h r.0, r.1)) (g.new w k) }

  -- Marks are set first, and then what they lead to.
  grown_start : {late : List ℕ} {S A B C : Pair → Type 0} → ((w : Pair) → A w → B w)
      → ((w : Pair) → B w → A w ⊎ (PairReached nodes value S w × LookedOrLate nodes value late C w)) → PartsGrown nodes value late S B C
      → PartsGrown nodes value late S A C
  grown_start up down g = record { kept = λ w k. g.kept w (up w k); new = λ w k. ⊎_elim (down w) (λ r. inr r) (g.new w k) }

-- What a pair of an atom and a node of a form leads to.
abbrev Follows : (Pair → Type 0) → ℕ → Node → Type 0
Follows Mark a unit_form = Prim.Unit {0}
Follows Mark a (atom_form b) = Prim.Unit {0}
Follows Mark a (abstraction_form b m) = a ≢ b → Mark (of_node a m)
Follows Mark a (pair_form l r) = Mark (of_node a l) × Mark (of_node a r)
Follows Mark a (application_form f m) = Mark (of_node a m)
Follows Mark a (suspension_form π X) = Mark (of_variable (act (inverse π) a) X)

-- Where that is marked, the pair is looked through.
closed_by : {nodes : List Node} {value : ℕ → Option Side} (Mark : Pair → Type 0) (a n : ℕ) (f : Node)
    → form_at nodes n ≡ f → Follows Mark a f → Closed nodes value Mark (of_node a n)
closed_by Mark a n f e h w (to_body q d) = subst (Follows Mark a) (sym e ∙ q) h d
closed_by Mark a n f e h w (to_argument q) = subst (Follows Mark a) (sym e ∙ q) h
closed_by Mark a n f e h w (to_left q) = (subst (Follows Mark a) (sym e ∙ q) h).0
closed_by Mark a n f e h w (to_right q) = (subst (Follows Mark a) (sym e ∙ q) h).1
closed_by Mark a n f e h w (to_variable q) = subst (Follows Mark a) (sym e ∙ q) h

-- ---- sets

and_left : (t u : Bool) → t && u ≡ true → t ≡ true
and_left true u e = refl
and_left false u e = e

pub difference_left : (v w a : ℕ) → member (difference v w) a ≡ true → member v a ≡ true
difference_left v w a e = and_left (member v a) (not (member w a)) (sym (member_difference v w a) ∙ e)

-- An atom is in the one set or among what the other has more.
difference_cases : (v w a : ℕ) → member v a ≡ true → (member w a ≡ true) ⊎ (member (difference v w) a ≡ true)
difference_cases v w a e = by_member w a (λ q. inl q) (λ q. inr (member_difference v w a ∙ rw (e, q)))

removed_split : (w b a : ℕ) → member (removed w b) a ≡ true → (a ≢ b) × (member w a ≡ true)
removed_split w b a e =
    by_eq a b
    (λ q. absurd (true≢false (sym e ∙ ap (member (removed w b)) q ∙ member_removed_same w b)))
    (λ d. (d, sym (member_removed_other w b a d) ∙ e))

-- ---- visiting

pub visited_again : (p : Problem) (atoms n : ℕ) (seen variables late : List ℕ) → n < length p.nodes → difference atoms (get_or seen n 0) ≡ 0
    → PartsVisited p.nodes atoms n (Marked p seen variables) (Marked p seen variables) late late
visited_again p atoms n seen variables late few e = record {
  grown = λ value. grown_none;
  here = λ a h. (few, subset_member atoms (get_or seen n 0) a e h);
  waits = late_none;
}

-- Of the atoms that come to node n, those that are new there were marked. The second column, of the variables, is as it was.
pub record Noted (p : Problem) (atoms n : ℕ) (seen variables : List ℕ) (new : ℕ) (seen₁ : List ℕ) : Type 0 where
  pub few : n < length p.nodes
  pub in_seen : n < length seen
  pub is_new : new ≡ difference atoms (get_or seen n 0)
  pub is_seen : seen₁ ≡ added seen n new

module _ {p : Problem} {atoms n : ℕ} {seen variables : List ℕ} {new : ℕ} {seen₁ : List ℕ} (t : Noted p atoms n seen variables new seen₁) where
  abbrev Before : Pair → Type 0
  Before = Marked p seen variables

  abbrev Now : Pair → Type 0
  Now = Marked p seen₁ variables

  -- The rules lead here from the atoms at the node, whatever the bindings are.
  abbrev Led : (ℕ → Option Side) → Pair → Type 0
  Led value = PairReached p.nodes value (Only atoms n)

  -- The atoms were visited at the node, with these marks and these nodes that wait in the end.
  abbrev Done : (Pair → Type 0) → List ℕ → List ℕ → Type 0
  Done After late late₁ = PartsVisited p.nodes atoms n Before After late late₁

  -- The atoms that are new were visited at a part.
  abbrev Part : ℕ → ℕ → (Pair → Type 0) → (Pair → Type 0) → List ℕ → List ℕ → Type 0
  Part rest m = PartsVisited p.nodes rest m

  led_here : (value : ℕ → Option Side) (a : ℕ) → member new a ≡ true → Led value (of_node a n)
  led_here value a e = start {w = of_node a n} (refl, difference_left atoms (get_or seen n 0) a (ap (λ (w : ℕ). member w a) (sym t.is_new) ∙ e))

  kept : (w : Pair) → Before w → Now w
  kept (of_node a m) h = (h.0, rw t.is_seen (row_kept seen n new m a t.in_seen h.1))
  kept (of_variable a X) h = h

  split : (w : Pair) → Now w → Before w ⊎ Only new n w
  split (of_node a m) h = ⊎_elim (λ k. inl (h.0, k)) (λ k. inr k) (row_cases seen n new m a t.in_seen (rw t.is_seen at h.1))
  split (of_variable a X) h = inl h

  all_here : (a : ℕ) → member atoms a ≡ true → Now (of_node a n)
  all_here a e =
      ⊎_elim (λ k. kept (of_node a n) (t.few, k))
      (λ k. (t.few, rw t.is_seen (row_new seen n new a t.in_seen (ap (λ (w : ℕ). member w a) t.is_new ∙ k))))
      (difference_cases atoms (get_or seen n 0) a e)

  -- The new atoms at the node are looked through or wait, and nothing else is marked than what they lead to: so the atoms were visited.
  visited_by : {After : Pair → Type 0} {late late₁ : List ℕ}
      → ((value : ℕ → Option Side) → PartsGrown p.nodes value late₁ (Only atoms n) Now After)
      → LateGrown p.nodes late late₁
      → ((value : ℕ → Option Side) (a : ℕ) → member new a ≡ true → LookedOrLate p.nodes value late₁ After (of_node a n))
      → Done After late late₁
  visited_by {After} {late} {late₁} grow wait through = record {
    grown = λ value. grown_start kept (λ w k. ⊎_elim (λ h. inl h) (λ h. inr (found value w h)) (split w k)) (grow value);
    here = λ a h. (grow (λ X. none)).kept (of_node a n) (all_here a h);
    waits = wait;
  }
    where
      found : (value : ℕ → Option Side) (w : Pair) → Only new n w → Led value w × LookedOrLate p.nodes value late₁ After w
      found value (of_node a m) (q, h) = (rw q (led_here value a h), rw q (through value a h))
      found value (of_variable a X) h = absurd h

  -- What the new atoms lead to by the node's form is marked.
  followed : {After : Pair → Type 0} {late late₁ : List ℕ} (f : Node) → form_at p.nodes n ≡ f
      → ((value : ℕ → Option Side) → PartsGrown p.nodes value late₁ (Only atoms n) Now After) → LateGrown p.nodes late late₁
      → ((a : ℕ) → member new a ≡ true → Follows After a f) → Done After late late₁
  followed {After} f e grow wait follows = visited_by grow wait (λ value a h. inl (closed_by After a n f e (follows a h)))

  pub visited_unit : {late : List ℕ} → form_at p.nodes n ≡ unit_form → Done Now late late
  visited_unit e = followed unit_form e (λ value. grown_none) late_none (λ a h. tt)

  pub visited_atom : {late : List ℕ} {b : ℕ} → form_at p.nodes n ≡ atom_form b → Done Now late late
  visited_atom {late} {b} e = followed (atom_form b) e (λ value. grown_none) late_none (λ a h. tt)

  pub visited_abstraction : {After : Pair → Type 0} {late late₁ : List ℕ} {b m rest : ℕ} → form_at p.nodes n ≡ abstraction_form b m
      → rest ≡ removed new b → Part rest m Now After late late₁ → Done After late late₁
  visited_abstraction {After} {late} {late₁} {b} {m} {rest} e is_rest v =
      followed (abstraction_form b m) e (λ value. grown_from (from value) (v.grown value)) v.waits
      (λ a h d. v.here a (rw is_rest (member_removed_other new b a d ∙ h)))
    where
      from : (value : ℕ → Option Side) (w : Pair) → Only rest m w → Led value w
      from value (of_node a i) (q, h) =
          let k = removed_split new b a (rw is_rest at h) in
          rw q (further (led_here value a k.1) (to_body e k.0))
      from value (of_variable a X) h = absurd h

  pub visited_application : {After : Pair → Type 0} {late late₁ : List ℕ} {f m : ℕ} → form_at p.nodes n ≡ application_form f m
      → Part new m Now After late late₁ → Done After late late₁
  visited_application {After} {late} {late₁} {f} {m} e v =
      followed (application_form f m) e (λ value. grown_from (from value) (v.grown value)) v.waits (λ a h. v.here a h)
    where
      from : (value : ℕ → Option Side) (w : Pair) → Only new m w → Led value w
      from value (of_node a i) (q, h) = rw q (further (led_here value a h) (to_argument e))
      from value (of_variable a X) h = absurd h

  module _ {x y : ℕ} (e : form_at p.nodes n ≡ pair_form x y) where
    left : (value : ℕ → Option Side) (w : Pair) → Only new x w → Led value w
    left value (of_node a i) (q, h) = rw q (further (led_here value a h) (to_left e))
    left value (of_variable a X) h = absurd h

    right : (value : ℕ → Option Side) (w : Pair) → Only new y w → Led value w
    right value (of_node a i) (q, h) = rw q (further (led_here value a h) (to_right e))
    right value (of_variable a X) h = absurd h

    -- Both parts visited, the left one first or the right one first.
    pub visited_pair : {Between After : Pair → Type 0} {late late₁ late₂ : List ℕ} → Part new x Now Between late late₁
        → Part new y Between After late₁ late₂ → Done After late late₂
    visited_pair v w =
        followed (pair_form x y) e
        (λ value. grown_more w.waits.kept (grown_from (left value) (v.grown value)) (grown_from (right value) (w.grown value)))
        (late_further v.waits w.waits) (λ a h. ((w.grown (λ X. none)).kept (of_node a x) (v.here a h), w.here a h))

    pub visited_pair_right : {Between After : Pair → Type 0} {late late₁ late₂ : List ℕ} → Part new y Now Between late late₁
        → Part new x Between After late₁ late₂ → Done After late late₂
    visited_pair_right v w =
        followed (pair_form x y) e
        (λ value. grown_more w.waits.kept (grown_from (right value) (v.grown value)) (grown_from (left value) (w.grown value)))
        (late_further v.waits w.waits) (λ a h. (w.here a h, (w.grown (λ X. none)).kept (of_node a y) (v.here a h)))

    -- A pair of one node with itself: a second visit would find nothing new.
    pub visited_twins : {After : Pair → Type 0} {late late₁ : List ℕ} → x ≡ y → Part new y Now After late late₁ → Done After late late₁
    visited_twins q v = visited_pair (rw q v) (record { grown = λ value. grown_none; here = v.here; waits = late_none })

  -- A suspension without swaps: the atoms are asked of its variable as they are.
  visited_bare : {X : ℕ} {variables₁ late : List ℕ} → form_at p.nodes n ≡ suspension_form [] X → variables₁ ≡ added variables X new
      → X < p.variables → X < length variables → Done (Marked p seen₁ variables₁) late late
  visited_bare {X} {variables₁} {late} e is_variables few_variables in_variables =
      followed (suspension_form [] X) e (λ value. record { kept = up; new = down value }) late_none
      (λ a h. (few_variables, rw is_variables (row_new variables X new a in_variables h)))
    where
      After : Pair → Type 0
      After = Marked p seen₁ variables₁

      up : (w : Pair) → Now w → After w
      up (of_node a m) h = h
      up (of_variable a Y) h = (h.0, rw is_variables (row_kept variables X new Y a in_variables h.1))

      down : (value : ℕ → Option Side) (w : Pair) → After w → Now w ⊎ (Led value w × LookedOrLate p.nodes value late After w)
      down value (of_node a m) h = inl h
      down value (of_variable a Y) h =
          ⊎_elim (λ q. inl (h.0, q)) (λ q. inr (rw q.0 (further (led_here value a q.1) (to_variable e)), tt))
          (row_cases variables X new Y a in_variables (rw is_variables at h.1))

  -- One that waits is looked through later.
  visited_late : {late : List ℕ} → SuspendedAt p.nodes n → n / 64 < length late → Done Now late (with_late late n)
  visited_late {late} suspended h = visited_by (λ value. grown_none) (late_more late n h suspended) (λ value a k. inr (late_same late n h))

  -- "for a suspension if the atom sent to a is fresh for its variable"
  pub visited_suspension : {bare : std.Option Variable} {X : ℕ} {π : Swaps} {variables₁ late late₁ : List ℕ} → form_at p.nodes n ≡ suspension_form π X
      → bare ≡ bare_of (form_at p.nodes n) → Came bare n X new variables late variables₁ late₁
      → X < p.variables → X < length variables → n / 64 < length late → Done (Marked p seen₁ variables₁) late late₁
  visited_suspension {bare} {X} {π} {variables₁} {late} {late₁} e is_bare c few_variables in_variables in_late = go π e (is_bare ∙ ap bare_of e)
    where
      -- Where the table has a variable for it, there are no swaps.
      go : (ρ : Swaps) → form_at p.nodes n ≡ suspension_form ρ X → bare ≡ bare_of (suspension_form ρ X) → Done (Marked p seen₁ variables₁) late late₁
      go [] q b =
          let come = c.asked (λ none. cc) in rw come.1 (visited_bare q come.0 few_variables in_variables)
      go (s ∷ ρ) q b =
          let come = c.waits b in rw (come.0, come.1) (visited_late (record { few = t.few; swaps = s ∷ ρ; variable = X; form = q }) in_late)

-- ---- asking what waits

-- Where all that is marked at nodes is looked through, nothing waits.
pub looked_settled : {nodes : List Node} {value : ℕ → Option Side} {Mark : Pair → Type 0} → ((w : Pair) → Mark w → Looked nodes value Mark w)
    → Settled nodes Mark
looked_settled looked a n X π e h = looked (of_node a n) h _ (to_variable e)

-- What waits are suspensions, where nothing waited before.
pub late_suspended : {nodes : List Node} {atoms n : ℕ} {Before After : Pair → Type 0} {late late₁ : List ℕ} → ((m : ℕ) → Late late m → ⊥)
    → PartsVisited nodes atoms n Before After late late₁ → (m : ℕ) → Late late₁ m → SuspendedAt nodes m
late_suspended none_late v m k = ⊎_elim (λ q. absurd (none_late m q)) (λ q. q) (v.waits.new m k)

-- Before, what was seen at suspensions had been asked of their variables; then the parts were visited, and what waits was asked.
module _ {p : Problem} {atoms n : ℕ} {Before : Pair → Type 0} {seen variables late late₁ : List ℕ}
    (settled : Settled p.nodes Before) (none_late : (m : ℕ) → Late late m → ⊥)
    (v : PartsVisited p.nodes atoms n Before (Marked p seen variables) late late₁) where
  module _ {variables₁ : List ℕ} (asked : SwapsAsked p seen (Late late₁) variables variables₁) where
    abbrev After : Pair → Type 0
    After = Marked p seen variables₁

    through : (value : ℕ → Option Side) (w : Pair) → Marked p seen variables w → LookedOrLate p.nodes value late₁ (Marked p seen variables) w
        → Looked p.nodes value After w
    through value (of_node a m) b k =
        ⊎_elim (λ c u l. asked.kept u (c u l))
        (λ q.
        let s = late_suspended none_late v m q in
        closed_by After a m (suspension_form s.swaps s.variable) s.form (asked.all _ (sent a m q b s.form))) k
    through value (of_variable a X) b k = tt

    sent_here : (value : ℕ → Option Side) (w : Pair) → Sent p seen (Late late₁) w
        → Before w ⊎ (PairReached p.nodes value (Only atoms n) w × Looked p.nodes value After w)
    sent_here value w (sent a m q b e) =
        ⊎_elim (λ k. inl (settled a m _ _ e k)) (λ r. inr (further r.0 (to_variable e), tt)) ((v.grown value).new (of_node a m) b)

    pub visited_all : Visited p.nodes atoms n Before After
    visited_all = record {
      grown = λ value. record {
        kept = λ w k. asked.kept w ((v.grown value).kept w k);
        new = λ w k.
            ⊎_elim (λ b. ⊎_elim (λ q. inl q) (λ r. inr (r.0, through value w b r.1)) ((v.grown value).new w b)) (λ q. sent_here value w q)
            (asked.new w k);
      };
      here = λ a h. asked.kept (of_node a n) (v.here a h);
    }
