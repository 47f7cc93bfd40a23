-- The marks are exactly right: where what is marked is closed and reached from the demands, `resolved_all` fails exactly if an atom is marked for a node
-- that is that atom, and else its facts are exactly the pairs marked at unbound variables. Upwards, a closed set of marks without clash is a
-- derivation of figure 2; downwards, every environment that derives the demands derives what they lead to.
use Prim.Native.Nat.{ℕ, zero, suc, ◌+◌, ◌≤◌, ◌<◌}
use native.Mathlib.Omega.{arith}
use mathlib.Core.Path.{◌≡◌, refl, sym, ◌∙◌, ap}
use mathlib.Core.Logic.{◌↔◌}
use mathlib.Core.Bool.{true}
use mathlib.Core.List.{List, Memᴰ}
use mathlib.Core.Option.{Option, none, some}
use lib.ListN.{length}
use Rattle.permutation.specs.Swaps.{Swaps, act, inverse}
use Rattle.permutation.specs.Table.{Table, image, inverted, after, of_swaps, swaps_of}
use Rattle.permutation.proofs.Table.{swaps_of_inverted}
use Rattle.nominal.specs.Tree.{Tree, variable, permute, size, Substitution, substitute, composed}
use Rattle.nominal.specs.Figure2.{Environment, ◌⊢◌#◌, #-unit, #-pair, #-function_symbol}
use Rattle.nominal.specs.Solutions.{Every, Meets, Holds}
use Rattle.nominal.proofs.Tree.{permute_nil, size_permute, substitute_permute, substitute_variable, substitute_agree}
use Rattle.nominal.proofs.Figure2.{fresh_atom, fresh_abstraction, fresh_pair, fresh_application, fresh_suspension}
use Rattle.nominal.proofs.Laws.{fresh_inverse}
use Rattle.nominal.proofs.Solutions.{every_at, every_of, every_map}
use Rattle.problem.specs.Problem.{Node, unit_form, atom_form, abstraction_form, pair_form, application_form, suspension_form, form_at}
use Rattle.problem.specs.Readable.{Named}
use Rattle.run.specs.Meaning.{Side, tree, side_tree, Binding, Fact, meaning}
use Rattle.run.specs.Run.{Ground, permuted, top, value_of, under, resolved_in, resolved}
use Rattle.run.specs.Answer.{Asked, resolved_all, has_fact}
use Rattle.run.proofs.Trees.{built, tree_built, Permuting, permuting_inverted, act_permuting, plain}
use Rattle.run.proofs.Bindings.{by_value, Settled, Meant}
use Rattle.run.proofs.Questions.{Each, resolved_all_holds}
use Rattle.run.proofs.Facts.{has_fact_true}
use Rattle.visit.specs.Pairs.{Pair, of_node, of_variable, PairLeads, to_body, to_argument, to_left, to_right, to_variable, to_value}
use Rattle.visit.specs.Pairs.{PairReached, start, further, Closed}
use Rattle.fresh.specs.Meaning.{Meaningful}
use Rattle.fresh.specs.Resolved.{Clashing, PairsResolved, AskedAs, Asks}

-- What a run makes has a meaning.
pub meaningful : {g : Ground} {variables : ℕ} {bs : List Binding} → Meant g variables bs (meaning g.nodes bs) → Meaningful g variables bs
meaningful m = record {
  few = m.few;
  there = λ X v e. (m.fits X v e).there;
  long = λ X v e. (m.fits X v e).images.long;
  permutes = λ X v e. (m.fits X v e).images.permutes;
  free = m.free;
  worth = m.worth;
  settles = m.settles;
}

-- What resolving says, without a later substitution: an environment derives all demands exactly if it has all facts.
module _ (∇ : Environment) (σ : Substitution) where
  abbrev Derives : Asked → Type 0
  Derives d = ∇ ⊢ d.0 # substitute σ d.1

  abbrev Has : Fact → Type 0
  Has f = ∇ f.0 f.1

  meets_plain : (d : Asked) → Meets ∇ (composed variable σ) d ↔ Derives d
  meets_plain d =
      let e : substitute (composed variable σ) d.1 ≡ substitute σ d.1 =
      substitute_agree (composed variable σ) σ d.1 (λ X o. substitute_variable (σ X)) in
      (λ h. rw e at h, λ h. rw e h)

  each_map : (R S : Fact → Type 0) → ((f : Fact) → R f → S f) → (c : Option (List Fact)) → Each R c → Each S c
  each_map R S h none k = k
  each_map R S h (some fs) k = every_map R S h fs k

  pub resolved_all_derives : (ds : List Asked) → Every Derives ds ↔ Each Has (resolved_all σ ds)
  resolved_all_derives ds =
      let holds = resolved_all_holds ∇ variable σ ds in
      let meets = Meets ∇ (composed variable σ) in (
        λ h. each_map (Holds ∇ variable) Has (λ f. fresh_suspension.0) (resolved_all σ ds) (holds.0 (every_map Derives meets (λ d. (meets_plain d).1) ds h)),
        λ h. every_map meets Derives (λ d. (meets_plain d).0) ds (holds.1 (each_map Has (Holds ∇ variable) (λ f. fresh_suspension.1) (resolved_all σ ds) h)),
      )

-- The pair of an atom and the inverse of its images.
pub act_back : {atoms : ℕ} {P : Table} → Permuting atoms P → (a : ℕ) → act (inverse (swaps_of P)) a ≡ image (inverted P) a
act_back {P = P} p a = sym (swaps_of_inverted P p.permutes a) ∙ act_permuting (permuting_inverted p) a

module _ (g : Ground) (variables : ℕ) (named : (n : ℕ) → Named g.atoms variables n (form_at g.nodes n)) {bs : List Binding}
    (m : Meaningful g variables bs) (value : ℕ → Option Side) (same : (X : ℕ) → value X ≡ value_of bs X) where
  abbrev nodes : List Node
  nodes = g.nodes

  abbrev σ : Substitution
  σ = meaning nodes bs

  -- A node's tree under the bindings.
  abbrev meant : ℕ → Tree
  meant n = substitute σ (tree nodes n)

  -- What a pair says under the bindings.
  abbrev Means : Environment → Pair → Type 0
  Means ∇ (of_node a n) = ∇ ⊢ a # meant n
  Means ∇ (of_variable a X) = ∇ ⊢ a # σ X

  built_at : (n : ℕ) (f : Node) → form_at nodes n ≡ f → meant n ≡ substitute σ (built nodes f)
  built_at n f e = ap (substitute σ) (tree_built g.atoms variables nodes named n ∙ ap (built nodes) e)

  -- A bound variable and its value.
  value_tree : (X : ℕ) (v : Side) → value X ≡ some v → σ X ≡ permute (swaps_of v.images) (meant v.node)
  unfolding side_tree
  value_tree X v e = m.worth X v (sym (same X) ∙ e) ∙ substitute_permute σ (swaps_of v.images) (tree nodes v.node)

  -- An atom is fresh for a bound variable exactly if the atom that its value's images send to it is fresh for the value's node.
  value_fresh : (∇ : Environment) (a X : ℕ) (v : Side) → value X ≡ some v → (∇ ⊢ a # σ X) ↔ (∇ ⊢ image (inverted v.images) a # meant v.node)
  value_fresh ∇ a X v e =
      let e' : value_of bs X ≡ some v = sym (same X) ∙ e in
      let back : act (inverse (swaps_of v.images)) a ≡ image (inverted v.images) a =
      act_back (record { long = m.long X v e'; permutes = m.permutes X v e' }) a in
      let fresh = fresh_inverse (swaps_of v.images) a (meant v.node) in
      (λ h. rw back at (fresh.0 (rw (value_tree X v e) at h)), λ h. rw (value_tree X v e) (fresh.1 (rw back h)))

  -- ---- downwards: what derives a pair derives what it leads to

  leads_means : (∇ : Environment) {v w : Pair} → PairLeads nodes value v w → Means ∇ v → Means ∇ w
  leads_means ∇ (to_body {b = b} {n = n} {m = i} e d) h = fresh_abstraction.0 (rw (built_at n (abstraction_form b i) e) at h) d
  leads_means ∇ (to_argument {f = f} {n = n} {m = i} e) h = fresh_application.0 (rw (built_at n (application_form f i) e) at h)
  leads_means ∇ (to_left {n = n} {l = l} {r = r} e) h = (fresh_pair.0 (rw (built_at n (pair_form l r) e) at h)).0
  leads_means ∇ (to_right {n = n} {l = l} {r = r} e) h = (fresh_pair.0 (rw (built_at n (pair_form l r) e) at h)).1
  leads_means ∇ (to_variable {a = a} {n = n} {X = X} {π = π} e) h = (fresh_inverse π a (σ X)).0 (rw (built_at n (suspension_form π X) e) at h)
  leads_means ∇ (to_value {a = a} {X = X} {v = v} e) h = (value_fresh ∇ a X v e).0 h

  reached_means : (∇ : Environment) (S : Pair → Type 0) → ((w : Pair) → S w → Means ∇ w) → {w : Pair} → PairReached nodes value S w → Means ∇ w
  reached_means ∇ S h (start s) = h _ s
  reached_means ∇ S h (further r l) = leads_means ∇ l (reached_means ∇ S h r)

  -- ---- upwards: closed marks without clash are a derivation

  module _ (Mark : Pair → Type 0) (closed : (w : Pair) → Mark w → Closed nodes value Mark w) (no_clash : Clashing nodes Mark → ⊥) where
    -- The marks at unbound variables.
    abbrev Unbound : Environment
    Unbound a X = Mark (of_variable a X) × (value_of bs X ≡ none)

    -- All atoms that are marked at a node are derived.
    abbrev Sound : ℕ → Type 0
    Sound n = (a : ℕ) → Mark (of_node a n) → Unbound ⊢ a # meant n

    -- A variable, if the node of its value is derived.
    sound_variable : (X a : ℕ) → Mark (of_variable a X) → ((v : Side) → value_of bs X ≡ some v → Sound v.node) → Unbound ⊢ a # σ X
    sound_variable X a h bound =
        by_value (value_of bs X)
        (λ u. rw (m.free X u) (fresh_suspension.1 (h, u)))
        (λ v u.
        let q : value X ≡ some v = same X ∙ u in
        (value_fresh Unbound a X v q).1 (bound v u (image (inverted v.images) a) (closed (of_variable a X) h _ (to_value q))))

    -- A node, if all marked nodes whose trees are smaller are derived, and the node of a bound variable's value.
    module _ (k : ℕ) (smaller : (n : ℕ) → size (meant n) < k → Sound n) where
      sound_form : (n : ℕ) → size (meant n) ≤ k
          → ((π : Swaps) (X : ℕ) (v : Side) → form_at nodes n ≡ suspension_form π X → value_of bs X ≡ some v → Sound v.node)
          → (f : Node) → form_at nodes n ≡ f → Sound n
      sound_form n l bound unit_form e a h = rw (built_at n unit_form e) #-unit
      sound_form n l bound (atom_form b) e a h =
          rw (built_at n (atom_form b) e) (fresh_atom.1 (λ q. no_clash (a, n, h, e ∙ ap atom_form (sym q))))
      sound_form n l bound (abstraction_form b i) e a h =
          let less : size (meant i) < k = omega (arith, ap size (built_at n (abstraction_form b i) e)) in
          rw (built_at n (abstraction_form b i) e) (fresh_abstraction.1 (λ d. smaller i less a (closed (of_node a n) h (of_node a i) (to_body e d))))
      sound_form n l bound (pair_form x y) e a h =
          let q : size (meant n) ≡ suc (size (meant x) + size (meant y)) = ap size (built_at n (pair_form x y) e) in
          rw (built_at n (pair_form x y) e)
          (#-pair (smaller x (omega arith) a (closed (of_node a n) h (of_node a x) (to_left e)))
          (smaller y (omega arith) a (closed (of_node a n) h (of_node a y) (to_right e))))
      sound_form n l bound (application_form f i) e a h =
          let less : size (meant i) < k = omega (arith, ap size (built_at n (application_form f i) e)) in
          rw (built_at n (application_form f i) e) (#-function_symbol (smaller i less a (closed (of_node a n) h (of_node a i) (to_argument e))))
      sound_form n l bound (suspension_form π X) e a h =
          let sent = act (inverse π) a in
          rw (built_at n (suspension_form π X) e)
          ((fresh_inverse π a (σ X)).1 (sound_variable X sent (closed (of_node a n) h (of_variable sent X) (to_variable e)) (λ v u. bound π X v e u)))

      -- Along the bindings of suspensions, as often as resolving goes on.
      top_here : (s : Side) (π : Swaps) (X : ℕ) → form_at nodes s.node ≡ suspension_form π X
          → top g s ≡ suspension_form (after s.images (of_swaps g.atoms π)) X
      unfolding top
      top_here s π X e = ap (permuted g.atoms s.images) e

      once : (j : ℕ) (s : Side) (P : Table) (X : ℕ) (v : Side) → top g s ≡ suspension_form P X → value_of bs X ≡ some v
          → resolved_in (suc j) g bs s ≡ resolved_in j g bs (under P v)
      unfolding resolved_in
      once j s P X v e q = rw (e, q)

      same_size : (n : ℕ) (π : Swaps) (X : ℕ) (v : Side) → form_at nodes n ≡ suspension_form π X → value_of bs X ≡ some v
          → size (meant v.node) ≡ size (meant n)
      same_size n π X v e q =
          sym (ap size (built_at n (suspension_form π X) e) ∙ size_permute π (σ X)
          ∙ ap size (value_tree X v (same X ∙ q)) ∙ size_permute (swaps_of v.images) (meant v.node))

      sound_chain : (j : ℕ) (s : Side) → Settled bs (top g (resolved_in j g bs s)) → size (meant s.node) ≤ k → Sound s.node
      unfolding resolved_in
      sound_chain zero s t l =
          sound_form s.node l
          (λ π X v e q. absurd (let z : ◌≡◌ {A = ℕ} 0 1 = cc (q, t _ X (top_here s π X e)) in omega arith))
          (form_at nodes s.node) refl
      sound_chain (suc j) s t l =
          sound_form s.node l
          (λ π X v e q.
          sound_chain j (under (after s.images (of_swaps g.atoms π)) v) (rw (once j s _ X v (top_here s π X e) q) at t)
          (omega (arith, same_size s.node π X v e q)))
          (form_at nodes s.node) refl

    sound_below : (k n : ℕ) → size (meant n) < k → Sound n
    unfolding resolved
    sound_below zero n l = absurd (omega arith)
    sound_below (suc k) n l = sound_chain k (sound_below k) (length bs) (plain g.atoms n) (m.settles (plain g.atoms n)) (omega arith)

    sound_node : (n : ℕ) → Sound n
    sound_node n = sound_below (suc (size (meant n))) n (omega arith)

    marked_means : (w : Pair) → Mark w → Means Unbound w
    marked_means (of_node a n) h = sound_node n a h
    marked_means (of_variable a X) h = sound_variable X a h (λ v u. sound_node v.node)

  -- ---- the demands

  asked_means : (∇ : Environment) (d : Asked) (w : Pair) → AskedAs nodes d w → Derives ∇ σ d ↔ Means ∇ w
  asked_means ∇ d (of_node b n) (π, e, q) =
      let t : substitute σ d.1 ≡ permute π (meant n) = ap (substitute σ) e ∙ substitute_permute σ π (tree nodes n) in
      let fresh = fresh_inverse π d.0 (meant n) in
      (λ h. rw q (fresh.0 (rw t at h)), λ h. rw t (fresh.1 (rw q at h)))
  asked_means ∇ d (of_variable b X) (e, q) =
      let t : substitute σ d.1 ≡ σ X = ap (substitute σ) e ∙ permute_nil (σ X) in
      (λ h. rw q (rw t at h), λ h. rw t (rw q at h))

  module _ {S Mark : Pair → Type 0} {clashes : Type 0} (r : PairsResolved nodes value S Mark clashes) (asked : List Asked) (s : Asks nodes asked S) where
    -- An environment that derives the demands derives all that is marked.
    derived : (∇ : Environment) → Every (Derives ∇ σ) asked → (w : Pair) → Mark w → Means ∇ w
    derived ∇ h w k =
        reached_means ∇ S (λ v i. let (d, l, q) = s.only v i in (asked_means ∇ d v q).0 (every_at (Derives ∇ σ) l h)) (r.from w k)

    -- The facts that resolving gives, as an environment: they derive the demands.
    abbrev Given : List Fact → Environment
    Given fs b X = Memᴰ (b, X) fs

    given_derives : (fs : List Fact) → resolved_all σ asked ≡ some fs → Every (Derives (Given fs) σ) asked
    given_derives fs q = (resolved_all_derives (Given fs) σ asked).1 (rw q (every_of (Has (Given fs) σ) fs (λ f i. i)))

    -- "A demand that ends at an atom fresh for itself gives 12".
    pub resolved_fails : Clashing nodes Mark → resolved_all σ asked ≡ none
    resolved_fails (a, n, h, e) = by_outcome (resolved_all σ asked) refl
      where
        by_outcome : (c : Option (List Fact)) → resolved_all σ asked ≡ c → resolved_all σ asked ≡ none
        by_outcome none q = q
        by_outcome (some fs) q =
            let k = derived (Given fs) (given_derives fs q) (of_node a n) h in
            absurd (fresh_atom.0 (rw (built_at n (atom_form a) e) at k) refl)

    -- "The rest are the facts of the answer: pairs of atom and unbound variable."
    pub resolved_facts : (Clashing nodes Mark → ⊥)
        → (fs : List Fact) × (resolved_all σ asked ≡ some fs)
        × ((a X : ℕ) → Memᴰ (a, X) fs ↔ (Mark (of_variable a X) × (value_of bs X ≡ none)))
    resolved_facts quiet = by_outcome (resolved_all σ asked) refl ((resolved_all_derives ∇ σ asked).0 (every_of (Derives ∇ σ) asked met))
      where
        ∇ : Environment
        ∇ = Unbound Mark r.closed quiet

        met : (d : Asked) → Memᴰ d asked → Derives ∇ σ d
        met d i = let (w, k, q) = s.all d i in (asked_means ∇ d w q).1 (marked_means Mark r.closed quiet w (r.has w k))

        by_outcome : (c : Option (List Fact)) → resolved_all σ asked ≡ c → Each (Has ∇ σ) c
            → (fs : List Fact) × (resolved_all σ asked ≡ some fs)
            × ((a X : ℕ) → Memᴰ (a, X) fs ↔ (Mark (of_variable a X) × (value_of bs X ≡ none)))
        by_outcome none q h = absurd h
        by_outcome (some fs) q h = (
          fs,
          q,
          λ a X. (
            λ i. every_at (Has ∇ σ) i h,
            λ k. fresh_suspension.0 (rw (m.free X k.1) at (derived (Given fs) (given_derives fs q) (of_variable a X) k.0)),
          ),
        )

    -- Both at once, by the verdict that was read off the marks.
    pub resolved_right : (clashes → resolved_all σ asked ≡ none)
        × ((clashes → ⊥) → (fs : List Fact) × (resolved_all σ asked ≡ some fs)
        × ((a X : ℕ) → (has_fact (a, X) fs ≡ true) ↔ (Mark (of_variable a X) × (value_of bs X ≡ none))))
    resolved_right = (
      λ c. resolved_fails (r.verdict.0 c),
      λ c.
          let (fs, q, h) = resolved_facts (λ k. c (r.verdict.1 k)) in
          (fs, q, λ a X. (λ e. (h a X).0 ((has_fact_true (a, X) fs).0 e), λ k. (has_fact_true (a, X) fs).1 ((h a X).1 k))),
    )
