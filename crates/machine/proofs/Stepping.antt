-- The laws of one step: in a state that the run comes to, the resolved sides, the rule that is told and what it takes are the definition's.
use Prim.Native.Nat.{ℕ, suc, ◌+◌, ◌≤◌, ◌<◌}
use native.Mathlib.Omega.{arith}
use mathlib.Core.Path.{◌≡◌, refl, sym, ◌∙◌, ap}
use mathlib.Core.Logic.{inl, inr}
use mathlib.Core.Bool.{Bool, false, cond}
use mathlib.Core.List.{List, [], ◌∷◌}
use mathlib.Core.Option.{none, some}
use lib.ListN.{length, length-append}
use Rattle.permutation.specs.Table.{Table, after, of_swaps}
use Rattle.permutation.specs.Store as Store
use Rattle.sets.specs.Bits.{member}
use Rattle.sets.proofs.Bits.{by_member}
use Rattle.problem.specs.Problem.{Node, unit_form, atom_form, abstraction_form, pair_form, application_form, suspension_form, form_at, Problem}
use Rattle.problem.specs.Readable.{Named, Readable}
use Rattle.problem.specs.Held.{problem_of}
use Rattle.problem.specs.Look.{form_now, form_told, own_swaps}
use Rattle.run.specs.Meaning.{Side, Binding, meaning}
use Rattle.run.specs.Run.{Subject, Ground, top, value_of, permuted, resolved, goes_on, rule, step, pending}
use Rattle.run.proofs.Did.{occurs_side}
use Rattle.run.proofs.Bindings.{Meant, Settled}
use Rattle.run.proofs.States.{State as RunState, Keeps as KeepsAll, step_keeps}
use Rattle.room.specs.Stacks.{after_step}
use Rattle.room.proofs.Room.{reaches_room}
use Rattle.stack.specs.Stack.{Stack, stack_of, equation_of}
use Rattle.stack.specs.declared.Pending.{Pending}
use Rattle.stack.proofs.Laws.{length_stack_of}
use Rattle.bindings.specs.Bindings.{Bindings, binding_at, bindings_of, Keeps, NodesThere}
use Rattle.bindings.proofs.Laws.{value_of_set}
use Rattle.occurs.specs.Reached.{Rooted}
use Rattle.occurs.proofs.Bindings.{rooted}
use Rattle.occurs.proofs.Meaning.{occurs_meaning}
use Rattle.side.specs.declared.Side.{Side as HeldSide}
use Rattle.side.specs.Side.{ground_in, side_at, side_held, whole_of, SideResolved}
use Rattle.rule.specs.declared.Act.{Act}
use Rattle.rule.specs.declared.Act.TheVariants.{Done, Clash, Inside, Protection, Part, Parts, Renamed, Same, BindLeft, BindRight}
use Rattle.rule.specs.Rule.{RuleFits, OccursTold, Free, Agrees, Decided}
use Rattle.rule.proofs.Ruling.{ruled, Names, names}
use Rattle.perform.specs.declared.State.{State}
use Rattle.perform.specs.Performed.{step_told, Takes}
use Rattle.quick.proofs.Underway.{state_reached, values_there}
use Rattle.machine.specs.Step.{Present, step_here}

length_pending : (k : ℕ) (qs : List (Side × Side)) → length (pending k qs) ≡ length qs
length_pending k [] = refl
length_pending k (q ∷ qs) = ap suc (length_pending k qs)

-- ---- the forms of resolved sides

-- A variable has no value exactly if it is not bound.
module _ (A : ℕ) (t : Bindings) (k bound : ℕ) (keeps : Keeps t.made k bound) where
  unbound : (X : ℕ) → value_of (bindings_of A t k) X ≡ none → member bound X ≡ false
  unbound X e =
      by_member bound X
      (λ m.
      absurd
      (let value : none ≡ some (binding_at A t X).value =
      sym e ∙ value_of_set A t k bound keeps X ∙ ap (λ (b : Bool). cond b (some (binding_at A t X).value) none) m in
      let z : ◌≡◌ {A = ℕ} 0 1 = cc in omega arith))
      (λ m. m)

  valueless : (X : ℕ) → member bound X ≡ false → value_of (bindings_of A t k) X ≡ none
  valueless X m = value_of_set A t k bound keeps X ∙ rw m

  free_form : (atoms : ℕ) (P : Table) (v : Node) → Settled (bindings_of A t k) (permuted atoms P v) → Free bound (form_told v)
  free_form atoms P unit_form s = refl
  free_form atoms P (atom_form a) s = refl
  free_form atoms P (abstraction_form a n) s = refl
  free_form atoms P (pair_form l r) s = refl
  free_form atoms P (application_form f n) s = refl
  free_form atoms P (suspension_form π X) s = unbound X (s (after P (of_swaps atoms π)) X refl)

whole_here : (s : List ℕ) (A : ℕ) (P : Table) (n : ℕ) → A ≡ (problem_of s).atoms
    → whole_of s A P n ≡ after P (of_swaps (problem_of s).atoms (own_swaps (form_now s n)))
unfolding whole_of
whole_here s A P n e = ap (λ (k : ℕ). after P (of_swaps k (own_swaps (form_now s n)))) e

top_here : (s : List ℕ) (f : ℕ → Bool) (x : Side) → top (ground_in s f) x ≡ permuted (problem_of s).atoms x.images (form_now s x.node)
unfolding top
top_here s f x = refl

step_here_lem : (g : Ground) (bs : List Binding) (l r s t : Side) → s ≡ resolved g bs l → t ≡ resolved g bs r
    → rule g bs s t (top g s) (top g t) ≡ step g bs l r
unfolding step
step_here_lem g bs l r s t e f = rw (e, f)

-- ---- what an act takes

module _ (s : List ℕ) (A w : ℕ) (state : State) (bs : List Binding) (l r : HeldSide)
    (named : (m : ℕ) → Named (problem_of s).atoms (problem_of s).variables m (form_at (problem_of s).nodes m))
    (number : A ≡ (problem_of s).atoms) (there : l.node.0 < length (problem_of s).nodes) (here : r.node.0 < length (problem_of s).nodes)
    (free : (X : ℕ) → value_of bs X ≡ none → member state.bound.0 X ≡ false) where
  takes_of : (act : Act) → Names (problem_of s).variables (form_now s l.node.0) (form_now s r.node.0) act
      → KeepsAll (ground_in s (member w)) (problem_of s).variables named bs (step_told s A l r act)
      → ((qs : List (Side × Side)) (b : List (ℕ × Side)) (c : List (ℕ × Subject)) → step_told s A l r act ≡ goes_on qs b c
      → length qs + state.waiting ≤ 576)
      → Takes s A state l r act
  takes_of Done i k m = tt
  takes_of Clash i k m = tt
  takes_of Inside i k m = tt
  takes_of Protection i k m = tt
  takes_of (Part a b) i k m = let q = m _ _ _ refl in omega arith
  takes_of (Parts a b c d) i k m = let q = m _ _ _ refl in omega arith
  takes_of (Renamed a b c d) i k m = let q = m _ _ _ refl in (omega arith, rw number k.2.0.0, k.2.0.1.there)
  takes_of (Same x) i k m = (i.0, (there, i.1), (here, i.2))
  takes_of (BindLeft x) i k m = (k.1.0.small, (there, i), free x.0 k.1.0.unbound)
  takes_of (BindRight x) i k m = (k.1.0.small, (here, i), free x.0 k.1.0.unbound)

-- ---- in a state that the run comes to

module _ {s : List ℕ} {places : List ℕ} {variables_of_nodes : List ℕ} {A w : ℕ} {waiting : Stack} {made : Bindings} {state : State} {e : Pending}
    (h : Present s places variables_of_nodes A w waiting made state e) where
  abbrev problem : Problem
  problem = problem_of s

  abbrev ground : Ground
  ground = ground_in s (member w)

  abbrev bound : ℕ
  bound = state.bound.0

  abbrev bs : List Binding
  bs = bindings_of A made state.count

  readable : Readable problem
  readable = h.footing.standing.readable

  pub few : A ≤ 32
  few = rw h.footing.number readable.few_atoms

  run_state : RunState ground problem.variables readable.named_nodes (equation_of A e ∷ stack_of A waiting state.waiting) bs h.demanded
  run_state = state_reached s w readable h.circleless h.reached

  meant : Meant ground problem.variables bs (meaning problem.nodes bs)
  meant = run_state.meant

  values_stand : Rooted bs bound made.made
  values_stand = rooted A made state.count bound h.keeps

  pub nodes_there : NodesThere (length problem.nodes) made.made bound
  nodes_there = values_there A made state.count bound h.keeps meant

  pub nodes_small : NodesThere 512 made.made bound
  nodes_small Y b = omega (arith, nodes_there Y b, readable.few_nodes)

  pub left_there : e.left_node.0 < length problem.nodes
  unfolding equation_of
  left_there = run_state.waiting.0.0.there

  pub right_there : e.right_node.0 < length problem.nodes
  unfolding equation_of
  right_there = run_state.waiting.0.1.there

  -- What the occurs check says of an unbound variable.
  told : (X m : ℕ) (P : Table) → member bound X ≡ false → m < length problem.nodes
      → OccursTold bound made.made variables_of_nodes m X (occurs_side ground bs X (record { images = P; node = m }))
  told X m P u t b a =
      occurs_meaning meant variables_of_nodes values_stand h.footing.filled (record { images = P; node = m }) t X
      (valueless A made state.count bound h.keeps X u) b a

  -- The form of a resolved side is no suspension of a bound variable.
  free : (before : Side) (x : HeldSide) → SideResolved s A made bound state.count before x → Free bound x.form
  free before x i =
      let settled = rw (← (i.side (member w) h.keeps), top_here s (member w) (side_held A x)) at (meant.settles before) in
      rw i.form (free_form A made state.count bound h.keeps problem.atoms (Store.table A x.images) (form_now s x.node.0) settled)

  -- The sides as they are resolved, and what is told of them.
  module _ {l r : HeldSide} {act : Act} (i : SideResolved s A made bound state.count (side_at A e.left e.left_node) l)
      (j : SideResolved s A made bound state.count (side_at A e.right e.right_node) r)
      (d : Decided A (member w) bound made.made variables_of_nodes l r act) where
    abbrev left_form : Node
    left_form = form_now s l.node.0

    abbrev right_form : Node
    right_form = form_now s r.node.0

    agree : Agrees A bound made.made variables_of_nodes l r (occurs_side ground bs)
    agree X m p u (inl q) = told X m.0 (Store.table A p) u (rw q i.there)
    agree X m p u (inr q) = told X m.0 (Store.table A p) u (rw q j.there)

    -- The rule that is told is one that fits.
    fits : RuleFits (member w) (occurs_side ground bs) (side_held A l) (side_held A r) (form_told left_form) (form_told right_form) act
    fits = rw (i.form, j.form) at (d (occurs_side ground bs) agree (free _ l i) (free _ r j))

    -- What is told is the definition's step.
    pub step_is : step_told s A l r act ≡ step_here s A w made state e
    unfolding equation_of
    step_is =
        let left_whole_here = whole_here s A (Store.table A l.images) l.node.0 h.footing.number in
        let right_whole_here = whole_here s A (Store.table A r.images) r.node.0 h.footing.number in
        rw (left_whole_here, right_whole_here)
        (ruled ground bs (side_held A l) (side_held A r) left_form right_form act fits
        ∙ rw (← (top_here s (member w) (side_held A l)), ← (top_here s (member w) (side_held A r)))
        (step_here_lem ground bs (side_at A e.left e.left_node) (side_at A e.right e.right_node) (side_held A l) (side_held A r)
        (i.side (member w) h.keeps) (j.side (member w) h.keeps)))

    named_there : Names problem.variables left_form right_form act
    named_there = names problem.atoms problem.variables l.node.0 left_form right_form act (readable.named_nodes l.node.0) fits

    kept : KeepsAll ground problem.variables readable.named_nodes bs (step_told s A l r act)
    kept =
        rw step_is
        (step_keeps ground problem.variables readable.named_nodes meant (equation_of A e).left (equation_of A e).right run_state.waiting.0.0
        run_state.waiting.0.1)

    -- Room for what comes of it.
    room : (qs : List (Side × Side)) (b : List (ℕ × Side)) (c : List (ℕ × Subject)) → step_told s A l r act ≡ goes_on qs b c
        → length qs + state.waiting ≤ 576
    room qs b c q =
        let k = reaches_room problem readable (member w) h.circleless _ _ _ (after_step h.reached (sym step_is ∙ q)) in
        omega (
          arith,
          k,
          length-append (pending (equation_of A e).number qs) (stack_of A waiting state.waiting),
          length_pending (equation_of A e).number qs,
          length_stack_of A waiting state.waiting,
        )

    pub takes : Takes s A state l r act
    takes =
        takes_of s A w state bs l r readable.named_nodes h.footing.number i.there j.there
        (unbound A made state.count bound h.keeps) act named_there kept room
