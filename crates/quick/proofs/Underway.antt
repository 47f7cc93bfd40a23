-- The laws of a run on its way, whichever tables hold its equations: what is there in a state that it comes to, and one step on.
use Prim.Native.Nat.{ℕ, suc, ◌+◌, ◌-◌, ◌≤◌, ◌<◌}
use native.Mathlib.Omega.{arith}
use mathlib.Core.Path.{◌≡◌, ◌∙◌}
use mathlib.Core.List.{List, [], ◌∷◌, ◌++◌, append-nil}
use mathlib.Core.Option.{some}
use lib.ListN.{length}
use Rattle.sets.specs.Bits.{member}
use Rattle.problem.specs.Held.{problem_of}
use Rattle.problem.specs.Readable.{Readable}
use Rattle.run.specs.Meaning.{Side, Binding, meaning}
use Rattle.run.specs.Run.{Equation, Subject, Demand, Ground, value_of, goes_on, step, pending, demands, run}
use Rattle.run.specs.Circle.{Circleless}
use Rattle.run.proofs.Bindings.{Meant}
use Rattle.run.proofs.States.{State as RunState, state_next, start_from}
use Rattle.room.specs.Stacks.{after_step}
use Rattle.room.proofs.Reached.{reached_all}
use Rattle.room.proofs.Room.{run_onward, reaches_room}
use Rattle.stack.specs.Stack.{stack_of}
use Rattle.bindings.specs.Bindings.{Bindings, binding_at, bindings_of, Keeps, NodesThere}
use Rattle.bindings.proofs.Laws.{value_of_set}
use Rattle.demands.specs.Demands.{Sheet, Raised}
use Rattle.side.specs.Side.{ground_in}
use Rattle.perform.specs.declared.State.{State}
use Rattle.perform.specs.Performed.{StepTables}
use Rattle.quick.specs.Going.{FromStart, end_of, Going, state_at}

-- ---- what is there in a state that the run comes to

module _ (s : List ℕ) (w : ℕ) (readable : Readable (problem_of s)) {first : List Binding}
    (circleless : Circleless (problem_of s).atoms (problem_of s).variables (problem_of s).nodes first) {es : List Equation} {bs : List Binding}
    {ds : List Demand} (reached : FromStart s w first es bs ds) where
  pub few_wait : length es ≤ 576
  few_wait = reaches_room (problem_of s) readable (member w) circleless es bs ds reached

  pub state_reached : RunState (ground_in s (member w)) (problem_of s).variables readable.named_nodes es bs ds
  state_reached =
      let ground = ground_in s (member w) in
      let named = readable.named_nodes in
      reached_all (RunState ground (problem_of s).variables named) (state_next ground (problem_of s).variables named)
      (start_from (problem_of s) readable (member w) circleless) reached

-- The nodes of the values are there.
pub values_there : (A : ℕ) (made : Bindings) (k bound : ℕ) → Keeps made.made k bound → {g : Ground} {variables : ℕ}
    → Meant g variables (bindings_of A made k) (meaning g.nodes (bindings_of A made k)) → NodesThere (length g.nodes) made.made bound
unfolding binding_at
values_there A made k bound keeps meant X b =
    let value : value_of (bindings_of A made k) X ≡ some (binding_at A made X).value = value_of_set A made k bound keeps X ∙ rw b in
    (meant.fits X (binding_at A made X).value value).there

-- ---- on its way, with whatever equations

-- As `Going`, whichever tables hold the equations es.
pub record Underway (s : List ℕ) (A w L : ℕ) (first : List Binding) (es : List Equation) (made : Bindings) (asked : Sheet) (steps : ℕ) (state : State)
    : Type 0 where
  pub circleless : Circleless (problem_of s).atoms (problem_of s).variables (problem_of s).nodes first
  pub keeps : Keeps made.made state.count state.bound.0
  pub demanded : List Demand
  pub reached : FromStart s w first es (bindings_of A made state.count) demanded
  pub same : end_of s w L first ≡ run (ground_in s (member w)) (L - steps) es (bindings_of A made state.count) demanded
  pub raised : Raised (length (problem_of s).nodes) (problem_of s).variables demanded asked
  pub within : steps ≤ L

module _ {s : List ℕ} {A w L : ℕ} {first : List Binding} {t : StepTables} {steps : ℕ} {state : State} {es : List Equation} where
  pub underway : stack_of A t.stack state.waiting ≡ es → Going s A w L first t steps state
      → Underway s A w L first es t.bindings t.sheet steps state
  underway e h =
      record {
        circleless = h.circleless;
        keeps = h.keeps;
        demanded = h.demanded;
        reached = rw e at h.reached;
        same = rw e at h.same;
        raised = h.raised;
        within = h.within;
      }

  pub going : {n : ℕ} → stack_of A t.stack n ≡ es → Underway s A w L first es t.bindings t.sheet steps state
      → Going s A w L first t steps (state_at state (record { waiting = n; steps = steps }))
  going e h =
      record {
        circleless = h.circleless;
        keeps = h.keeps;
        demanded = h.demanded;
        reached = rw e h.reached;
        same = rw e h.same;
        raised = h.raised;
        within = h.within;
      }

-- A step that binds nothing.
module _ {s : List ℕ} {A w L : ℕ} {first : List Binding} {made : Bindings} {steps : ℕ} {state : State} {e : Equation} {es : List Equation} {asked : Sheet}
    (h : Underway s A w L first (e ∷ es) made asked steps state) where
  pub steps_on : {later : Sheet} {qs : List (Side × Side)} {d : List (ℕ × Subject)} → steps < L
      → step (ground_in s (member w)) (bindings_of A made state.count) e.left e.right ≡ goes_on qs [] d
      → ((ds : List Demand) → Raised (length (problem_of s).nodes) (problem_of s).variables ds asked
      → Raised (length (problem_of s).nodes) (problem_of s).variables (ds ++ demands e.number d) later)
      → Underway s A w L first (pending e.number qs ++ es) made later (steps + 1) state
  steps_on {qs = qs} {d} less is raised =
      let bs = bindings_of A made state.count in
      let left = L - (steps + 1) in
      let one_less : L - steps ≡ suc left = omega arith in
      record {
        circleless = h.circleless;
        keeps = h.keeps;
        demanded = h.demanded ++ demands e.number d;
        reached = rw append-nil at (after_step h.reached is);
        same = rw append-nil at (rw one_less at h.same ∙ run_onward (ground_in s (member w)) left e es bs h.demanded qs [] d is);
        raised = raised h.demanded h.raised;
        within = omega arith;
      }
