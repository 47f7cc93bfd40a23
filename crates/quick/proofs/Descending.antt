-- The laws of the loop that goes down from one equation: the nodes of the equation on top are with the loop, and the run is on its way with that equation
-- above those in the tables. Each turn is a step of the definition's run.
use Prim.Native.Nat.{ℕ, ◌+◌, ◌-◌, ◌≤◌, ◌<◌}
use native.Mathlib.Omega.{arith}
use mathlib.Core.Path.{◌≡◌, refl, ◌∙◌, ap}
use mathlib.Core.Logic.{◌≢◌}
use mathlib.Core.List.{List, ◌∷◌, ◌++◌}
use lib.ListN.{length}
use Rattle.names.specs.declared.NodeId.{NodeId}
use Rattle.permutation.specs.Table.{Table}
use Rattle.sets.specs.Bits.{member}
use Rattle.problem.specs.Held.{problem_of}
use Rattle.problem.specs.Look.{Standing}
use Rattle.run.specs.Meaning.{Binding}
use Rattle.run.specs.Run.{resolved, step, pending}
use Rattle.run.proofs.States.{State as RunState}
use Rattle.stack.specs.Stack.{Stack, stack_tables, stack_of}
use Rattle.stack.specs.InPlace.{left_at, right_at, nodes_at, equation_at, stack_with, Renewed, Split}
use Rattle.stack.specs.declared.Nodes.{Nodes}
use Rattle.stack.proofs.Laws.{length_stack_of}
use Rattle.stack.proofs.InPlace.{top_at}
use Rattle.bindings.specs.Bindings.{bindings_of}
use Rattle.side.specs.Side.{ground_in}
use Rattle.perform.specs.declared.State.{State}
use Rattle.perform.specs.Performed.{StepTables, tables_of}
use Rattle.quick.specs.Going.{Going, SomeGoing, state_at, CarriedOn}
use Rattle.quick.specs.Met.{side_under, FreeAt, LeadsTo, Facing, MeetTables, left_of, rule_of, Met}
use Rattle.quick.specs.declared.Meeting.{Meeting}
use Rattle.quick.specs.declared.Meeting.TheVariants.{Done, Part, Parts}
use Rattle.quick.specs.declared.Went.{Went}
use Rattle.quick.proofs.Underway.{few_wait, state_reached, values_there, Underway, underway, going, steps_on}

-- ---- the equation on top, whose nodes are with the loop

-- The run is on its way with the equation of these nodes, under the images at place n, above the n others.
pub record Atop (s : List ℕ) (A w L : ℕ) (first : List Binding) (t : StepTables) (number : ℕ) (l r : NodeId) (n steps : ℕ)
    (state : State) : Type 0 where
  pub underway : Underway s A w L first (stack_with A number l r t.stack n) t.bindings t.sheet steps state

module _ {s : List ℕ} {places : List ℕ} {A w L : ℕ} {first : List Binding} {t : StepTables} {number : ℕ} {l r : NodeId} {n steps : ℕ} {state : State}
    (standing : Standing s places) (all : A ≡ (problem_of s).atoms) (h : Atop s A w L first t number l r n steps state) where
  abbrev bs : List Binding
  bs = bindings_of A t.bindings state.count

  abbrev P : Table
  P = left_at A t.stack.images n

  abbrev Q : Table
  Q = right_at A t.stack.images n

  abbrev here : Underway s A w L first (stack_with A number l r t.stack n) t.bindings t.sheet steps state
  here = h.underway

  reached_here : RunState (ground_in s (member w)) (problem_of s).variables standing.readable.named_nodes (stack_with A number l r t.stack n) bs
      here.demanded
  reached_here = state_reached s w standing.readable here.circleless here.reached

  atop_facing : Facing s places A n t.stack.images l r
  atop_facing =
      let sides = reached_here.waiting.0 in
      record {
        standing = standing;
        number = all;
        placed = omega (arith, few_wait s w standing.readable here.circleless here.reached, length_stack_of A t.stack n);
        left = sides.0;
        right = sides.1;
      }

  -- Where its nodes lead.
  module _ {i j : NodeId} (left : LeadsTo s t.bindings state.bound.0 l i) (right : LeadsTo s t.bindings state.bound.0 r j) where
    led_facing : Facing s places A n t.stack.images i j
    led_facing =
        let facing = atop_facing in
        let nodes = values_there A t.bindings state.count state.bound.0 here.keeps reached_here.meant in
        record {
          standing = standing;
          number = all;
          placed = facing.placed;
          left = record { images = facing.left.images; there = left.there _ nodes facing.left.there };
          right = record { images = facing.right.images; there = right.there _ nodes facing.right.there };
        }

    leads : (R : Table) (m k : NodeId) → length R ≡ (problem_of s).atoms → FreeAt s state.bound.0 k → LeadsTo s t.bindings state.bound.0 m k
        → resolved (ground_in s (member w)) bs (side_under R m) ≡ side_under R k
    leads R m k long free to = rw all (to.resolves state.count here.keeps (member w) R long free)

    -- They have met.
    module _ {meeting : Meeting} {after : MeetTables}
        (met : Met s A state.bound.0 number n i j meeting (record { images = t.stack.images; sheet = t.sheet }) after) where
      step_is : step (ground_in s (member w)) bs (side_under P l) (side_under Q r) ≡ rule_of s (member w) bs (side_under P i) (side_under Q j)
      unfolding step
      step_is =
          let facing = atop_facing in
          rw (leads P l i facing.left.images.long met.left left, leads Q r j facing.right.images.long met.right right)

      met_on : steps < L
          → Underway s A w L first (pending number (left_of A after.images n meeting) ++ stack_of A (stack_tables t.stack.heads after.images) n)
          t.bindings after.sheet (steps + 1) state
      met_on less =
          let taken = met.taken (member w) bs in
          rw (taken.below t.stack.heads)
          (steps_on here less (step_is ∙ taken.onward)
          (λ ds raised. taken.raised (length (problem_of s).nodes) (problem_of s).variables ds standing.readable.few_nodes raised))

-- ---- down from the equation on top

-- As many equations wait as there is room for.
pub some_few : {s : List ℕ} {places : List ℕ} {A L : ℕ} {t : StepTables} {taken : ℕ} {state : State} → Standing s places
    → SomeGoing s A L t taken state → state.waiting ≤ 576
some_few {s} {A = A} {t = t} {state = state} standing start =
    let going = start.going in
    omega (arith, few_wait s start.protected standing.readable going.circleless going.reached, length_stack_of A t.stack state.waiting)

-- From whatever start and under whatever protection the run is on its way with the equation that the loop has come to, and no step less is taken.
pub record Down (s : List ℕ) (places : List ℕ) (A L : ℕ) (before : StepTables) (taken : ℕ) (state : State) (t : StepTables) (number : ℕ)
    (l r : NodeId) (n steps : ℕ) : Type 0 where
  pub standing : Standing s places
  pub all : A ≡ (problem_of s).atoms
  pub start : SomeGoing s A L before taken state
  pub atop : (w : ℕ) (first : List Binding) → Going s A w L first before taken state → Atop s A w L first t number l r n steps state
  pub more : taken ≤ steps

pub down_start : {s : List ℕ} {places : List ℕ} {A L : ℕ} {t : StepTables} {taken : ℕ} {state : State} {top : Nodes}
    → Standing s places × (A ≡ (problem_of s).atoms) × (state.waiting ≢ 0) → SomeGoing s A L t taken state
    → top ≡ nodes_at t.stack.heads (state.waiting - 1)
    → Down s places A L t taken state t top.number top.left top.right (state.waiting - 1) taken
down_start {A = A} {t = t} {state = state} {top} (standing, all, waits) start is_top =
    let few : A ≤ 32 = rw all standing.readable.few_atoms in
    let one_more : state.waiting ≡ state.waiting - 1 + 1 = omega arith in
    let stack_is : stack_of A t.stack state.waiting ≡ stack_with A top.number top.left top.right t.stack (state.waiting - 1) =
    ap (stack_of A t.stack) one_more ∙ top_at A t.stack (state.waiting - 1) few ∙ rw is_top in
    record { standing = standing; all = all; start = start; atop = λ w first g. record { underway = underway stack_is g }; more = omega arith }

module _ {s : List ℕ} {places : List ℕ} {A L : ℕ} {before : StepTables} {taken : ℕ} {state : State} {t : StepTables} {number : ℕ} {l r : NodeId}
    {n steps : ℕ} (h : Down s places A L before taken state t number l r n steps) where
  few_atoms : A ≤ 32
  few_atoms = rw h.all h.standing.readable.few_atoms

  from_start : Atop s A h.start.protected L h.start.first t number l r n steps state
  from_start = h.atop h.start.protected h.start.first h.start.going

  pub down_facing : Facing s places A n t.stack.images l r
  down_facing = atop_facing h.standing h.all from_start

  -- The equation waits again: its nodes are written, and the other tables are as they were.
  pub down_waits : {heads : List (List ℕ)} {after : MeetTables} {z : Went} → after ≡ record { images = t.stack.images; sheet = t.sheet }
      → Renewed n number l r t.stack.heads heads × (z ≡ record { waiting = n + 1; steps = steps })
      → CarriedOn s A L before taken state (tables_of (stack_tables heads after.images) t.bindings after.sheet) z
  down_waits same waits =
      rw (same, waits.1)
      (record { going = λ w first g. going (waits.0.stack A t.stack.images few_atoms) (h.atop w first g).underway; more = h.more })

  -- No step more may be taken: all were.
  pub down_all : L ≤ steps → steps ≡ L
  down_all h = omega (arith, h, from_start.underway.within)

  -- Where its nodes lead.
  module _ {i j : NodeId} (left : LeadsTo s t.bindings state.bound.0 l i) (right : LeadsTo s t.bindings state.bound.0 r j) where
    pub down_led : Facing s places A n t.stack.images i j
    down_led = led_facing h.standing h.all from_start left right

    -- The tables after the meeting.
    abbrev met_tables : MeetTables → StepTables
    met_tables after = tables_of (stack_tables t.stack.heads after.images) t.bindings after.sheet

    abbrev HasMet : Meeting → MeetTables → Type 0
    HasMet meeting after = Met s A state.bound.0 number n i j meeting (record { images = t.stack.images; sheet = t.sheet }) after

    module _ (less : steps < L) where
      onwards : {meeting : Meeting} {after : MeetTables} → HasMet meeting after → (w : ℕ) (first : List Binding)
          → Going s A w L first before taken state
          → Underway s A w L first (pending number (left_of A after.images n meeting) ++ stack_of A (met_tables after).stack n) t.bindings
          after.sheet (steps + 1) state
      onwards met w first g = met_on h.standing h.all (h.atop w first g) left right met less

      more_steps : taken ≤ steps + 1
      more_steps = let m = h.more in omega arith

      -- The equation is done.
      pub down_done : {after : MeetTables} → HasMet Done after
          → CarriedOn s A L before taken state (met_tables after) (record { waiting = n; steps = steps + 1 })
      down_done met = record { going = λ w first g. going refl (onwards met w first g); more = more_steps }

      -- It goes on with one part of each side.
      pub down_part : {m k : NodeId} {after : MeetTables} → HasMet (Part m k) after
          → Down s places A L before taken state (met_tables after) number m k n (steps + 1)
      down_part met =
          record {
            standing = h.standing;
            all = h.all;
            start = h.start;
            atop = λ w first g. record { underway = onwards met w first g };
            more = more_steps;
          }

      -- With two: there is room for one more, and the second parts wait.
      module _ {m o k p : NodeId} {after : MeetTables} (met : HasMet (Parts m o k p) after) where
        pub down_room : n + 1 < 576
        down_room =
            let start = h.start in
            let next = onwards met start.protected start.first start.going in
            let few = few_wait s start.protected h.standing.readable next.circleless next.reached in
            omega (arith, few, length_stack_of A (met_tables after).stack n)

        pub down_parts : {later : Stack} → Split n number o p (met_tables after).stack later
            → Down s places A L before taken state (tables_of later t.bindings after.sheet) number m k (n + 1) (steps + 1)
        down_parts {later} halves =
            let stack_is : stack_with A number m k later (n + 1)
            ≡ equation_at A number m k after.images n ∷ stack_with A number o p (met_tables after).stack n =
            rw (halves.left A, halves.right A, halves.stack A few_atoms) in
            record {
              standing = h.standing;
              all = h.all;
              start = h.start;
              atop = λ w first g. record { underway = rw stack_is (onwards met w first g) };
              more = more_steps;
            }

-- ---- one equation after the other

module _ {s : List ℕ} {A L : ℕ} {before : StepTables} {taken : ℕ} {start : State} where
  pub onward_none : CarriedOn s A L before taken start before (record { waiting = start.waiting; steps = taken })
  onward_none = record { going = λ w first g. g; more = omega arith }

  module _ {t : StepTables} {r : Went} (h : CarriedOn s A L before taken start t r) where
    pub onward_some : SomeGoing s A L before taken start → SomeGoing s A L t r.steps (state_at start r)
    onward_some g =
        record { protected = g.protected; first = g.first; going = h.going g.protected g.first g.going }

    pub onward_more : {after : StepTables} {z : Went} → CarriedOn s A L t r.steps (state_at start r) after z → CarriedOn s A L before taken start after z
    onward_more k = record { going = λ w first g. k.going w first (h.going w first g); more = let m = h.more in let o = k.more in omega arith }
