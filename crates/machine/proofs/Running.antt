-- The laws of the loop: from the start on, the tables hold a state of the definition's run, and what is left of the run from there is what the whole run
-- ends with.
use Prim.Native.Nat.{ℕ, zero, suc, ◌+◌, ◌-◌, ◌≤◌, ◌<◌}
use native.Mathlib.Omega.{arith}
use mathlib.Core.Path.{◌≡◌, refl, ◌∙◌, ap}
use mathlib.Core.Logic.{◌≢◌}
use mathlib.Core.List.{List, [], ◌∷◌, ◌++◌}
use Rattle.sets.specs.Bits.{member}
use Rattle.std.specs.Prelude.{Result, Ok, Err}
use Rattle.numbers.specs.declared.Reason.{Reason}
use Rattle.numbers.specs.declared.Reason.TheVariants.{Limit}
use Rattle.numbers.specs.declared.Refusal.{Refusal as GivenRefusal}
use Rattle.problem.specs.Held.{problem_of}
use Rattle.problem.specs.Problem.{Problem}
use Rattle.problem.specs.declared.Counts.{Counts}
use Rattle.problem.proofs.Counted.{all_atoms, all_variables, all_nodes}
use Rattle.run.specs.Meaning.{Side, Binding}
use Rattle.run.specs.Run.{Equation, Subject, Demand, Ground, Refusal, Step, refuses, goes_on, step, End, limit, finished, pending}
use Rattle.run.specs.Run.{bindings, demands, next, run, equations_from}
use Rattle.room.specs.Stacks.{at_start, after_step}
use Rattle.stack.specs.Stack.{Stack, stack_of, equation_of, Topped, Started}
use Rattle.stack.specs.declared.Pending.{Pending}
use Rattle.stack.proofs.Laws.{stack_of_none, length_stack_of}
use Rattle.bindings.specs.Bindings.{Bindings, binding_tables, bindings_of}
use Rattle.demands.specs.Demands.{Sheet, sheet, demands_cleared}
use Rattle.demands.proofs.Laws.{raised_none}
use Rattle.side.specs.Side.{ground_in}
use Rattle.perform.specs.declared.State.{State}
use Rattle.perform.specs.Performed.{StepTables, tables_of, reason_of, Performed}
use Rattle.quick.specs.Going.{FromStart, end_of, Going, state_at, CarriedOn}
use Rattle.quick.specs.declared.Went.{Went}
use Rattle.quick.proofs.Underway.{few_wait}
use Rattle.machine.specs.Step.{Footing, Present, step_here}
use Rattle.machine.specs.Run.{Ready, Founded, Began, RunEnded}
use Rattle.machine.specs.declared.verdict.Ran.{Ran}

-- ---- the definition's run

run_none : (g : Ground) (k : ℕ) (bs : List Binding) (ds : List Demand) → run g k [] bs ds ≡ finished k bs ds
unfolding run
run_none g zero bs ds = refl
run_none g (suc k) bs ds = refl

run_limit : (g : Ground) (e : Equation) (es : List Equation) (bs : List Binding) (ds : List Demand) → run g 0 (e ∷ es) bs ds ≡ limit e.number
unfolding run
run_limit g e es bs ds = refl

run_step : (g : Ground) (k : ℕ) (e : Equation) (es : List Equation) (bs : List Binding) (ds : List Demand)
    → run g (suc k) (e ∷ es) bs ds ≡ next (λ es' bs' ds'. run g k es' bs' ds') e.number es bs ds (step g bs e.left e.right)
unfolding run
run_step g k e es bs ds = refl

-- ---- the start

pub going_start : {s : List ℕ} {places : List ℕ} {variables_of_nodes : List ℕ} {A w L : ℕ} {t : StepTables} {start : State}
    → Began s places variables_of_nodes A t.stack t.bindings t.sheet start → Going s A w L (bindings_of A t.bindings start.count) t 0 start
going_start {L = L} h =
    let all_left : L - 0 ≡ L = omega arith in
    record {
      circleless = rw h.footing.number h.founded.circleless;
      keeps = h.founded.keeps;
      demanded = [];
      reached = rw h.stack at_start;
      same = rw (h.stack, all_left);
      raised = h.raised;
      within = omega arith;
    }

-- ---- on the way

-- By the steps that are taken where the equation lies. The bindings are only shown to them, as the tables have them.
pub going_quick : {s : List ℕ} {A w L : ℕ} {first : List Binding} {before after : Stack} {made made_shown values values_shown : List (List ℕ)}
    {asked asked_after : Sheet} {taken : ℕ} {state : State} {went : Went} → (made_shown ≡ made) × (values_shown ≡ values)
    → CarriedOn s A L (tables_of before (binding_tables made_shown values_shown) asked) taken state
    (tables_of after (binding_tables made_shown values_shown) asked_after) went
    → Going s A w L first (tables_of before (binding_tables made values) asked) taken state
    → Going s A w L first (tables_of after (binding_tables made values) asked_after) went.steps (state_at state went)
going_quick shown carried h = (rw (shown.0, shown.1) at carried).going _ _ h

-- The state without the equation on top.
abbrev pub below : State → State
below state = record { waiting = state.waiting - 1; bound = state.bound; count = state.count }

module _ {s : List ℕ} {places : List ℕ} {variables_of_nodes : List ℕ} {A w L : ℕ} {first : List Binding} {t : StepTables} {steps : ℕ} {state : State}
    (footing : Footing s places variables_of_nodes A) (h : Going s A w L first t steps state) where
  abbrev ground : Ground
  ground = ground_in s (member w)

  abbrev bs : List Binding
  bs = bindings_of A t.bindings state.count

  -- What the whole run ends with.
  abbrev end : End
  end = end_of s w L first

  pub going_few : state.waiting ≤ 576
  going_few =
      let few = few_wait s w footing.standing.readable h.circleless h.reached in
      omega (arith, few, length_stack_of A t.stack state.waiting)

  -- No equation is left.
  pub going_done : state.waiting ≡ 0
      → RunEnded s A L t (Ok (record { steps = steps; bound = state.bound; count = state.count })) end
  going_done z =
      let is_finished : end ≡ finished (L - steps) bs h.demanded =
      h.same ∙ rw (z, stack_of_none A t.stack) (run_none ground (L - steps) bs h.demanded) in
      rw is_finished
      (record {
        ran = record { steps = steps; bound = state.bound; count = state.count };
        verdict = refl;
        taken = omega (arith, h.within);
        made = refl;
        keeps = h.keeps;
        raised = h.raised;
      })

  module _ {e : Pending} (some : state.waiting ≢ 0) (topped : Topped t.stack (state.waiting - 1) e) where
    abbrev es : List Equation
    es = stack_of A t.stack (state.waiting - 1)

    -- What is given back for that equation.
    abbrev of_top : Reason → Result Ran GivenRefusal
    of_top reason = Err (record { reason = reason; place = e.number })

    stack_top : stack_of A t.stack state.waiting ≡ equation_of A e ∷ es
    stack_top =
        let q : state.waiting ≡ state.waiting - 1 + 1 = omega arith in
        ap (stack_of A t.stack) q ∙ topped.stack A (rw footing.number footing.standing.readable.few_atoms)

    top_reached : FromStart s w first (equation_of A e ∷ es) bs h.demanded
    top_reached = rw stack_top at h.reached

    pub going_present : Present s places variables_of_nodes A w t.stack t.bindings (below state) e
    going_present =
        record { footing = footing; keeps = h.keeps; first = first; circleless = h.circleless; demanded = h.demanded; reached = top_reached }

    -- "with L taken and an equation left, 8"
    pub going_limit : L ≤ steps → RunEnded s A L t (of_top Limit) end
    unfolding equation_of
    going_limit l =
        let none_left : L - steps ≡ 0 = omega arith in
        let is_limit : end ≡ limit e.number = h.same ∙ rw (none_left, stack_top) (run_limit ground (equation_of A e) es bs h.demanded) in
        rw is_limit refl

    module _ (less : steps < L) where
      abbrev told_step : Step
      told_step = step_here s A w t.bindings (below state) e

      -- What is left of the run after the step x.
      abbrev After : Step → End
      After x = next (λ es' bs' ds'. run ground (L - (steps + 1)) es' bs' ds') e.number es bs h.demanded x

      onward : (x : Step) → told_step ≡ x → end ≡ After x
      unfolding equation_of
      onward x q =
          let one_less : L - steps ≡ suc (L - (steps + 1)) = omega arith in
          h.same ∙ rw (one_less, stack_top) (run_step ground (L - (steps + 1)) (equation_of A e) es bs h.demanded ∙ ap After q)

      module _ (later : StepTables) where
        abbrev Left : Result State Reason → Step → Type 0
        Left z x = Performed s A e.number t (below state) later z x

        -- A refusing step ends the run.
        refused_so : (why : Reason) (x : Step) → Left (Err why) x → (is : Refusal) × (x ≡ refuses is) × (why ≡ reason_of is)
        refused_so why (refuses is) p = (is, refl, let q = p.outcome in cc)
        refused_so why (goes_on qs b d) p = absurd (let q = p.outcome in let y : ◌≡◌ {A = ℕ} 0 1 = cc in omega arith)

        pub going_refused : (why : Reason) → Left (Err why) told_step → RunEnded s A L later (of_top why) end
        going_refused why p =
            let (is, q, same) = refused_so why told_step p in
            rw (onward (refuses is) q) (ap of_top same)

        -- Another step goes on.
        reached_next : (qs : List (Side × Side)) (b : List (ℕ × Side)) (d : List (ℕ × Subject)) → told_step ≡ goes_on qs b d
            → FromStart s w first (pending e.number qs ++ es) (bs ++ bindings e.number b) (h.demanded ++ demands e.number d)
        unfolding equation_of
        reached_next qs b d q = after_step top_reached q

        goes : (next : State) (x : Step) → told_step ≡ x → Left (Ok next) x → Going s A w L first later (steps + 1) next
        goes next (refuses why) q p = absurd (let q = p.outcome in let y : ◌≡◌ {A = ℕ} 0 1 = cc in omega arith)
        goes next (goes_on qs b d) q p =
            let same : next ≡ p.next = let q = p.outcome in cc in
            rw same
            (record {
              circleless = h.circleless;
              keeps = p.keeps;
              demanded = h.demanded ++ demands e.number d;
              reached = rw (p.stack, p.made) (reached_next qs b d q);
              same = rw (p.stack, p.made) (onward (goes_on qs b d) q);
              raised = p.raised h.demanded h.raised;
              within = omega arith;
            })

        pub going_next : (next : State) → Left (Ok next) told_step → Going s A w L first later (steps + 1) next
        going_next next p = goes next told_step refl p

-- ---- where the loop begins

module _ {s : List ℕ} {places : List ℕ} {variables_of_nodes : List ℕ} {c : Counts} (h : Ready s places variables_of_nodes c) where
  abbrev problem : Problem
  problem = problem_of s

  few_atoms : c.atoms ≤ 32
  few_atoms = rw (all_atoms problem h.counts) h.standing.readable.few_atoms

  pub few_nodes : c.nodes ≤ 512
  few_nodes = rw (all_nodes problem h.counts) h.standing.readable.few_nodes

  pub few_variables : c.variables ≤ 64
  few_variables = rw (all_variables problem h.counts) h.standing.readable.few_variables

  pub began : {before waiting : Stack} {made : Bindings} {asked firsts : List (List ℕ)} {start : State} (asked_before : List (List ℕ))
      → Founded problem made start.count start.bound.0 → asked ≡ demands_cleared c.nodes c.variables asked_before
      → Started problem.equations before start.waiting waiting → Began s places variables_of_nodes c.atoms waiting made (sheet asked firsts) start
  began {firsts = firsts} asked_before founded is_cleared started =
      record {
        footing = record { standing = h.standing; number = all_atoms problem h.counts; filled = h.filled };
        founded = founded;
        stack = started.stack c.atoms few_atoms ∙ ap (λ (A : ℕ). equations_from A 0 problem.equations) (all_atoms problem h.counts);
        raised =
            rw (is_cleared, ← (all_nodes problem h.counts), ← (all_variables problem h.counts))
            (raised_none c.nodes c.variables asked_before firsts);
      }
