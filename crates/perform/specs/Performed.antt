-- What doing an act leaves in the tables, against the definition's step (run, specs/Run.antt). Definitions alone; their laws are in proofs/.
use Rattle.std.specs.Prelude.{ℕ, ◌+◌, ◌≤◌, ◌<◌, ◌≡◌, false, List, ◌++◌, map, length, Result, Ok, Err}
use Rattle.permutation.specs.Table.{Table, disagreement}
use Rattle.permutation.specs.Store.{table}
use Rattle.sets.specs.Bits.{member}
use Rattle.sets.specs.declared.Set.{Set}
use Rattle.problem.specs.Held.{problem_of}
use Rattle.problem.specs.Look.{Standing, form_now, Suspended}
use Rattle.run.specs.Meaning.{Side}
use Rattle.numbers.specs.declared.Reason.{Reason}
use Rattle.numbers.specs.declared.Reason.TheVariants as reason
use Rattle.run.specs.Run.{Subject, of_variable, Demand, Refusal, clash, inside, protection, Step, refuses, goes_on, pending, bindings, demands}
use Rattle.stack.specs.Stack.{Stack, stack_tables, most_waiting, stack_of}
use Rattle.bindings.specs.Bindings.{Bindings, binding_tables, bindings_of, Keeps, Added, side_of}
use Rattle.bindings.specs.declared.Value.{Value}
use Rattle.demands.specs.Demands.{Sheet, sheet, Raised}
use Rattle.side.specs.Side.{side_held, whole_of}
use Rattle.side.specs.declared.Side.{Side as HeldSide}
use Rattle.rule.specs.Rule.{step_of}
use Rattle.rule.specs.declared.Act.{Act}
use Rattle.rule.specs.declared.Act.TheVariants.{Done, Clash, Inside, Protection, Part, Parts, Renamed, Same, BindLeft, BindRight}
use Rattle.perform.specs.declared.State.{State}
use Rattle.perform.specs.declared.Work.{Work}

-- The tables that a step changes.
pub record StepTables : Type 0 where
  pub stack : Stack
  pub bindings : Bindings
  pub sheet : Sheet

abbrev pub tables_of : Stack → Bindings → Sheet → StepTables
tables_of stack bindings sheet = record { stack = stack; bindings = bindings; sheet = sheet }

-- Those that the code works in.
abbrev pub tables_in : Work → StepTables
tables_in w =
    tables_of (stack_tables w.stack.heads.now w.stack.images.now) (binding_tables w.bindings.made.now w.bindings.values.now)
    (sheet w.demands.asked.now w.demands.firsts.now)

-- The tables are those still that were lent.
pub record SameTables (before after : Work) : Type 0 where
  pub heads : after.stack.heads.ghost_name ≡ before.stack.heads.ghost_name
  pub images : after.stack.images.ghost_name ≡ before.stack.images.ghost_name
  pub made : after.bindings.made.ghost_name ≡ before.bindings.made.ghost_name
  pub values : after.bindings.values.ghost_name ≡ before.bindings.values.ghost_name
  pub asked : after.demands.asked.ghost_name ≡ before.demands.asked.ghost_name
  pub firsts : after.demands.firsts.ghost_name ≡ before.demands.firsts.ghost_name

-- How far the run is after a step that went on.
abbrev pub gone_to : ℕ → Set ℕ → ℕ → State
gone_to waiting bound count = record { waiting = waiting; bound = bound; count = count }

-- The run's own refusals among the table's rows.
abbrev pub reason_of : Refusal → Reason
reason_of clash = reason.Clash
reason_of inside = reason.Inside
reason_of protection = reason.Protected

-- The step that an act is, with two sides that the code holds. A suspension is under all of its permutations: its own swaps, then the side's images.
abbrev pub whole_held : List ℕ → ℕ → HeldSide → Table
whole_held s A x = whole_of s A (table A x.images) x.node.0

abbrev pub step_told : List ℕ → ℕ → HeldSide → HeldSide → Act → Step
step_told s A l r act = step_of (whole_held s A l) (whole_held s A r) (side_held A l) (side_held A r) act

-- ---- what each act's function leaves

-- The equations qs, of one number, above those that waited.
abbrev pub StackGrown : ℕ → ℕ → List (Side × Side) → Stack → ℕ → Stack → ℕ → Type 0
StackGrown A number qs before n after k = stack_of A after k ≡ pending number qs ++ stack_of A before n

-- "each atom of the disagreement set is demanded fresh for X"
abbrev pub DisagreementRaised : Table → Table → ℕ → ℕ → Sheet → Sheet → Type 0
DisagreementRaised P Q X k before after =
    (nodes variables : ℕ) (ds : List Demand) → nodes ≤ 512 → Raised nodes variables ds before
    → Raised nodes variables (ds ++ demands k (map (λ a. (a, of_variable X)) (disagreement P Q))) after

-- One more binding, of X to a value that the code holds: with A atoms in use it is the definition's.
pub record BoundTo (A number X : ℕ) (v : Side) (before : Bindings) (state : State) (after : Bindings) (r : State) : Type 0 where
  pub value : Value
  pub same : side_of A value ≡ v
  pub added : Added before state.count state.bound.0 X value number after r.bound.0
  pub gone : r ≡ gone_to state.waiting r.bound (state.count + 1)

-- ---- what an act takes

-- A side that is there, and is a suspension.
abbrev pub Hangs : List ℕ → ℕ → Type 0
Hangs s n = (n < length (problem_of s).nodes) × Suspended (form_now s n)

-- Room for its equations, atoms and nodes that are there, a variable that is not bound.
abbrev pub Takes : List ℕ → ℕ → State → HeldSide → HeldSide → Act → Type 0
Takes s A state l r Done = Prim.Unit {0}
Takes s A state l r Clash = Prim.Unit {0}
Takes s A state l r Inside = Prim.Unit {0}
Takes s A state l r Protection = Prim.Unit {0}
Takes s A state l r (Part m k) = state.waiting < most_waiting
Takes s A state l r (Parts i m k o) = state.waiting + 1 < most_waiting
Takes s A state l r (Renamed a m b k) = (state.waiting < most_waiting) × (a.0 < A) × (k.0 < length (problem_of s).nodes)
Takes s A state l r (Same x) = (x.0 < (problem_of s).variables) × Hangs s l.node.0 × Hangs s r.node.0
Takes s A state l r (BindLeft x) = (x.0 < (problem_of s).variables) × Hangs s l.node.0 × (member state.bound.0 x.0 ≡ false)
Takes s A state l r (BindRight x) = (x.0 < (problem_of s).variables) × Hangs s r.node.0 × (member state.bound.0 x.0 ≡ false)

pub record Fit (s : List ℕ) (places : List ℕ) (A : ℕ) (state : State) (made : List (List ℕ)) (l r : HeldSide) (act : Act) : Type 0 where
  pub standing : Standing s places
  pub number : A ≡ (problem_of s).atoms
  pub keeps : Keeps made state.count state.bound.0
  pub takes : Takes s A state l r act

-- ---- what a step leaves

-- A step that refuses changes nothing: the tables are as before, and so the run is as far as before.
pub record Refused (why : Refusal) (before after : StepTables) (r : Result State Reason) : Type 0 where
  pub outcome : r ≡ Err (reason_of why)
  pub tables : after ≡ before

-- A step that goes on, with new equations, perhaps a binding, and demands: the stack, the bindings and the demands that were raised grow by just these.
pub record GoneOn (s : List ℕ) (A number : ℕ) (qs : List (Side × Side)) (b : List (ℕ × Side)) (d : List (ℕ × Subject)) (before : StepTables) (state : State)
    (after : StepTables) (r : Result State Reason) : Type 0 where
  pub next : State
  pub outcome : r ≡ Ok next
  pub stack : StackGrown A number qs before.stack state.waiting after.stack next.waiting
  pub made : bindings_of A after.bindings next.count ≡ bindings_of A before.bindings state.count ++ bindings number b
  pub keeps : Keeps after.bindings.made next.count next.bound.0
  pub raised : (ds : List Demand) → Raised (length (problem_of s).nodes) (problem_of s).variables ds before.sheet
      → Raised (length (problem_of s).nodes) (problem_of s).variables (ds ++ demands number d) after.sheet

-- What is left of the definition's step in the tables.
abbrev pub Performed : List ℕ → ℕ → ℕ → StepTables → State → StepTables → Result State Reason → Step → Type 0
Performed s A number before state after r (refuses why) = Refused why before after r
Performed s A number before state after r (goes_on qs b d) = GoneOn s A number qs b d before state after r
