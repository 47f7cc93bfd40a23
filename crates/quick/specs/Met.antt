-- What becomes of two nodes that meet under the images at a place, against the definition's step (run, specs/Run.antt). Definitions alone; their laws are
-- in proofs/.
use Rattle.std.specs.Prelude.{ℕ, ◌≤◌, ◌<◌, ◌≡◌, Bool, false, List, [], ◌∷◌, ◌++◌, length}
use Rattle.names.specs.declared.NodeId.{NodeId}
use Rattle.permutation.specs.Table.{Table}
use Rattle.problem.specs.Held.{problem_of}
use Rattle.problem.specs.Look.{Standing, form_now, form_told}
use Rattle.run.specs.Meaning.{Side, Binding}
use Rattle.run.specs.Run.{Subject, Demand, top, resolved, Step, goes_on, rule, demands}
use Rattle.run.specs.Circle.{Fits}
use Rattle.stack.specs.Stack.{most_waiting, stack_tables, stack_of}
use Rattle.stack.specs.InPlace.{left_at, right_at}
use Rattle.stack.specs.declared.Stack.{Stack}
use Rattle.bindings.specs.Bindings.{Bindings, bindings_of, Keeps, NodesThere}
use Rattle.demands.specs.Demands.{Sheet, sheet, Raised}
use Rattle.demands.specs.declared.Demands.{Demands}
use Rattle.side.specs.Side.{ground_in, is_bound}
use Rattle.quick.specs.declared.Meeting.{Meeting}
use Rattle.quick.specs.declared.Meeting.TheVariants.{Leave, Done, Part, Parts}

-- The side of a node under images.
abbrev pub side_under : Table → NodeId → Side
side_under P n = record { images = P; node = n.0 }

-- What stands at the node is no suspension of a bound variable.
abbrev pub FreeAt : List ℕ → ℕ → NodeId → Type 0
FreeAt s bound n = is_bound bound (form_told (form_now s n.0)) ≡ false

-- Where a node leads: a side of the first node resolves to that of the second under the same images, if nothing is left to resolve there.
pub record LeadsTo (s : List ℕ) (t : Bindings) (bound : ℕ) (node r : NodeId) : Type 0 where
  pub there : (n : ℕ) → NodesThere n t.made bound → node.0 < n → r.0 < n
  pub resolves : (k : ℕ) → Keeps t.made k bound → (f : ℕ → Bool) (P : Table) → length P ≡ (problem_of s).atoms → FreeAt s bound r
      → resolved (ground_in s f) (bindings_of (problem_of s).atoms t k) (side_under P node) ≡ side_under P r

-- Two nodes under the images at place n: each is a side.
pub record Facing (s : List ℕ) (places : List ℕ) (A n : ℕ) (images : List (List (List ℕ))) (l r : NodeId) : Type 0 where
  pub standing : Standing s places
  pub number : A ≡ (problem_of s).atoms
  pub placed : n < most_waiting
  pub left : Fits (problem_of s).atoms (problem_of s).nodes (side_under (left_at A images n) l)
  pub right : Fits (problem_of s).atoms (problem_of s).nodes (side_under (right_at A images n) r)

-- The tables that a meeting changes.
pub record MeetTables : Type 0 where
  pub images : List (List (List ℕ))
  pub sheet : Sheet

abbrev pub meet_tables : List (List (List ℕ)) → List (List ℕ) → List (List ℕ) → MeetTables
meet_tables images asked firsts = record { images = images; sheet = sheet asked firsts }

-- Among those that are lent.
abbrev pub met_in : Stack → Demands → MeetTables
met_in s d = meet_tables s.images.now d.asked.now d.firsts.now

-- The tables that such steps change are those still that were lent.
pub record SameInPlace (stack stack_after : Stack) (demands demands_after : Demands) : Type 0 where
  pub heads : stack_after.heads.ghost_name ≡ stack.heads.ghost_name
  pub images : stack_after.images.ghost_name ≡ stack.images.ghost_name
  pub asked : demands_after.asked.ghost_name ≡ demands.asked.ghost_name
  pub firsts : demands_after.firsts.ghost_name ≡ demands.firsts.ghost_name

-- What is left of the equation at place n, from the top down: under the images that stand there then.
abbrev pub left_of : ℕ → List (List (List ℕ)) → ℕ → Meeting → List (Side × Side)
left_of A images n Leave = []
left_of A images n Done = []
left_of A images n (Part m k) = (side_under (left_at A images n) m, side_under (right_at A images n) k) ∷ []
left_of A images n (Parts m o k p) =
    (side_under (left_at A images n) m, side_under (right_at A images n) k) ∷ (side_under (left_at A images n) o, side_under (right_at A images n) p) ∷ []

-- A step of the equation at place n is taken there: it goes on with what is left, no variable is bound, what waits below stays, and its demands are raised.
pub record Taken (A number n : ℕ) (step : Step) (meeting : Meeting) (before after : MeetTables) : Type 0 where
  pub demanded : List (ℕ × Subject)
  pub onward : step ≡ goes_on (left_of A after.images n meeting) [] demanded
  pub below : (heads : List (List ℕ)) → stack_of A (stack_tables heads after.images) n ≡ stack_of A (stack_tables heads before.images) n
  pub raised : (nodes variables : ℕ) (ds : List Demand) → nodes ≤ 512 → Raised nodes variables ds before.sheet
      → Raised nodes variables (ds ++ demands number demanded) after.sheet

-- The definition's rule for two sides that are resolved, with some variables protected.
abbrev pub rule_of : List ℕ → (ℕ → Bool) → List Binding → Side → Side → Step
rule_of s f bs x y = rule (ground_in s f) bs x y (top (ground_in s f) x) (top (ground_in s f) y)

-- The nodes l and r have met: nothing is to be resolved, and the rule's step is taken, whatever is bound or protected.
pub record Met (s : List ℕ) (A bound number n : ℕ) (l r : NodeId) (meeting : Meeting) (before after : MeetTables) : Type 0 where
  pub left : FreeAt s bound l
  pub right : FreeAt s bound r
  pub taken : (f : ℕ → Bool) (bs : List Binding)
      → Taken A number n (rule_of s f bs (side_under (left_at A before.images n) l) (side_under (right_at A before.images n) r)) meeting before after

-- What becomes of them: the equation is left and nothing changes, or the step is taken.
abbrev pub Meets : List ℕ → ℕ → ℕ → ℕ → ℕ → NodeId → NodeId → MeetTables → MeetTables → Meeting → Type 0
Meets s A bound number n l r before after Leave = after ≡ before
Meets s A bound number n l r before after Done = Met s A bound number n l r Done before after
Meets s A bound number n l r before after (Part m k) = Met s A bound number n l r (Part m k) before after
Meets s A bound number n l r before after (Parts m o k p) = Met s A bound number n l r (Parts m o k p) before after
