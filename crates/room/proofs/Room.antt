-- Document 01: "there is none for want of room for pending equations: within the limits a chain of parts never meets the same compound node twice,
-- so room for 576 is enough", for the solver's run and the judge's, whatever the limit.
use Prim.Native.Nat.{ℕ, zero, suc, ◌+◌, ◌≤◌}
use native.Mathlib.Nat.{zero-add, suc-add, add-suc}
use native.Mathlib.Omega.{arith}
use mathlib.Core.Path.{◌≡◌, refl, ◌∙◌, ap}
use mathlib.Core.Bool.{Bool, true}
use mathlib.Core.List.{List, [], ◌∷◌, ◌++◌}
use lib.ListN.{length}
use Rattle.nominal.specs.Solutions.{Every}
use Rattle.problem.specs.Problem.{Equal, Problem}
use Rattle.problem.specs.Readable.{Readable}
use Rattle.run.specs.Meaning.{Side, Binding}
use Rattle.run.specs.Run.{Equation, Demand, Ground, Subject, Step, refuses, goes_on, step, pending, bindings, demands, next, run, equations_from, ground_of}
use Rattle.run.specs.Circle.{Circleless}
use Rattle.run.proofs.Circleless.{circleless_none}
use Rattle.run.proofs.States.{ground_with, start_from, start}
use Rattle.room.specs.Stacks.{onwards, stacks, Reaches, at_start, after_step}
use Rattle.room.proofs.Reached.{Once, reached_few}

-- What is reached lies on the run's own way: after so many steps, whatever the limit, the run goes on from there.
pub run_onward : (g : Ground) (k : ℕ) (e : Equation) (es : List Equation) (bs : List Binding) (ds : List Demand) (qs : List (Side × Side))
    (b : List (ℕ × Side))
    (d : List (ℕ × Subject))
    → step g bs e.left e.right ≡ goes_on qs b d
    → run g (suc k) (e ∷ es) bs ds ≡ run g k (pending e.number qs ++ es) (bs ++ bindings e.number b) (ds ++ demands e.number d)
unfolding run
run_onward g k e es bs ds qs b d s = ap (next (λ es' bs' ds'. run g k es' bs' ds') e.number es bs ds) s

pub reached_run : {g : Ground} {es₀ : List Equation} {bs₀ : List Binding} {ds₀ : List Demand} {es : List Equation} {bs : List Binding} {ds : List Demand}
    → Reaches g es₀ bs₀ ds₀ es bs ds
    → (j : ℕ) × ((k : ℕ) → run g (j + k) es₀ bs₀ ds₀ ≡ run g k es bs ds)
reached_run {g} at_start = (0, λ k. rw zero-add)
reached_run {g} (after_step {e} {es} {bs} {ds} {qs} {b} {d} r s) =
    let (j, h) = reached_run r in
    (suc j, λ k. rw (suc-add, ← (add-suc j k)) (h (suc k) ∙ run_onward g k e es bs ds qs b d s))

-- What holds of every stack that is reached holds of every stack of the run.
module _ (g : Ground) (es₀ : List Equation) (bs₀ : List Binding) (ds₀ : List Demand) (R : List Equation → Type 0)
    (all : (es : List Equation) (bs : List Binding) (ds : List Demand) → Reaches g es₀ bs₀ ds₀ es bs ds → R es) where
  onwards_all : (e : Equation) (es : List Equation) (bs : List Binding) (ds : List Demand) → Reaches g es₀ bs₀ ds₀ (e ∷ es) bs ds
      → (later : List Equation → List Binding → List (List Equation))
      → ((es' : List Equation) (bs' : List Binding) (ds' : List Demand) → Reaches g es₀ bs₀ ds₀ es' bs' ds' → Every R (later es' bs'))
      → (x : Step) → step g bs e.left e.right ≡ x → Every R (onwards later e.number es bs x)
  onwards_all e es bs ds r later h (refuses q) s = tt
  onwards_all e es bs ds r later h (goes_on qs b d) s =
      h (pending e.number qs ++ es) (bs ++ bindings e.number b) (ds ++ demands e.number d) (after_step r s)

  pub stacks_all : (k : ℕ) (es : List Equation) (bs : List Binding) (ds : List Demand) → Reaches g es₀ bs₀ ds₀ es bs ds → Every R (stacks g k es bs)
  unfolding stacks
  stacks_all zero es bs ds r = (all es bs ds r, tt)
  stacks_all (suc k) [] bs ds r = (all [] bs ds r, tt)
  stacks_all (suc k) (e ∷ es) bs ds r = (
    all (e ∷ es) bs ds r,
    onwards_all e es bs ds r (λ es' bs'. stacks g k es' bs') (λ es' bs' ds'. stacks_all k es' bs' ds')
        (step g bs e.left e.right) refl,
  )

length_equations : (atoms i : ℕ) (es : List Equal) → length (equations_from atoms i es) ≡ length es
length_equations atoms i [] = refl
length_equations atoms i (e ∷ es) = ap suc (length_equations atoms (suc i) es)

-- A readable problem's run, whichever variables are protected.
module _ (p : Problem) (r : Readable p) (is_protected : ℕ → Bool) where
  -- What its run reaches from the bindings bs₀.
  abbrev pub Reached : List Binding → List Equation → List Binding → List Demand → Type 0
  Reached bs₀ es bs ds = Reaches (ground_with p is_protected) (equations_from p.atoms 0 p.equations) bs₀ [] es bs ds

  -- For code: every state that the run reaches has at most 576 equations, whatever bindings it started from.
  pub reaches_room : {bs₀ : List Binding} → Circleless p.atoms p.variables p.nodes bs₀
      → (es : List Equation) (bs : List Binding) (ds : List Demand) → Reached bs₀ es bs ds → length es ≤ 576
  reaches_room c es bs ds q =
      let few = reached_few (ground_with p is_protected) p.variables r.named_nodes (start_from p r is_protected c) q in
      let n = r.few_nodes in
      let e = r.few_equations in
      omega (arith, length_equations p.atoms 0 p.equations)

  -- At the start nothing is bound.
  pub once_start : Once (ground_with p is_protected) p.variables r.named_nodes (equations_from p.atoms 0 p.equations) [] []
  once_start = record { state = start p r is_protected; distinct = tt; listed = tt }

  -- No stack of a run of at most k steps, for every k, holds over 576 equations.
  pub stacks_room : (k : ℕ) → Every (λ es. length es ≤ 576) (stacks (ground_with p is_protected) k (equations_from p.atoms 0 p.equations) [])
  stacks_room k =
      stacks_all (ground_with p is_protected) (equations_from p.atoms 0 p.equations) [] [] (λ es. length es ≤ 576)
      (reaches_room (circleless_none p.atoms p.variables p.nodes)) k
      (equations_from p.atoms 0 p.equations) [] [] at_start

-- The solver's run and the judge's.
pub solver_room : (p : Problem) → Readable p → (k : ℕ) → Every (λ es. length es ≤ 576) (stacks (ground_of p) k (equations_from p.atoms 0 p.equations) [])
solver_room p r k = stacks_room p r (ground_of p).protected k

pub judge_room : (p : Problem) → Readable p → (k : ℕ)
    → Every (λ es. length es ≤ 576)
    (stacks (record { atoms = p.atoms; nodes = p.nodes; protected = λ X. true }) k (equations_from p.atoms 0 p.equations) [])
judge_room p r k = stacks_room p r (λ X. true) k
