-- The run is 003's run: from every state of which the run's invariants hold, and so from every readable problem, what it does is a sequence of figure
-- 3's transformations, one for each counted step. And it ends: a number of steps is enough for every readable problem (003, lemma 3.2).
use Prim.Native.Nat.{ℕ, zero, suc, ◌+◌, ◌≤◌, ◌<◌}
use native.Mathlib.Omega.{arith}
use mathlib.Core.Path.{◌≡◌, refl, sym}
use mathlib.Core.Bool.{Bool, true}
use mathlib.Core.List.{List, [], ◌∷◌, ◌++◌, map, append-nil}
use Rattle.nominal.specs.Tree.{variable, substitute, composed}
use Rattle.nominal.specs.Solutions
use Rattle.nominal.proofs.Tree.{substitute_variable}
use Rattle.problem.specs.Problem.{Node, form_at, Equal, Problem}
use Rattle.problem.specs.Readable.{Named, Readable}
use Rattle.run.specs.Meaning.{Side, tree, side_tree, Binding}
use Rattle.run.specs.Run.{Equation, Subject, Demand, Ground, Refusal, Step, refuses, goes_on, step, pending, bindings, demands, End, next, run}
use Rattle.run.specs.Run.{equations_from, ground_of, run_of}
use Rattle.run.specs.Answer.{Asked, asked_fresh, judged_run}
use Rattle.run.proofs.Limit.{Ends, run_ends}
use Rattle.nominal.specs.Same.{Same}
use Rattle.run.proofs.Same.{same_reflexive, same_symmetric, same_transitive}
use Rattle.run.proofs.Trees.{plain, tree_plain}
use Rattle.run.proofs.States.{State, state_next, ground_with, start, meaning_none}
use Rattle.solutions.specs.Promises.{asked}
use Rattle.figure3.specs.Figure3.{Label, substitution_of, First, Each, AlikeDemands, AlikeEquations, AlikeProblems, none, then, Terminates, terminates}
use Rattle.figure3.specs.Ran.{unification_problem, put_asked, put_equations, state_problem, Protected, Reached, Top, StuckAt, Ran}
use Rattle.figure3.proofs.Alike.{same_of, same_put, alike_transitive, alike_reflexive, phase_alike}
use Rattle.figure3.proofs.Termination.{terminating}
use Rattle.figure3.proofs.Simulation.{Stepped, step_as, stuck_alike}
use Rattle.figure3.proofs.Transforms.{transforms}

module _ (g : Ground) (variables : ℕ) (named : (n : ℕ) → Named g.atoms variables n (form_at g.nodes n)) (demanded : List Asked) where
  -- One more transformation.
  reached_next : (P : Solutions.TreeProblem) (n : ℕ) (e : Equation) (es : List Equation) (bs : List Binding) (ds : List Demand) (qs : List (Side × Side))
      (b : List (ℕ × Side)) (d : List (ℕ × Subject))
      → State g variables named (e ∷ es) bs ds → Reached g demanded P n (e ∷ es) bs ds → step g bs e.left e.right ≡ goes_on qs b d
      → Reached g demanded P (suc n) (pending e.number qs ++ es) (bs ++ bindings e.number b) (ds ++ demands e.number d)
  reached_next P n e es bs ds qs b d s r q =
      let t = transforms g variables named demanded e es bs ds qs b d s q in record {
        labels = composed (substitution_of t.label) r.labels;
        sequence = then (phase_alike r.sequence t.alike_before) t.transformation t.alike_after;
        meant =
            λ X. same_transitive
            (same_put (substitution_of t.label) (substitution_of t.label) (λ Y. same_reflexive (substitution_of t.label Y)) (r.meant X)) (t.composes X);
      }

  stuck_at : (P : Solutions.TreeProblem) (n : ℕ) (e : Equation) (es : List Equation) (bs : List Binding) (ds : List Demand) (x : Refusal)
      → State g variables named (e ∷ es) bs ds
      → Reached g demanded P n (e ∷ es) bs ds → step g bs e.left e.right ≡ refuses x → (s : Top g demanded P n e.number) × StuckAt x s
  stuck_at P n e es bs ds x s r q =
      let k : Stepped g bs e.left e.right (refuses x) =
      rw q at (step_as g variables named s.meant e.left e.right s.waiting.0.0 s.waiting.0.1) in (
        record { equation = e; equations = es; bindings = bs; demands = ds; numbered = refl; reached = r },
        stuck_alike g x k.same_left k.same_right k.done_as,
      )

  module _ (P : Solutions.TreeProblem) (L : ℕ) where
    next_ran : (onward : List Equation → List Binding → List Demand → End) (n : ℕ) → n < L
        → ((es : List Equation) (bs : List Binding) (ds : List Demand) → State g variables named es bs ds → Reached g demanded P (suc n) es bs ds
        → Ran g demanded P L (onward es bs ds))
        → (e : Equation) (es : List Equation) (bs : List Binding) (ds : List Demand) → State g variables named (e ∷ es) bs ds
        → Reached g demanded P n (e ∷ es) bs ds
        → (x : Step) → step g bs e.left e.right ≡ x → Ran g demanded P L (next onward e.number es bs ds x)
    next_ran onward n h ih e es bs ds s r (refuses x) q = let k = stuck_at P n e es bs ds x s r q in (n, h, k.0, k.1)
    next_ran onward n h ih e es bs ds s r (goes_on qs b d) q =
        ih (pending e.number qs ++ es) (bs ++ bindings e.number b) (ds ++ demands e.number d) (state_next g variables named e es bs ds qs b d s q)
        (reached_next P n e es bs ds qs b d s r q)

    -- From a state that n transformations have led to, with k steps left of L.
    pub ran_from : (k n : ℕ) → n + k ≡ L → (es : List Equation) (bs : List Binding) (ds : List Demand) → State g variables named es bs ds
        → Reached g demanded P n es bs ds
        → Ran g demanded P L (run g k es bs ds)
    unfolding run
    ran_from zero n h [] bs ds s r = (n, h, r)
    ran_from zero n h (e ∷ es) bs ds s r =
        let m : n ≡ L = omega arith in
        record { equation = e; equations = es; bindings = bs; demands = ds; numbered = refl; reached = rw m at r }
    ran_from (suc k) n h [] bs ds s r = (n, h, r)
    ran_from (suc k) n h (e ∷ es) bs ds s r =
        next_ran (λ es' bs' ds'. run g k es' bs' ds') n (omega arith) (λ es' bs' ds' t q. ran_from k (suc n) (omega arith) es' bs' ds' t q) e es bs ds s r
        (step g bs e.left e.right) refl

  -- No transformation yet: a problem alike to the state's.
  pub reached_start : (P : Solutions.TreeProblem) (es : List Equation) → AlikeProblems P (state_problem g demanded es [] []) → Reached g demanded P 0 es [] []
  reached_start P es a = record { labels = variable; sequence = none a; meant = λ X. rw (meaning_none g.nodes) (same_reflexive (variable X)) }

  -- ---- enough steps

  next_enough : (P : Solutions.TreeProblem)
      → ((Q R : Solutions.TreeProblem) (σ : Label) → AlikeProblems P Q → First (Protected g) Q σ R
      → (es : List Equation) (bs : List Binding) (ds : List Demand) → AlikeProblems R (state_problem g demanded es bs ds) → State g variables named es bs ds
      → (k : ℕ) × Ends (run g k es bs ds))
      → (e : Equation) (es : List Equation) (bs : List Binding) (ds : List Demand) → AlikeProblems P (state_problem g demanded (e ∷ es) bs ds)
      → State g variables named (e ∷ es) bs ds
      → (x : Step) → step g bs e.left e.right ≡ x → (k : ℕ) × Ends (next (λ es' bs' ds'. run g k es' bs' ds') e.number es bs ds x)
  next_enough P ih e es bs ds a s (refuses x) q = (0, tt)
  next_enough P ih e es bs ds a s (goes_on qs b d) q =
      let t = transforms g variables named demanded e es bs ds qs b d s q in
      ih t.before t.after t.label (alike_transitive a t.alike_before) t.transformation (pending e.number qs ++ es)
      (bs ++ bindings e.number b) (ds ++ demands e.number d)
      t.alike_after (state_next g variables named e es bs ds qs b d s q)

  enough_from : (P : Solutions.TreeProblem) → Terminates (Protected g) P → (es : List Equation) (bs : List Binding) (ds : List Demand)
      → AlikeProblems P (state_problem g demanded es bs ds)
      → State g variables named es bs ds → (k : ℕ) × Ends (run g k es bs ds)
  unfolding run
  enough_from P (terminates f) [] bs ds a s = (0, tt)
  enough_from P (terminates f) (e ∷ es) bs ds a s =
      let k = next_enough P (λ Q R σ x y es' bs' ds' b t. enough_from R (f Q R σ x y) es' bs' ds' b t) e es bs ds a s (step g bs e.left e.right) refl in
      (suc k.0, k.1)

-- From any state of which the invariants hold, whatever was bound and demanded before, a number of steps is enough, and so is every larger one.
pub enough_state : (g : Ground) (variables : ℕ) (named : (n : ℕ) → Named g.atoms variables n (form_at g.nodes n)) (es : List Equation) (bs : List Binding)
    (ds : List Demand)
    → State g variables named es bs ds → (N : ℕ) × ((L : ℕ) → N ≤ L → Ends (run g L es bs ds))
enough_state g variables named es bs ds s =
    let P : Solutions.TreeProblem = state_problem g [] es bs ds in
    let k = enough_from g variables named [] P (terminating (Protected g) P) es bs ds (alike_reflexive P) s in
    (k.0, λ L h. run_ends g k.0 L es bs ds h k.1)

-- ---- readable problems

demanded_alike : (demanded : List Asked) → Each AlikeDemands demanded (put_asked variable demanded)
demanded_alike [] = tt
demanded_alike (d ∷ demanded) = ((refl, same_of (sym (substitute_variable d.1))), demanded_alike demanded)

plain_alike : (nodes : List Node) (atoms n : ℕ) → Same (tree nodes n) (substitute variable (side_tree nodes (plain atoms n)))
plain_alike nodes atoms n = same_transitive (same_symmetric (tree_plain nodes atoms n)) (same_of (sym (substitute_variable (side_tree nodes (plain atoms n)))))

equations_alike : (nodes : List Node) (atoms i : ℕ) (es : List Equal)
    → Each AlikeEquations (map (λ e. (tree nodes e.left, tree nodes e.right)) es) (put_equations nodes variable (equations_from atoms i es))
equations_alike nodes atoms i [] = tt
equations_alike nodes atoms i (e ∷ es) = ((plain_alike nodes atoms e.left, plain_alike nodes atoms e.right), equations_alike nodes atoms (suc i) es)

module _ (p : Problem) (r : Readable p) (is_protected : ℕ → Bool) where
  start_alike : (demanded : List Asked)
      → AlikeProblems (unification_problem p demanded) (state_problem (ground_with p is_protected) demanded (equations_from p.atoms 0 p.equations) [] [])
  start_alike demanded =
      rw (meaning_none p.nodes, append-nil demanded)
      (record { demands = demanded_alike demanded; equations = equations_alike p.nodes p.atoms 0 p.equations })

  -- The run IS 003's run, whatever is protected, demanded and allowed.
  pub run_is_figure3 : (demanded : List Asked) (L : ℕ)
      → Ran (ground_with p is_protected) demanded (unification_problem p demanded) L
      (run (ground_with p is_protected) L (equations_from p.atoms 0 p.equations) [] [])
  run_is_figure3 demanded L =
      let g : Ground = ground_with p is_protected in
      let es : List Equation = equations_from p.atoms 0 p.equations in
      ran_from g p.variables r.named_nodes demanded (unification_problem p demanded) L L 0 (omega arith) es [] [] (start p r is_protected)
      (reached_start g p.variables r.named_nodes demanded (unification_problem p demanded) es (start_alike demanded))

  -- 003, lemma 3.2: a number of steps is enough, and so is every larger one.
  pub enough : (N : ℕ) × ((L : ℕ) → N ≤ L → Ends (run (ground_with p is_protected) L (equations_from p.atoms 0 p.equations) [] []))
  enough = enough_state (ground_with p is_protected) p.variables r.named_nodes (equations_from p.atoms 0 p.equations) [] [] (start p r is_protected)

-- The solver's run, and the judge's, in which every variable is protected.
pub solver_is_figure3 : (p : Problem) → Readable p → Ran (ground_of p) (asked p).demands (asked p) p.limit (run_of p)
unfolding run_of
solver_is_figure3 p r = run_is_figure3 p r (ground_of p).protected (asked p).demands p.limit

pub judge_is_figure3 : (p : Problem) → Readable p
    → Ran (ground_with p (λ X. true)) (asked_fresh p.nodes p.freshness) (unification_problem p (asked_fresh p.nodes p.freshness)) p.limit
    (judged_run p)
unfolding judged_run
judge_is_figure3 p r = run_is_figure3 p r (λ X. true) (asked_fresh p.nodes p.freshness) p.limit
