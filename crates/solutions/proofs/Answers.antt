-- Demand 3: of every readable problem, an accepted answer's allowed instances are exactly the allowed solutions, and a problem refused with 9 to 12
-- has none. And what follows from it: the answer solves the problem, its substitution done twice is itself, order and repetition do not matter.
use Prim.Native.Nat.{ℕ, suc}
use native.Mathlib.Omega.{arith}
use mathlib.Core.Path.{◌≡◌, refl}
use mathlib.Core.Logic.{◌↔◌}
use mathlib.Core.Bool.{Bool, true}
use mathlib.Core.List.{List, [], ◌∷◌, ◌++◌, map}
use mathlib.Core.Option.{Option, none, some}
use Rattle.sets.specs.Bits.{among}
use Rattle.nominal.specs.Tree.{variable, Occurs, Substitution, substitute, composed}
use Rattle.nominal.specs.Figure2.{Environment}
use Rattle.nominal.specs.Solutions.{Every, environment_of, Allowance, Meets, Equates, Solves, Holds, Satisfies, Idempotent, Unbound}
use Rattle.nominal.proofs.Tree.{permute_nil}
use Rattle.nominal.proofs.Laws.{equal_reflexive, equal_symmetric}
use Rattle.nominal.proofs.Solutions.{every_of, every_append, every_map, meets_equal}
use Rattle.problem.specs.Problem.{Node, Equal, Problem}
use Rattle.problem.specs.Readable.{Readable}
use Rattle.run.specs.Meaning.{Side, Binding, Fact, tree, meaning, fresh_for}
use Rattle.run.specs.Run.{Equation, Subject, Demand, Ground, value_of, goes_on, step, End, limit, refused, finished, pending, bindings}
use Rattle.run.specs.Run.{demands, run, ground_of, run_of, equations_from}
use Rattle.run.specs.Answer.{Asked, subject_tree, asked_raised, resolved_all, facts, concluded, verdict_of}
use Rattle.run.proofs.Trees.{named_substitute, tree_plain}
use Rattle.run.proofs.Same.{same_symmetric}
use Rattle.run.proofs.Questions.{Each, Wherever, wherever_map, resolved_all_holds, fresh_for_occurs, fresh_for_named, resolved_all_wherever, NamedFact}
use Rattle.run.proofs.Facts.{among_true, every_facts}
use Rattle.run.proofs.Bindings.{by_value, Meant, meant_idempotent, meant_gone}
use Rattle.run.proofs.States.{State, ground_with, meaning_none, start, AtEnd, run_end, state_next, step_keeps, unbound_next, Keeps}
use Rattle.solutions.specs.Promises.{asked, IsProtected, allowance, Promised}
use Rattle.solutions.proofs.Step.{equates_same}
use Rattle.solutions.proofs.Named.{NamedAsked, asks_named}
use Rattle.solutions.proofs.Instances.{answer_instances}
use Rattle.solutions.proofs.Run.{WaitingEqual, RaisedMeet, Satisfied, Right, run_right}

pub every_mapped : {A B : Type 0} (P : B → Type 0) (f : A → B) (l : List A) → Every P (map f l) ↔ Every (λ x. P (f x)) l
every_mapped P f [] = (λ h. h, λ h. h)
every_mapped P f (x ∷ l) = (λ h. (h.0, (every_mapped P f l).0 h.1), λ h. (h.0, (every_mapped P f l).1 h.1))

-- ---- at the start

-- The sides of a problem's equations are its nodes' trees.
start_equal : (nodes : List Node) (∇ : Environment) (τ : Substitution) (atoms i : ℕ) (es : List Equal)
    → WaitingEqual nodes ∇ τ (equations_from atoms i es) ↔ Every (Equates ∇ τ) (map (λ e. (tree nodes e.left, tree nodes e.right)) es)
start_equal nodes ∇ τ atoms i [] = (λ h. h, λ h. h)
start_equal nodes ∇ τ atoms i (e ∷ es) =
    let l = tree_plain nodes atoms e.left in
    let r = tree_plain nodes atoms e.right in
    let k = start_equal nodes ∇ τ atoms (suc i) es in
    (λ h. (equates_same τ l r h.0, k.0 h.1), λ h. (equates_same τ (same_symmetric l) (same_symmetric r) h.0, k.1 h.1))

pub started : (p : Problem) (∇ : Environment) (τ : Substitution)
    → Satisfied p.nodes ∇ τ (equations_from p.atoms 0 p.equations) [] [] ↔ Every (Equates ∇ τ) (asked p).equations
started p ∇ τ = (
  λ s. (start_equal p.nodes ∇ τ p.atoms 0 p.equations).0 s.waiting,
  λ h. record {
    waiting = (start_equal p.nodes ∇ τ p.atoms 0 p.equations).1 h;
    bound = rw (meaning_none p.nodes) (λ X. rw permute_nil (equal_reflexive (τ X)));
    raised = tt;
  },
)

-- ---- at the end

-- What the demands come down to under bindings that have a meaning.
module _ (p : Problem) (is_protected : ℕ → Bool) {bs : List Binding} (m : Meant (ground_with p is_protected) p.variables bs (meaning p.nodes bs)) where
  pub facts_named : (asks : List Asked) → Every (NamedAsked p) asks → Wherever (NamedFact p.atoms p.variables) (resolved_all (meaning p.nodes bs) asks)
  facts_named asks n =
      let σ : Substitution = meaning p.nodes bs in
      resolved_all_wherever (NamedFact p.atoms p.variables) σ asks
      (every_map (NamedAsked p) (λ d. Wherever (NamedFact p.atoms p.variables) (fresh_for d.0 (substitute σ d.1)))
      (λ d h. fresh_for_named p.atoms p.variables d.0 (substitute σ d.1) h.0
      (named_substitute p.atoms p.variables σ m.named d.1 h.1)) asks n)

  pub facts_unbound : (asks : List Asked) → Wherever (Unbound (meaning p.nodes bs)) (resolved_all (meaning p.nodes bs) asks)
  facts_unbound asks =
      let σ : Substitution = meaning p.nodes bs in
      resolved_all_wherever (Unbound σ) σ asks
      (every_of (λ d. Wherever (Unbound σ) (fresh_for d.0 (substitute σ d.1))) asks
      (λ d k. wherever_map (λ f. Occurs f.1 (substitute σ d.1)) (Unbound σ) (λ f o. m.free f.1 (meant_gone m f.1 d.1 o))
      (fresh_for d.0 (substitute σ d.1))
      (fresh_for_occurs d.0 (substitute σ d.1))))

-- Who satisfies a substitution derives the demands exactly if the facts that they come down to hold.
pub demands_resolved : (σ : Substitution) (∇ : Environment) (τ : Substitution) → Satisfies ∇ τ σ → (asks : List Asked)
    → Every (Meets ∇ τ) asks ↔ Each (Holds ∇ τ) (resolved_all σ asks)
demands_resolved σ ∇ τ h asks =
    let k = resolved_all_holds ∇ τ σ asks in (
      λ e. k.0 (every_map (Meets ∇ τ) (Meets ∇ (composed τ σ)) (meets_equal τ (composed τ σ) h) asks e),
      λ e. every_map (Meets ∇ (composed τ σ)) (Meets ∇ τ) (meets_equal (composed τ σ) τ (λ X. equal_symmetric (h X))) asks (k.1 e),
    )

-- All demands: of the file, and raised.
abbrev pub asked_all : Problem → List Demand → List Asked
asked_all p ds = (asked p).demands ++ asked_raised p.nodes ds

-- The solutions in the end: the bindings' meaning, and the facts that all demands come down to.
pub solves_exactly : (p : Problem) (bs : List Binding) (ds : List Demand) (∇ : Environment) (τ : Substitution)
    → Satisfied p.nodes ∇ τ (equations_from p.atoms 0 p.equations) [] [] ↔ Satisfied p.nodes ∇ τ [] bs ds
    → Solves ∇ τ (asked p) ↔ (Satisfies ∇ τ (meaning p.nodes bs) × Each (Holds ∇ τ) (resolved_all (meaning p.nodes bs) (asked_all p ds)))
solves_exactly p bs ds ∇ τ x = (
  λ h.
      let s = x.0 ((started p ∇ τ).1 h.1) in
      (s.bound, (demands_resolved (meaning p.nodes bs) ∇ τ s.bound (asked_all p ds)).0 (all.1 (h.0, raised.1 s.raised))),
  λ k.
      let a = all.0 ((demands_resolved (meaning p.nodes bs) ∇ τ k.0 (asked_all p ds)).1 k.1) in
      (a.0, (started p ∇ τ).0 (x.1 (record { waiting = tt; bound = k.0; raised = raised.0 a.1 }))),
)
  where
    raised : Every (Meets ∇ τ) (asked_raised p.nodes ds) ↔ RaisedMeet p.nodes ∇ τ ds
    raised = every_mapped (Meets ∇ τ) (λ d. (d.atom, subject_tree p.nodes d.subject)) ds

    all : Every (Meets ∇ τ) (asked_all p ds) ↔ (Every (Meets ∇ τ) (asked p).demands × Every (Meets ∇ τ) (asked_raised p.nodes ds))
    all = every_append (Meets ∇ τ) (asked p).demands (asked_raised p.nodes ds)

-- ---- all through a run

-- What holds at the end of a run, whichever variables are protected: a state, and none of those is bound.
abbrev pub Kept : (p : Problem) → Readable p → (ℕ → Bool) → List Equation → List Binding → List Demand → Type 1
Kept p r is_protected es bs ds =
    State (ground_with p is_protected) p.variables r.named_nodes es bs ds × ((X : ℕ) → is_protected X ≡ true → value_of bs X ≡ none)

pub run_kept : (p : Problem) (r : Readable p) (is_protected : ℕ → Bool)
    → AtEnd (Kept p r is_protected) (run (ground_with p is_protected) p.limit (equations_from p.atoms 0 p.equations) [] [])
run_kept p r is_protected =
    run_end (ground_with p is_protected) (Kept p r is_protected) once p.limit (equations_from p.atoms 0 p.equations) [] []
    (start p r is_protected, λ X e. refl)
  where
    once : (e : Equation) (es : List Equation) (bs : List Binding) (ds : List Demand) (qs : List (Side × Side)) (b : List (ℕ × Side)) (d : List (ℕ × Subject))
        → Kept p r is_protected (e ∷ es) bs ds → step (ground_with p is_protected) bs e.left e.right ≡ goes_on qs b d
        → Kept p r is_protected (pending e.number qs ++ es) (bs ++ bindings e.number b) (ds ++ demands e.number d)
    once e es bs ds qs b d s q =
        let g : Ground = ground_with p is_protected in
        let k : Keeps g p.variables r.named_nodes bs (goes_on qs b d) =
        rw q at (step_keeps g p.variables r.named_nodes s.0.meant e.left e.right s.0.waiting.0.0 s.0.waiting.0.1) in (
          state_next g p.variables r.named_nodes e es bs ds qs b d s.0 q,
          λ X y. unbound_next g p.variables r.named_nodes e.number bs b k.1 X y (s.1 X y),
        )

-- ---- the solver

-- Which variables a problem protects, as its run asks it.
abbrev pub listed : Problem → ℕ → Bool
listed p X = among X p.protected

-- The bindings' meaning is itself allowed.
module _ (p : Problem) (r : Readable p) {es : List Equation} {bs : List Binding} {ds : List Demand} (s : Kept p r (listed p) es bs ds) where
  pub meaning_allowed : (allowance p).allows_substitution (meaning p.nodes bs)
  meaning_allowed = (
    (p.variables, λ X h. s.0.meant.free X (by_value (value_of bs X) (λ e. e) (λ v e. absurd (let k = s.0.meant.few X v e in omega arith)))),
    λ X y. s.0.meant.free X (s.1 X ((among_true X p.protected).1 y)),
  )

-- Demand 3, over any allowance whose substitutions leave protected variables as they are.
module _ (p : Problem) (r : Readable p) (A : Allowance)
    (leaves : (τ : Substitution) → A.allows_substitution τ → (X : ℕ) → IsProtected p X → τ X ≡ variable X) where
  abbrev Allows : Environment → Substitution → Type 0
  Allows ∇ τ = A.allows_substitution τ

  concluded_promised : (k : ℕ) (bs : List Binding) → Idempotent (meaning p.nodes bs) → (o : Option (List Fact))
      → ((∇ : Environment) (τ : Substitution) → Allows ∇ τ → Solves ∇ τ (asked p) ↔ (Satisfies ∇ τ (meaning p.nodes bs) × Each (Holds ∇ τ) o))
      → Wherever (NamedFact p.atoms p.variables) o → Wherever (Unbound (meaning p.nodes bs)) o → Promised A p (concluded p k bs o)
  concluded_promised k bs once none x n u = λ l F τ a s. ((x (environment_of F) τ a.1).0 s).1
  concluded_promised k bs once (some fs) x n u = λ F τ a.
      let i = answer_instances p A bs (facts p fs) F τ once a.1 ((every_facts p (Unbound (meaning p.nodes bs)) fs n).0 u) in
      let e = every_facts p (Holds (environment_of F) τ) fs n in
      let y = x (environment_of F) τ a.1 in
      (λ s. let j = y.0 s in i.0 (j.0, e.0 j.1), λ j. let h = i.1 j in y.1 (h.0, e.1 h.1))

  verdict_promised : (x : End)
      → Right (ground_of p) p.variables r.named_nodes Allows (λ ∇ τ. Satisfied p.nodes ∇ τ (equations_from p.atoms 0 p.equations) [] []) x
      → AtEnd (Kept p r (listed p)) x
      → Promised A p (verdict_of p x)
  unfolding verdict_of
  verdict_promised (limit n) y s = λ h. absurd (let (x, z) = h in omega arith)
  verdict_promised (refused c n) y s = λ h F τ a e. y (environment_of F) τ a.1 ((started p (environment_of F) τ).1 e.1)
  verdict_promised (finished k bs ds) y s =
      let m = s.0.meant in
      concluded_promised k bs (meant_idempotent m) (resolved_all (meaning p.nodes bs) (asked_all p ds))
      (λ ∇ τ a. solves_exactly p bs ds ∇ τ (y ∇ τ a))
      (facts_named p (listed p) m (asked_all p ds) (asks_named p r (listed p) ds s.0.raised))
      (facts_unbound p (listed p) m (asked_all p ds))

  pub promised_over : Promised A p (verdict_of p (run_of p))
  unfolding run_of
  promised_over =
      verdict_promised (run (ground_of p) p.limit (equations_from p.atoms 0 p.equations) [] [])
      (run_right (ground_of p) p.variables r.named_nodes Allows p.limit (equations_from p.atoms 0 p.equations) [] [] (start p r (listed p))
      (λ ∇ τ a X y e. leaves τ a X ((among_true X p.protected).0 y)))
      (run_kept p r (listed p))

-- Demand 3.
pub promised : (p : Problem) → Readable p → Promised (allowance p) p (verdict_of p (run_of p))
promised p r = promised_over p r (allowance p) (λ τ a. a.1)
