-- The run keeps the solutions. Over any allowed pairs that leave alone what is protected and unbound at the start, and any bindings that have a
-- meaning: a run that is finished has exactly the solutions that it started with, and one that refuses started with none.
use Prim.Native.Nat.{ℕ, zero, suc}
use mathlib.Core.Path.{◌≡◌, refl}
use mathlib.Core.Logic.{◌↔◌}
use mathlib.Core.Bool.{true}
use mathlib.Core.List.{List, [], ◌∷◌, ◌++◌, append-nil}
use mathlib.Core.Option.{none}
use Rattle.nominal.specs.Tree.{variable, Substitution, substitute}
use Rattle.nominal.specs.Figure2.{Environment}
use Rattle.nominal.specs.Solutions.{Every, Satisfies}
use Rattle.nominal.proofs.Tree.{permute_nil}
use Rattle.nominal.proofs.Laws.{equal_symmetric, equal_transitive}
use Rattle.nominal.proofs.Solutions.{every_append, satisfies_tree}
use Rattle.nominal.proofs.Replacing.{extended_satisfied}
use Rattle.problem.specs.Problem.{Node, form_at}
use Rattle.problem.specs.Readable.{Named}
use Rattle.run.specs.Meaning.{Side, side_tree, Binding, meaning}
use Rattle.run.specs.Run.{Equation, Subject, Demand, Ground, value_of, Refusal, Step, refuses, goes_on, step, End, limit, refused, finished, pending, bindings}
use Rattle.run.specs.Run.{demands, next, run}
use Rattle.run.proofs.Bindings.{value_of_unbound, Meant, meaning_more}
use Rattle.run.proofs.States.{SoundNew, Keeps, step_keeps, State, state_next}
use Rattle.solutions.proofs.Step.{SidesEqual, ValueEqual, SubjectMeets, Comes, step_comes}

-- The pairs that satisfy a state: its equations, its bindings and the demands raised.
module _ (nodes : List Node) (∇ : Environment) (τ : Substitution) where
  abbrev pub WaitingEqual : List Equation → Type 0
  WaitingEqual es = Every (λ e. SidesEqual nodes ∇ τ (e.left, e.right)) es

  abbrev pub RaisedMeet : List Demand → Type 0
  RaisedMeet ds = Every (λ d. SubjectMeets nodes ∇ τ (d.atom, d.subject)) ds

  pub record Satisfied (es : List Equation) (bs : List Binding) (ds : List Demand) : Type 0 where
    pub waiting : WaitingEqual es
    pub bound : Satisfies ∇ τ (meaning nodes bs)
    pub raised : RaisedMeet ds

  pending_equal : (n : ℕ) (qs : List (Side × Side)) → Every (SidesEqual nodes ∇ τ) qs ↔ WaitingEqual (pending n qs)
  pending_equal n [] = (λ h. h, λ h. h)
  pending_equal n (q ∷ qs) = (λ h. (h.0, (pending_equal n qs).0 h.1), λ h. (h.0, (pending_equal n qs).1 h.1))

  demands_meet : (n : ℕ) (d : List (ℕ × Subject)) → Every (SubjectMeets nodes ∇ τ) d ↔ RaisedMeet (demands n d)
  demands_meet n [] = (λ h. h, λ h. h)
  demands_meet n (e ∷ d) = (λ h. (h.0, (demands_meet n d).0 h.1), λ h. (h.0, (demands_meet n d).1 h.1))

module _ (g : Ground) (variables : ℕ) (named : (n : ℕ) → Named g.atoms variables n (form_at g.nodes n))
    (Allows : Environment → Substitution → Type 0) where
  -- Allowed pairs leave protected variables that are unbound as they are.
  abbrev pub LeavesAlone : List Binding → Type 1
  LeavesAlone bs = (∇ : Environment) (τ : Substitution) → Allows ∇ τ → (X : ℕ) → g.protected X ≡ true → value_of bs X ≡ none → τ X ≡ variable X

  -- What the end of a run says of the pairs P that it started with.
  abbrev pub Right : (Environment → Substitution → Type 0) → End → Type 1
  Right P (limit n) = Unit {1}
  Right P (refused r n) = (∇ : Environment) (τ : Substitution) → Allows ∇ τ → P ∇ τ → ⊥
  Right P (finished k bs ds) = (∇ : Environment) (τ : Substitution) → Allows ∇ τ → P ∇ τ ↔ Satisfied g.nodes ∇ τ [] bs ds

  right_map : (P Q : Environment → Substitution → Type 0) → ((∇ : Environment) (τ : Substitution) → Allows ∇ τ → Q ∇ τ ↔ P ∇ τ) → (x : End) → Right P x
      → Right Q x
  right_map P Q f (limit n) r = tt
  right_map P Q f (refused s n) r = λ ∇ τ a q. r ∇ τ a ((f ∇ τ a).0 q)
  right_map P Q f (finished k bs ds) r = λ ∇ τ a. (λ q. (r ∇ τ a).0 ((f ∇ τ a).0 q), λ s. (f ∇ τ a).1 ((r ∇ τ a).1 s))

  -- A new binding is one more equation of the meaning.
  bound_next : (n : ℕ) (bs : List Binding) (b : List (ℕ × Side)) → Meant g variables bs (meaning g.nodes bs) → SoundNew g variables named bs b
      → (∇ : Environment) (τ : Substitution)
      → (Every (ValueEqual g.nodes ∇ τ) b × Satisfies ∇ τ (meaning g.nodes bs)) ↔ Satisfies ∇ τ (meaning g.nodes (bs ++ bindings n b))
  bound_next n bs [] m s ∇ τ = rw append-nil (λ h. h.1, λ h. (tt, h))
  bound_next n bs (b ∷ []) m s ∇ τ =
      let c : Binding = record { variable = b.0; value = b.1; equation = n } in
      let u = substitute (meaning g.nodes bs) (side_tree g.nodes b.1) in
      let x = extended_satisfied (meaning g.nodes bs) b.0 u {∇ = ∇} τ (m.free b.0 s.0.unbound) in
      rw (meaning_more g.nodes bs c) (
        λ h. x.0 (equal_transitive (rw permute_nil at h.0.0) (satisfies_tree τ (meaning g.nodes bs) h.1 (side_tree g.nodes b.1)), h.1),
        λ h.
            let k = x.1 h in (
              (rw permute_nil (equal_transitive k.0 (equal_symmetric (satisfies_tree τ (meaning g.nodes bs) k.1 (side_tree g.nodes b.1)))), tt),
              k.1,
            ),
      )
  bound_next n bs (b ∷ c ∷ l) m s ∇ τ = absurd s

  -- A step that goes on keeps the solutions exactly.
  pub step_exact : (e : Equation) (es : List Equation) (bs : List Binding) (ds : List Demand) (qs : List (Side × Side)) (b : List (ℕ × Side))
      (d : List (ℕ × Subject))
      → State g variables named (e ∷ es) bs ds → LeavesAlone bs → step g bs e.left e.right ≡ goes_on qs b d → (∇ : Environment) (τ : Substitution)
      → Allows ∇ τ
      → Satisfied g.nodes ∇ τ (e ∷ es) bs ds ↔ Satisfied g.nodes ∇ τ (pending e.number qs ++ es) (bs ++ bindings e.number b)
      (ds ++ demands e.number d)
  step_exact e es bs ds qs b d s alone q ∇ τ a = (there, back)
    where
      comes : Satisfies ∇ τ (meaning g.nodes bs) → SidesEqual g.nodes ∇ τ (e.left, e.right) ↔ Comes g.nodes ∇ τ (goes_on qs b d)
      comes h = rw q at (step_comes g variables named s.meant ∇ τ (alone ∇ τ a) h e.left e.right s.waiting.0.0 s.waiting.0.1)

      new : SoundNew g variables named bs b
      new =
          let k : Keeps g variables named bs (goes_on qs b d) =
          rw q at (step_keeps g variables named s.meant e.left e.right s.waiting.0.0 s.waiting.0.1) in k.1

      there : Satisfied g.nodes ∇ τ (e ∷ es) bs ds
          → Satisfied g.nodes ∇ τ (pending e.number qs ++ es) (bs ++ bindings e.number b) (ds ++ demands e.number d)
      there h =
          let k = (comes h.bound).0 h.waiting.0 in record {
            waiting =
                (every_append (λ e. SidesEqual g.nodes ∇ τ (e.left, e.right)) (pending e.number qs) es).1
                ((pending_equal g.nodes ∇ τ e.number qs).0 k.0, h.waiting.1);
            bound = (bound_next e.number bs b s.meant new ∇ τ).0 (k.1, h.bound);
            raised =
                (every_append (λ d. SubjectMeets g.nodes ∇ τ (d.atom, d.subject)) ds (demands e.number d)).1
                (h.raised, (demands_meet g.nodes ∇ τ e.number d).0 k.2);
          }

      back : Satisfied g.nodes ∇ τ (pending e.number qs ++ es) (bs ++ bindings e.number b) (ds ++ demands e.number d)
          → Satisfied g.nodes ∇ τ (e ∷ es) bs ds
      back h =
          let i = (every_append (λ e. SidesEqual g.nodes ∇ τ (e.left, e.right)) (pending e.number qs) es).0 h.waiting in
          let j = (bound_next e.number bs b s.meant new ∇ τ).1 h.bound in
          let k = (every_append (λ d. SubjectMeets g.nodes ∇ τ (d.atom, d.subject)) ds (demands e.number d)).0 h.raised in record {
            waiting =
                ((comes j.1).1 ((pending_equal g.nodes ∇ τ e.number qs).1 i.0, j.0, (demands_meet g.nodes ∇ τ e.number d).1 k.1), i.1);
            bound = j.1;
            raised = k.0;
          }

  -- A refusing step shows that there are none.
  pub step_refuses : (e : Equation) (es : List Equation) (bs : List Binding) (ds : List Demand) (r : Refusal) → State g variables named (e ∷ es) bs ds
      → LeavesAlone bs
      → step g bs e.left e.right ≡ refuses r → (∇ : Environment) (τ : Substitution) → Allows ∇ τ → Satisfied g.nodes ∇ τ (e ∷ es) bs ds → ⊥
  step_refuses e es bs ds r s alone q ∇ τ a h =
      let k : SidesEqual g.nodes ∇ τ (e.left, e.right) ↔ ⊥ =
      rw q at (step_comes g variables named s.meant ∇ τ (alone ∇ τ a) h.bound e.left e.right s.waiting.0.0 s.waiting.0.1) in
      k.0 h.waiting.0

  alone_next : (bs cs : List Binding) → LeavesAlone bs → LeavesAlone (bs ++ cs)
  alone_next bs cs alone ∇ τ a X p e = alone ∇ τ a X p (value_of_unbound bs cs X e)

  next_right : (onward : List Equation → List Binding → List Demand → End)
      → ((es : List Equation) (bs : List Binding) (ds : List Demand) → State g variables named es bs ds → LeavesAlone bs
      → Right (λ ∇ τ. Satisfied g.nodes ∇ τ es bs ds) (onward es bs ds))
      → (e : Equation) (es : List Equation) (bs : List Binding) (ds : List Demand) → State g variables named (e ∷ es) bs ds → LeavesAlone bs → (x : Step)
      → step g bs e.left e.right ≡ x
      → Right (λ ∇ τ. Satisfied g.nodes ∇ τ (e ∷ es) bs ds) (next onward e.number es bs ds x)
  next_right onward ih e es bs ds s alone (refuses r) q = step_refuses e es bs ds r s alone q
  next_right onward ih e es bs ds s alone (goes_on qs b d) q =
      right_map (λ ∇ τ. Satisfied g.nodes ∇ τ (pending e.number qs ++ es) (bs ++ bindings e.number b) (ds ++ demands e.number d))
      (λ ∇ τ. Satisfied g.nodes ∇ τ (e ∷ es) bs ds)
      (step_exact e es bs ds qs b d s alone q)
      (onward (pending e.number qs ++ es) (bs ++ bindings e.number b) (ds ++ demands e.number d))
      (ih (pending e.number qs ++ es) (bs ++ bindings e.number b) (ds ++ demands e.number d) (state_next g variables named e es bs ds qs b d s q)
      (alone_next bs (bindings e.number b) alone))

  pub run_right : (k : ℕ) (es : List Equation) (bs : List Binding) (ds : List Demand) → State g variables named es bs ds → LeavesAlone bs
      → Right (λ ∇ τ. Satisfied g.nodes ∇ τ es bs ds) (run g k es bs ds)
  unfolding run
  run_right zero [] bs ds s alone = λ ∇ τ a. (λ h. h, λ h. h)
  run_right zero (e ∷ es) bs ds s alone = tt
  run_right (suc k) [] bs ds s alone = λ ∇ τ a. (λ h. h, λ h. h)
  run_right (suc k) (e ∷ es) bs ds s alone =
      next_right (λ es' bs' ds'. run g k es' bs' ds') (λ es' bs' ds' t a. run_right k es' bs' ds' t a) e es bs ds s alone (step g bs e.left e.right) refl
