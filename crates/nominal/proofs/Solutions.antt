-- Laws of solutions and instances over any allowance: what they do not see (order, repetition, equal substitutions), that instances of a
-- solution are solutions, and which pairs are the instances of an answer.
use Prim.Native.Nat.{ℕ}
use mathlib.Core.Path.{refl}
use mathlib.Core.Logic.{◌↔◌}
use mathlib.Core.List.{List, [], ◌∷◌, ◌++◌, Memᴰ}
use Rattle.nominal.specs.Tree.{Tree, variable, Substitution, substitute, composed}
use Rattle.nominal.specs.Figure2.{Environment, ◌⊢◌#◌, ◌⊢◌≈◌, #-suspension}
use Rattle.nominal.specs.Solutions.{Every, Facts, environment_of, Allowance, protecting, TreeDemand, TreeEquation, TreeProblem, Meets, Equates, Solves}
use Rattle.nominal.specs.Solutions.{Answer, Holds}
use Rattle.nominal.specs.Solutions.{Instance, EquallyGeneral, Answers, Satisfies, Idempotent, Unbound}
use Rattle.nominal.proofs.Tree.{permute_nil, substitute_variable, substitute_composed}
use Rattle.nominal.proofs.Figure2.{fresh_suspension}
use Rattle.nominal.proofs.Laws.{equal_reflexive, equal_symmetric, equal_transitive, equal_fresh, equal_substitutions, fresh_substitute, equal_substitute}

-- `Every` is membership's "for each".
module _ {A : Type 0} (P : A → Type 0) where
  pub every_at : {x : A} {l : List A} → Memᴰ x l → Every P l → P x
  every_at (Memᴰ.head e) h = rw e h.0
  every_at (Memᴰ.tail m) h = every_at m h.1

  pub every_of : (l : List A) → ((x : A) → Memᴰ x l → P x) → Every P l
  every_of [] h = tt
  every_of (x ∷ l) h = (h x (Memᴰ.head refl), every_of l (λ y m. h y (Memᴰ.tail m)))

  -- So order and repetition do not matter.
  pub every_among : (l m : List A) → ((x : A) → Memᴰ x m → Memᴰ x l) → Every P l → Every P m
  every_among l m among h = every_of m (λ x k. every_at (among x k) h)

  pub every_append : (l m : List A) → Every P (l ++ m) ↔ (Every P l × Every P m)
  every_append [] m = (λ h. (tt, h), λ h. h.1)
  every_append (x ∷ l) m = (λ h. let k = (every_append l m).0 h.1 in ((h.0, k.0), k.1), λ h. (h.0.0, (every_append l m).1 (h.0.1, h.1)))

  pub every_map : (Q : A → Type 0) → ((x : A) → P x → Q x) → (l : List A) → Every P l → Every Q l
  every_map Q f [] h = tt
  every_map Q f (x ∷ l) h = (f x h.0, every_map Q f l h.1)

-- A problem's fields in another order, or repeated, have the same solutions.
pub solves_among : (∇ : Environment) (τ : Substitution) (P Q : TreeProblem) → ((d : TreeDemand) → Memᴰ d Q.demands → Memᴰ d P.demands)
    → ((e : TreeEquation) → Memᴰ e Q.equations → Memᴰ e P.equations)
    → Solves ∇ τ P → Solves ∇ τ Q
solves_among ∇ τ P Q among_demands among_equations h =
    (every_among (Meets ∇ τ) P.demands Q.demands among_demands h.0, every_among (Equates ∇ τ) P.equations Q.equations among_equations h.1)

-- A substitution that is equal on every variable solves the same problems.
module _ {∇ : Environment} (ψ τ : Substitution) (equal : (X : ℕ) → ∇ ⊢ ψ X ≈ τ X) where
  pub equal_everywhere : (t : Tree) → ∇ ⊢ substitute ψ t ≈ substitute τ t
  equal_everywhere t = equal_substitutions ψ τ t (λ X o. equal X)

  pub meets_equal : (d : TreeDemand) → Meets ∇ ψ d → Meets ∇ τ d
  meets_equal d h = equal_fresh (equal_everywhere d.1) h

  pub equates_equal : (e : TreeEquation) → Equates ∇ ψ e → Equates ∇ τ e
  equates_equal e h = equal_transitive (equal_symmetric (equal_everywhere e.0)) (equal_transitive h (equal_everywhere e.1))

  pub solves_equal : (P : TreeProblem) → Solves ∇ ψ P → Solves ∇ τ P
  solves_equal P h =
      (every_map (Meets ∇ ψ) (Meets ∇ τ) meets_equal P.demands h.0, every_map (Equates ∇ ψ) (Equates ∇ τ) equates_equal P.equations h.1)

  pub instance_equal : (A : Allowance) (q : Answer) → Instance A ∇ ψ q → Instance A ∇ τ q
  instance_equal A q n = (n.0, n.1, λ X. equal_transitive (n.2 X) (equal X), n.3)

-- Where Δ derives the facts of ∇ after ψ, ψ done after a solution solves too (003, lemma 2.14).
module _ {∇ Δ : Environment} (ψ : Substitution) (facts : (a X : ℕ) → ∇ a X → Δ ⊢ a # ψ X) (τ : Substitution) where
  pub meets_after : (d : TreeDemand) → Meets ∇ τ d → Meets Δ (composed ψ τ) d
  meets_after d h = rw substitute_composed at (fresh_substitute ψ facts h)

  pub equates_after : (e : TreeEquation) → Equates ∇ τ e → Equates Δ (composed ψ τ) e
  equates_after e h = simp substitute_composed at (equal_substitute ψ facts h)

  pub solves_after : (P : TreeProblem) → Solves ∇ τ P → Solves Δ (composed ψ τ) P
  solves_after P h = (
    every_map (Meets ∇ τ) (Meets Δ (composed ψ τ)) meets_after P.demands h.0,
    every_map (Equates ∇ τ) (Equates Δ (composed ψ τ)) equates_after
        P.equations h.1,
  )

-- An instance of an answer that solves the problem solves it.
pub instance_solves : (A : Allowance) {Δ : Environment} (τ : Substitution) (q : Answer) (P : TreeProblem)
    → Solves (environment_of q.facts) q.substitution P
    → Instance A Δ τ q → Solves Δ τ P
instance_solves A {Δ} τ q P s n =
    solves_equal (composed n.0 q.substitution) τ n.2 P (solves_after n.0 (λ a X m. every_at (Holds Δ n.0) m n.3) q.substitution P s)

-- Every answer is an instance of itself, if leaving all variables as they are is allowed.
pub own_instance : (A : Allowance) → A.allows_substitution variable → (q : Answer) → Instance A (environment_of q.facts) q.substitution q
own_instance A still q = (
  variable,
  still,
  λ X. rw substitute_variable (equal_reflexive (q.substitution X)),
  every_of (Holds (environment_of q.facts) variable) q.facts
      (λ f m. #-suspension m),
)

-- Two answers whose allowed instances are the solutions of one problem are equally general.
pub answers_equally_general : (A : Allowance) (P : TreeProblem) (q r : Answer) → Answers A P q → Answers A P r → EquallyGeneral A q r
answers_equally_general A P q r h k F τ a = (λ n. (k F τ a).0 ((h F τ a).1 n), λ n. (h F τ a).0 ((k F τ a).1 n))

-- Under the bindings a tree and its value are equal.
pub satisfies_tree : {∇ : Environment} (τ σ : Substitution) → Satisfies ∇ τ σ → (t : Tree) → ∇ ⊢ substitute τ t ≈ substitute τ (substitute σ t)
satisfies_tree τ σ h t = rw substitute_composed (equal_substitutions τ (composed τ σ) t (λ X o. h X))

-- The instances of an answer whose substitution is idempotent, and whose facts are about variables that it leaves as they are, are the pairs
-- that satisfy its substitution and derive its facts as they stand.
module _ (A : Allowance) {∇ : Environment} (τ : Substitution) (q : Answer) where
  pub instance_of : A.allows_substitution τ → Satisfies ∇ τ q.substitution → Every (Holds ∇ τ) q.facts → Instance A ∇ τ q
  instance_of a h k = (τ, a, λ X. equal_symmetric (h X), k)

  module _ (once : Idempotent q.substitution) where
    pub instance_satisfies : Instance A ∇ τ q → Satisfies ∇ τ q.substitution
    instance_satisfies n X =
        equal_transitive (equal_symmetric (n.2 X))
        (equal_transitive (twice X) (equal_everywhere (composed n.0 q.substitution) τ n.2 (q.substitution X)))
      where
        twice : (X : ℕ) → ∇ ⊢ substitute n.0 (q.substitution X) ≈ substitute (composed n.0 q.substitution) (q.substitution X)
        twice X = rw (← substitute_composed n.0 q.substitution (q.substitution X), once X) (equal_reflexive (substitute n.0 (q.substitution X)))

    pub instance_holds : Every (Unbound q.substitution) q.facts → Instance A ∇ τ q → Every (Holds ∇ τ) q.facts
    instance_holds free n =
        every_of (Holds ∇ τ) q.facts
        (λ f m. equal_fresh (n.2 f.1) (rw (every_at (Unbound q.substitution) m free, permute_nil) (every_at (Holds ∇ n.0) m n.3)))

    pub instance_exactly : A.allows_substitution τ → Every (Unbound q.substitution) q.facts
        → (Satisfies ∇ τ q.substitution × Every (Holds ∇ τ) q.facts) ↔ Instance A ∇ τ q
    instance_exactly a free = (λ h. instance_of a h.0 h.1, λ n. (instance_satisfies n, instance_holds free n))

-- Substituting nothing, as the judge does: a solution is that all is derivable as it stands, and a fact holds if it is given.
module _ (∇ : Environment) where
  pub holds_variable : (F : Facts) → Every (Holds ∇ variable) F ↔ Every (λ f. ∇ f.0 f.1) F
  holds_variable F = (
    every_map (Holds ∇ variable) (λ f. ∇ f.0 f.1) (λ f k. fresh_suspension.0 k) F,
    every_map (λ f. ∇ f.0 f.1) (Holds ∇ variable) (λ f k. #-suspension k) F,
  )

-- Document 01's allowance: leaving all variables as they are is allowed, and so is one allowed substitution after another.
module _ (is_protected : ℕ → Type 0) where
  pub protecting_variable : (protecting is_protected).allows_substitution variable
  protecting_variable = ((0, λ X h. refl), λ X p. refl)
