-- 003, figure 3: the labelled transformations of unification problems, with the protected variables of 000. Each constructor is a rule and bears
-- its name. Definitions alone; that the run is one run of them, and that they come to an end, is in proofs/.
use Rattle.std.specs.Prelude.{ℕ, zero, suc, ◌≡◌, ◌≢◌, ◌↔◌}
use mathlib.Core.List.{List, [], ◌∷◌, ◌++◌, map, Memᴰ}
use Rattle.permutation.specs.Swaps.{Swaps, act, inverse, Disagree}
use Rattle.nominal.specs.Tree.{Tree, unit, atom, abstraction, pair, application, suspension, variable, permute, Occurs, Substitution, substitute, composed}
use Rattle.nominal.specs.Tree.{replacing}
use Rattle.nominal.specs.Solutions.{Facts, TreeDemand, TreeEquation, TreeProblem}
use Rattle.nominal.specs.Same.{Same}

-- 003, definition 3.1: "A unification problem P is a finite set of atomic problems, each of which is either an equational problem t ≈? t' .. or a
-- freshness problem a #? t". The two kinds stand in a list each (`Problem`), read as a multiset. Order plays no part: the problem taken may stand
-- anywhere, equational problems that come of it stand in its place and freshness problems that an equation raises at the end. One that stands there
-- twice, which in 003's set it cannot, is taken twice, as the run does.

-- "the substitution σ is either the identity ε, or a single replacement [X := t]"
infix 20 ◌:=◌
pub data Label : Type 0 where
  ε : Label
  ◌:=◌ : ℕ → Tree → Label

abbrev pub substitution_of : Label → Substitution
substitution_of ε = variable
substitution_of (X := t) = replacing X t

-- "the notation σP to indicate the problem resulting from applying the substitution σ to all the terms occurring in the problem P"
abbrev pub put_into : Label → TreeProblem → TreeProblem
put_into ε P = P
put_into (X := t) P = record {
  demands = map (λ d. (d.0, substitute (replacing X t) d.1)) P.demands;
  equations = map (λ e. (substitute (replacing X t) e.0, substitute (replacing X t) e.1)) P.equations;
}

module _ (is_protected : ℕ → Type 0) where
  -- The rules of the first phase for t ≈? t': the label, and the equational and the freshness problems that take its place. 000: "rule (≈?inst)
  -- checks whether the variable X is a protected variable, before applying the instantiation".
  pub data Equational : Tree → Tree → Label → List TreeEquation → List TreeDemand → Type 0 where
    ≈?-unit : Equational unit unit ε [] []
    ≈?-pair : {t₁ t₂ t₁' t₂' : Tree} → Equational (pair t₁ t₂) (pair t₁' t₂') ε ((t₁, t₁') ∷ (t₂, t₂') ∷ []) []
    ≈?-function_symbol : {f : ℕ} {t t' : Tree} → Equational (application f t) (application f t') ε ((t, t') ∷ []) []
    ≈?-abstraction_1 : {a : ℕ} {t t' : Tree} → Equational (abstraction a t) (abstraction a t') ε ((t, t') ∷ []) []
    ≈?-abstraction_2 : {a a' : ℕ} {t t' : Tree} → a ≢ a'
        → Equational (abstraction a t) (abstraction a' t') ε ((t, permute ((a, a') ∷ []) t') ∷ []) ((a, t') ∷ [])
    ≈?-atom : {a : ℕ} → Equational (atom a) (atom a) ε [] []
    ≈?-suspension : {π π' : Swaps} {X : ℕ} (ds : List ℕ) → ((a : ℕ) → Memᴰ a ds ↔ Disagree π π' a)
        → Equational (suspension π X) (suspension π' X) ε [] (map (λ a. (a, variable X)) ds)
    ≈?-variable_right : {t : Tree} {π : Swaps} {X : ℕ} → (is_protected X → ⊥) → (Occurs X t → ⊥)
        → Equational t (suspension π X) (X := permute (inverse π) t) [] []
    ≈?-variable_left : {t : Tree} {π : Swaps} {X : ℕ} → (is_protected X → ⊥) → (Occurs X t → ⊥)
        → Equational (suspension π X) t (X := permute (inverse π) t) [] []

  -- P =σ⇒ P'.
  pub data First : TreeProblem → Label → TreeProblem → Type 0 where
    first : {t t' : Tree} {σ : Label} {E' : List TreeEquation} {D' : List TreeDemand} (E E'' : List TreeEquation) (D : List TreeDemand)
        → Equational t t' σ E' D'
        → First (record { demands = D; equations = E ++ (t, t') ∷ E'' }) σ (put_into σ (record { demands = D ++ D'; equations = E ++ (E' ++ E'') }))

-- The rules of the second phase for a #? t: the label, "either empty ∅, or a singleton {a # X}", and the freshness problems that take its place.
pub data Freshness : ℕ → Tree → Facts → List TreeDemand → Type 0 where
  #?-unit : {a : ℕ} → Freshness a unit [] []
  #?-pair : {a : ℕ} {t₁ t₂ : Tree} → Freshness a (pair t₁ t₂) [] ((a, t₁) ∷ (a, t₂) ∷ [])
  #?-function_symbol : {a f : ℕ} {t : Tree} → Freshness a (application f t) [] ((a, t) ∷ [])
  #?-abstraction_1 : {a : ℕ} {t : Tree} → Freshness a (abstraction a t) [] []
  #?-abstraction_2 : {a a' : ℕ} {t : Tree} → a ≢ a' → Freshness a (abstraction a' t) [] ((a, t) ∷ [])
  #?-atom : {a a' : ℕ} → a ≢ a' → Freshness a (atom a') [] []
  #?-suspension : {a : ℕ} {π : Swaps} {X : ℕ} → Freshness a (suspension π X) ((act (inverse π) a, X) ∷ []) []

-- P =∇⇒ P'.
pub data SecondStep : TreeProblem → Facts → TreeProblem → Type 0 where
  second : {a : ℕ} {t : Tree} {∇ : Facts} {D' : List TreeDemand} (D D'' : List TreeDemand) (E : List TreeEquation) → Freshness a t ∇ D'
      → SecondStep (record { demands = D ++ (a, t) ∷ D''; equations = E }) ∇ (record { demands = D ++ (D' ++ D''); equations = E })

-- The run keeps tables of images, so its trees agree with the transformations' but for lists of swaps that send every atom alike (`Same`), which
-- count as one permutation. So for problems, whose members agree one by one, and for substitutions.
abbrev pub Each : {A : Type 0} → (A → A → Type 0) → List A → List A → Type 0
Each R [] [] = Unit {0}
Each R [] (y ∷ m) = ⊥
Each R (x ∷ l) [] = ⊥
Each R (x ∷ l) (y ∷ m) = R x y × Each R l m

abbrev pub AlikeDemands : TreeDemand → TreeDemand → Type 0
AlikeDemands d e = (d.0 ≡ e.0) × Same d.1 e.1

abbrev pub AlikeEquations : TreeEquation → TreeEquation → Type 0
AlikeEquations e f = Same e.0 f.0 × Same e.1 f.1

pub record AlikeProblems (P Q : TreeProblem) : Type 0 where
  pub demands : Each AlikeDemands P.demands Q.demands
  pub equations : Each AlikeEquations P.equations Q.equations

abbrev pub AlikeSubstitutions : Substitution → Substitution → Type 0
AlikeSubstitutions σ τ = (X : ℕ) → Same (σ X) (τ X)

-- A sequence of n transformations of the first phase, "P =σ₁⇒ .. =σₙ⇒ P'", with its labels composed, "σₙ ∘ .. ∘ σ₁". Between two of them stand
-- alike problems.
pub data FirstPhase (is_protected : ℕ → Type 0) (P : TreeProblem) : ℕ → Substitution → TreeProblem → Type 0 where
  none : {Q : TreeProblem} → AlikeProblems P Q → FirstPhase is_protected P zero variable Q
  then : {n : ℕ} {Q R S : TreeProblem} {σ : Label} {τ : Substitution} → FirstPhase is_protected P n τ Q → First is_protected Q σ R → AlikeProblems R S
      → FirstPhase is_protected P (suc n) (composed (substitution_of σ) τ) S

-- A sequence of transformations of the second phase, "P =∇₁⇒ .. =∇ₘ⇒ P'", with its labels joined, "∇₁ ∪ .. ∪ ∇ₘ".
pub data SecondPhase : TreeProblem → Facts → TreeProblem → Type 0 where
  stays : {P : TreeProblem} → SecondPhase P [] P
  goes : {P Q R : TreeProblem} {∇ ∇' : Facts} → SecondStep P ∇ Q → SecondPhase Q ∇' R → SecondPhase P (∇ ++ ∇') R

-- "otherwise it halts signalling failure": no rule is for t ≈? t', and none for a #? t.
abbrev pub NoEquational : (ℕ → Type 0) → Tree → Tree → Type 0
NoEquational is_protected t t' = (σ : Label) (E : List TreeEquation) (D : List TreeDemand) → Equational is_protected t t' σ E D → ⊥

-- "∅"
abbrev pub empty_problem : TreeProblem
empty_problem = record { demands = []; equations = [] }

-- The second phase comes to "a #? a", for which there is no rule.
pub record Fails (P : TreeProblem) : Type 0 where
  pub label : Facts
  pub atom : ℕ
  pub others : List TreeDemand
  pub sequence : SecondPhase P label (record { demands = (atom, Rattle.nominal.specs.Tree.atom atom) ∷ others; equations = P.equations })

-- 003, lemma 3.2: "There is no infinite series of unification transitions." From P on, every series of the first phase comes to an end.
pub data Terminates (is_protected : ℕ → Type 0) : TreeProblem → Type 0 where
  terminates : {P : TreeProblem} → ((Q R : TreeProblem) (σ : Label) → AlikeProblems P Q → First is_protected Q σ R → Terminates is_protected R)
      → Terminates is_protected P
