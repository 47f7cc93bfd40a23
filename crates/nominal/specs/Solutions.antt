-- Document 01, section "Solutions and instances", definition by definition. Trees have any size, atoms, symbols and variables. Definitions
-- alone; their laws are in proofs/.
use Rattle.std.specs.Prelude.{ℕ, ◌≤◌, ◌≡◌, ◌↔◌}
use mathlib.Core.List.{List, [], ◌∷◌, Memᴰ}
use Rattle.nominal.specs.Tree.{Tree, variable, Substitution, substitute}
use Rattle.nominal.specs.Figure2.{Environment, ◌⊢◌#◌, ◌⊢◌≈◌}

-- Each member of the list has the property.
abbrev pub Every : {A : Type 0} → (A → Type 0) → List A → Type 0
Every P [] = Unit {0}
Every P (x ∷ l) = P x × Every P l

-- A fact is a pair of atom and variable: the atom is fresh for the variable. A finite set of facts is a list, read by membership; it gives
-- the environment from which figure 2 derives.
abbrev pub Fact : Type 0
Fact = ℕ × ℕ

abbrev pub Facts : Type 0
Facts = List Fact

abbrev pub environment_of : Facts → Environment
environment_of F a X = Memᴰ (a, X) F

-- 003, definition 2.13: a substitution has "the property that σ(X) = X for all but finitely many variables X". Variables are numbers, so
-- there is one from which on none moves.
abbrev pub Finite : Substitution → Type 0
Finite σ = (n : ℕ) × ((X : ℕ) → n ≤ X → σ X ≡ variable X)

-- What a pair of facts and substitution may be. Every definition and theorem below is over any allowance; document 01's is `protecting`.
pub record Allowance : Type 1 where
  pub allows_facts : Facts → Type 0
  pub allows_substitution : Substitution → Type 0

-- "An allowed pair is a finite set of facts and a substitution .."
abbrev pub Allowed : Allowance → Facts → Substitution → Type 0
Allowed A F τ = A.allows_facts F × A.allows_substitution τ

-- ".. that leaves protected variables as they are."
abbrev pub protecting : (ℕ → Type 0) → Allowance
protecting is_protected = record { allows_facts = λ F. Unit {0}; allows_substitution = λ σ. Finite σ × ((X : ℕ) → is_protected X → σ X ≡ variable X) }

-- A demand: the atom is to be fresh for the tree (tags 21 and 22; of a 22 the tree is a variable). An equation: two trees are to be equal.
abbrev pub TreeDemand : Type 0
TreeDemand = ℕ × Tree

abbrev pub TreeEquation : Type 0
TreeEquation = Tree × Tree

pub record TreeProblem : Type 0 where
  pub demands : List TreeDemand
  pub equations : List TreeEquation

-- "It solves the problem if its facts derive every demand (21, 22) and every equation after substitution (003)." The facts stand as the
-- environment that they give.
abbrev pub Meets : Environment → Substitution → TreeDemand → Type 0
Meets ∇ τ d = ∇ ⊢ d.0 # substitute τ d.1

abbrev pub Equates : Environment → Substitution → TreeEquation → Type 0
Equates ∇ τ e = ∇ ⊢ substitute τ e.0 ≈ substitute τ e.1

abbrev pub Solves : Environment → Substitution → TreeProblem → Type 0
Solves ∇ τ P = Every (Meets ∇ τ) P.demands × Every (Equates ∇ τ) P.equations

-- An answer is a finite set of facts and a substitution.
pub record Answer : Type 0 where
  pub facts : Facts
  pub substitution : Substitution

-- 003, (11): the environment derives the fact a # X after the substitution, that is a # σ(X).
abbrev pub Holds : Environment → Substitution → Fact → Type 0
Holds ∇ σ f = ∇ ⊢ f.0 # σ f.1

-- "It is an instance of an answer if some allowed substitution, done after the answer's, gives the pair's own substitution, up to equality
-- derivable from the pair's facts, on every variable, and the pair's facts derive the answer's facts so substituted."
abbrev pub Instance : Allowance → Environment → Substitution → Answer → Type 0
Instance A ∇ τ q =
    (later : Substitution) × A.allows_substitution later × ((X : ℕ) → ∇ ⊢ substitute later (q.substitution X) ≈ τ X) × Every (Holds ∇ later) q.facts

-- "Two answers are equally general if they have the same allowed instances."
abbrev pub EquallyGeneral : Allowance → Answer → Answer → Type 0
EquallyGeneral A q r = (F : Facts) (τ : Substitution) → Allowed A F τ → Instance A (environment_of F) τ q ↔ Instance A (environment_of F) τ r

-- The answer that a problem is to get: its allowed instances are exactly the problem's allowed solutions.
abbrev pub Answers : Allowance → TreeProblem → Answer → Type 0
Answers A P q = (F : Facts) (τ : Substitution) → Allowed A F τ → Solves (environment_of F) τ P ↔ Instance A (environment_of F) τ q

-- Words for the way there. The pair takes each variable and its value under σ for equal; σ done twice is σ done once; σ leaves the fact's
-- variable as it is.
abbrev pub Satisfies : Environment → Substitution → Substitution → Type 0
Satisfies ∇ τ σ = (X : ℕ) → ∇ ⊢ τ X ≈ substitute τ (σ X)

abbrev pub Idempotent : Substitution → Type 0
Idempotent σ = (X : ℕ) → substitute σ (σ X) ≡ σ X

abbrev pub Unbound : Substitution → Fact → Type 0
Unbound σ f = σ f.1 ≡ variable f.1
