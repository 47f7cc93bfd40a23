-- What document 01 promises of the solver and the judge, said of a problem as it is read: its trees, who solves it, which answer it gets and what
-- figure 2 derives of it. Definitions alone; that the solver and the judge keep these promises is in proofs/.
use Rattle.std.specs.Prelude.{ℕ, ◌≡◌, ◌≢◌, ◌↔◌}
use mathlib.Core.List.{List, ◌++◌, map, Memᴰ}
use Rattle.std.proofs.Math.Option.{none, some}
use Rattle.nominal.specs.Tree.{variable, Occurs, Substitution, substitute}
use Rattle.nominal.specs.Figure2.{◌⊢◌#◌, ◌⊢◌≈◌}
use Rattle.nominal.specs.Solutions.{Every, Facts, environment_of, Allowance, Allowed, protecting, TreeDemand, TreeEquation, Solves, Answer, EquallyGeneral}
use Rattle.nominal.specs.Solutions.{Answers, Idempotent}
use Rattle.nominal.specs.Solutions.{Unbound, TreeProblem as TreeProblem}
use Rattle.problem.specs.Problem.{Node, Problem}
use Rattle.problem.specs.Reader.{read, reading, base_tags}
use Rattle.run.specs.Meaning.{Fact, tree, Side, side_tree, Binding, meaning}
use Rattle.run.specs.Run.{value_of}
use Rattle.run.specs.Answer.{asked_fresh, asked_assumed, assumed_facts, answer_bytes, Verdict, accepted, refusal, Result, written, Judgement, NoSolution}

-- A problem's demands (21, 22) and equations, as trees.
abbrev pub asked : Problem → TreeProblem
asked p = record {
  demands = asked_fresh p.nodes p.freshness ++ asked_assumed p.assumptions;
  equations = map (λ e. (tree p.nodes e.left, tree p.nodes e.right)) p.equations;
}

-- "An allowed pair is a finite set of facts and a substitution that leaves protected variables as they are."
abbrev pub IsProtected : Problem → ℕ → Type 0
IsProtected p X = Memᴰ X p.protected

abbrev pub allowance : Problem → Allowance
allowance p = protecting (IsProtected p)

-- An answer's facts, and its bindings' meaning.
abbrev pub answer_of : Problem → List Binding → List Fact → Answer
answer_of p bs fs = record { facts = fs; substitution = meaning p.nodes bs }

-- No allowed pair solves the problem.
abbrev pub Unsolvable : Allowance → Problem → Type 0
Unsolvable A p = (F : Facts) (τ : Substitution) → Allowed A F τ → Solves (environment_of F) τ (asked p) → ⊥

-- Demand 3, of a verdict: accepted, the allowed solutions are exactly the allowed instances of the answer; refused by such a number, there is none.
abbrev pub Promised : Allowance → Problem → Verdict → Type 0
Promised A p (accepted steps bs fs) = Answers A (asked p) (answer_of p bs fs)
Promised A p (refusal n o) = NoSolution n → Unsolvable A p

-- "The bindings' meaning is to replace bound variables until none is left. No value contains its own variable." The four hold of one substitution only.
pub record Replaces (nodes : List Node) (bs : List Binding) (σ : Substitution) : Type 0 where
  pub stays : (X : ℕ) → value_of bs X ≡ none → σ X ≡ variable X
  pub becomes : (X : ℕ) (v : Side) → value_of bs X ≡ some v → σ X ≡ substitute σ (side_tree nodes v)
  pub none_left : (X Y : ℕ) → Occurs Y (σ X) → value_of bs Y ≡ none
  pub apart : (X : ℕ) (v : Side) → value_of bs X ≡ some v → Occurs X (side_tree nodes v) → ⊥

-- An accepted answer by itself: it solves its problem, it is allowed, and its substitution is what document 01 says of its bindings, and done twice is
-- itself; each of its facts is about an unbound variable.
pub record Proper (p : Problem) (bs : List Binding) (fs : List Fact) : Type 0 where
  pub solves : Solves (environment_of fs) (meaning p.nodes bs) (asked p)
  pub allowed : Allowed (allowance p) fs (meaning p.nodes bs)
  pub replaces : Replaces p.nodes bs (meaning p.nodes bs)
  pub only : (τ : Substitution) → Replaces p.nodes bs τ → (X : ℕ) → τ X ≡ meaning p.nodes bs X
  pub twice : Idempotent (meaning p.nodes bs)
  pub unbound : Every (Unbound (meaning p.nodes bs)) fs

-- The same demands, in another order or listed twice.
pub record SameDemands (p q : Problem) : Type 0 where
  pub demands : (d : TreeDemand) → Memᴰ d (asked p).demands ↔ Memᴰ d (asked q).demands
  pub equations : (e : TreeEquation) → Memᴰ e (asked p).equations ↔ Memᴰ e (asked q).equations
  pub protected : (X : ℕ) → IsProtected p X ↔ IsProtected q X

-- Both are accepted, with answers that are equally general, or both refused, unless a limit is reached.
abbrev pub Agree : Problem → Problem → Verdict → Verdict → Type 0
Agree p q (accepted k bs fs) (accepted l cs gs) = EquallyGeneral (allowance p) (answer_of p bs fs) (answer_of q cs gs)
Agree p q (accepted k bs fs) (refusal n o) = n ≡ 8
Agree p q (refusal n o) (accepted l cs gs) = n ≡ 8
Agree p q (refusal n o) (refusal m i) = Unit {0}

-- "003's figure 2 derives every equation and every freshness field from the assumptions."
abbrev pub Derives : Problem → Type 0
Derives p =
    Every (λ e. environment_of (assumed_facts p.assumptions) ⊢ tree p.nodes e.left ≈ tree p.nodes e.right) p.equations
    × Every (λ d. environment_of (assumed_facts p.assumptions) ⊢ d.atom # tree p.nodes d.node) p.freshness

-- The solver, from bytes to its result. An acceptance, with room for the answer or without it: a problem was read, and the answer whose bytes are
-- written is the one that it is to get.
pub record Accepts (input output : List ℕ) (r : Result) : Type 0 where
  pub problem : Problem
  pub steps : ℕ
  pub bindings : List Binding
  pub facts : List Fact
  pub reads : reading base_tags input ≡ read problem
  pub writes : r ≡ written (answer_bytes steps bindings facts) output
  pub answers : Answers (allowance problem) (asked problem) (answer_of problem bindings facts)
  pub proper : Proper problem bindings facts

-- A refusal with 9 to 12: a problem was read, and no allowed pair solves it.
pub record Refuses (input : List ℕ) : Type 0 where
  pub problem : Problem
  pub reads : reading base_tags input ≡ read problem
  pub unsolvable : Unsolvable (allowance problem) problem

-- "0 exactly when" it does, unless 8.
abbrev pub Judged : Problem → Judgement → Type 0
Judged p j = j.0 ≢ 8 → (j.0 ≡ 0) ↔ Derives p
