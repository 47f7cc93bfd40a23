-- The laws of problems and substitutions that are the same but for lists of swaps that send every atom alike.
use Prim.Native.Nat.{ℕ}
use mathlib.Core.Path.{◌≡◌, refl, ◌∙◌}
use mathlib.Core.List.{List, [], ◌∷◌, ◌++◌, map}
use Rattle.names.proofs.Equal.{by_eq}
use Rattle.nominal.specs.Tree.{Tree, variable, Substitution, substitute, replacing}
use Rattle.nominal.specs.Solutions.{TreeDemand, TreeEquation, TreeProblem}
use Rattle.nominal.proofs.Replacing.{replacing_same, replacing_other}
use Rattle.nominal.specs.Same.{Same}
use Rattle.run.proofs.Same.{same_reflexive, same_transitive, same_substitute, same_substitutions}
use Rattle.figure3.specs.Figure3.{Each, AlikeDemands, AlikeEquations, AlikeProblems, AlikeSubstitutions, FirstPhase, none, then}

-- ---- trees and substitutions

pub same_of : {s t : Tree} → s ≡ t → Same s t
same_of {s} {t} p = rw p (same_reflexive t)

pub same_put : (σ τ : Substitution) {s t : Tree} → AlikeSubstitutions σ τ → Same s t → Same (substitute σ s) (substitute τ t)
same_put σ τ {s} h e = same_transitive (same_substitutions σ τ h s) (same_substitute τ e)

pub same_replacing : (X : ℕ) {t u : Tree} → Same t u → AlikeSubstitutions (replacing X t) (replacing X u)
same_replacing X {t} {u} e Y =
    by_eq Y X (λ p. rw (p, replacing_same X t, replacing_same X u) e) λ n.
    rw (replacing_other X t Y n, replacing_other X u Y n) (same_reflexive (variable Y))

-- ---- lists

pub each_reflexive : {A : Type 0} (R : A → A → Type 0) → ((x : A) → R x x) → (l : List A) → Each R l l
each_reflexive R h [] = tt
each_reflexive R h (x ∷ l) = (h x, each_reflexive R h l)

pub each_append : {A : Type 0} (R : A → A → Type 0) (k l m n : List A) → Each R k l → Each R m n → Each R (k ++ m) (l ++ n)
each_append R [] [] m n a b = b
each_append R [] (y ∷ l) m n a b = absurd a
each_append R (x ∷ k) [] m n a b = absurd a
each_append R (x ∷ k) (y ∷ l) m n a b = (a.0, each_append R k l m n a.1 b)

pub each_map : {A B : Type 0} (R : B → B → Type 0) (f g : A → B) → ((x : A) → R (f x) (g x)) → (l : List A) → Each R (map f l) (map g l)
each_map R f g h [] = tt
each_map R f g h (x ∷ l) = (h x, each_map R f g h l)

pub each_transitive : {A : Type 0} (R : A → A → Type 0) → ((x y z : A) → R x y → R y z → R x z) → (l m n : List A) → Each R l m → Each R m n → Each R l n
each_transitive R h [] [] n a b = b
each_transitive R h [] (y ∷ m) n a b = absurd a
each_transitive R h (x ∷ l) [] n a b = absurd a
each_transitive R h (x ∷ l) (y ∷ m) [] a b = absurd b
each_transitive R h (x ∷ l) (y ∷ m) (z ∷ n) a b = (h x y z a.0 b.0, each_transitive R h l m n a.1 b.1)

-- ---- problems

pub demands_reflexive : (D : List TreeDemand) → Each AlikeDemands D D
demands_reflexive D = each_reflexive AlikeDemands (λ d. (refl, same_reflexive d.1)) D

pub equations_reflexive : (E : List TreeEquation) → Each AlikeEquations E E
equations_reflexive E = each_reflexive AlikeEquations (λ e. (same_reflexive e.0, same_reflexive e.1)) E

pub alike_transitive : {P Q R : TreeProblem} → AlikeProblems P Q → AlikeProblems Q R → AlikeProblems P R
alike_transitive {P} {Q} {R} a b = record {
  demands =
      each_transitive AlikeDemands (λ c d e x y. (x.0 ∙ y.0, same_transitive x.1 y.1)) P.demands Q.demands R.demands a.demands b.demands;
  equations =
      each_transitive AlikeEquations (λ c d e x y. (same_transitive x.0 y.0, same_transitive x.1 y.1)) P.equations Q.equations R.equations
      a.equations b.equations;
}

pub alike_reflexive : (P : TreeProblem) → AlikeProblems P P
alike_reflexive P = record { demands = demands_reflexive P.demands; equations = equations_reflexive P.equations }

-- A sequence may end in any problem alike to its last.
pub phase_alike : {is_protected : ℕ → Type 0} {P Q R : TreeProblem} {n : ℕ} {τ : Substitution} → FirstPhase is_protected P n τ Q → AlikeProblems Q R
    → FirstPhase is_protected P n τ R
phase_alike (none a) b = none (alike_transitive a b)
phase_alike (then s f a) b = then s f (alike_transitive a b)
