-- 003, lemma 3.2: "There is no infinite series of unification transitions." The measure is 003's: "the lexicographically ordered pair of natural
-- numbers (n₁, n₂), where n₁ is the number of different variables used in P, and n₂ is the size of all equational problems in P".
use Prim.Native.Nat.{ℕ, zero, suc, ◌+◌, ◌≤◌, ◌<◌}
use native.Mathlib.Omega.{arith}
use mathlib.Core.Path.{◌≡◌, refl, sym, ◌∙◌}
use mathlib.Core.Logic.{◌⊎◌, inl, inr}
use mathlib.Core.List.Memᴰ
use mathlib.Core.List.{List, [], ◌∷◌, ◌++◌, map, Memᴰ}
use lib.ListN.{length}
use Rattle.names.proofs.Equal.{by_eq}
use Rattle.names.proofs.Without.{without, without_member, shorter_without}
use Rattle.nominal.specs.Tree.{Tree, unit, atom, abstraction, pair, application, suspension, variable, size, Occurs, substitute, replacing}
use Rattle.nominal.specs.Solutions.{Every, Facts, TreeDemand, TreeEquation, TreeProblem}
use Rattle.nominal.proofs.Tree.{size_permute, occurs_permute, occurs_substitute}
use Rattle.nominal.proofs.Solutions.{every_append, every_map}
use Rattle.nominal.proofs.Replacing.{replacing_same, replacing_other}
use Rattle.run.proofs.Same.{same_size, same_occurs}
use Rattle.figure3.specs.Figure3.{Label, ε, ◌:=◌, put_into, Equational, ≈?-unit, ≈?-pair, ≈?-function_symbol, ≈?-abstraction_1, ≈?-abstraction_2, ≈?-atom}
use Rattle.figure3.specs.Figure3.{≈?-suspension, ≈?-variable_right, ≈?-variable_left, First, first, Freshness, #?-unit, #?-pair, #?-function_symbol}
use Rattle.figure3.specs.Figure3.{#?-abstraction_1, #?-abstraction_2, #?-atom, #?-suspension, SecondStep, second, Each, AlikeDemands, AlikeEquations}
use Rattle.figure3.specs.Figure3.{AlikeProblems, Terminates, terminates}

-- "the size (see Definition 2.10) of all equational problems in P"
abbrev pub sizes : List TreeEquation → ℕ
sizes [] = 0
sizes (e ∷ E) = (size e.0 + size e.1) + sizes E

sizes_append : (E F : List TreeEquation) → sizes (E ++ F) ≡ sizes E + sizes F
sizes_append [] F = omega arith
sizes_append (e ∷ E) F = omega (arith, sizes_append E F)

-- The variables used in a problem are among those of a list.
abbrev pub Uses : List ℕ → Tree → Type 0
Uses Xs t = (X : ℕ) → Occurs X t → Memᴰ X Xs

abbrev UsesDemand : List ℕ → TreeDemand → Type 0
UsesDemand Xs d = Uses Xs d.1

abbrev UsesEquation : List ℕ → TreeEquation → Type 0
UsesEquation Xs e = Uses Xs e.0 × Uses Xs e.1

pub record Covers (Xs : List ℕ) (P : TreeProblem) : Type 0 where
  pub demands : Every (UsesDemand Xs) P.demands
  pub equations : Every (UsesEquation Xs) P.equations

-- ---- the rules

every_one : (Xs : List ℕ) (X : ℕ) → Memᴰ X Xs → (ds : List ℕ) → Every (UsesDemand Xs) (map (λ a. (a, variable X)) ds)
every_one Xs X k [] = tt
every_one Xs X k (a ∷ ds) = (λ Y o. rw o k, every_one Xs X k ds)

-- "the (≈?-variable) transition eliminates (completely) one variable from the unification problem"
record Eliminates (s t : Tree) (X : ℕ) (u : Tree) (E : List TreeEquation) (D : List TreeDemand) : Type 0 where
  no_equations : E ≡ []
  no_demands : D ≡ []
  used : Occurs X s ⊎ Occurs X t
  absent : Occurs X u → ⊥
  only : (Y : ℕ) → Occurs Y u → Occurs Y s ⊎ Occurs Y t

module _ {is_protected : ℕ → Type 0} where
  -- "all other transitions leave the number of variables unchanged, but decrease n₂"
  rule_shrinks : {s t : Tree} {E : List TreeEquation} {D : List TreeDemand} → Equational is_protected s t ε E D → sizes E < size s + size t
  rule_shrinks ≈?-unit = omega arith
  rule_shrinks ≈?-pair = omega arith
  rule_shrinks ≈?-function_symbol = omega arith
  rule_shrinks ≈?-abstraction_1 = omega arith
  rule_shrinks (≈?-abstraction_2 {a = a} {a' = b} {t' = t} n) = omega (arith, size_permute ((a, b) ∷ []) t)
  rule_shrinks ≈?-atom = omega arith
  rule_shrinks (≈?-suspension ds h) = omega arith

  rule_keeps : (Xs : List ℕ) {s t : Tree} {E : List TreeEquation} {D : List TreeDemand} → Uses Xs s → Uses Xs t → Equational is_protected s t ε E D
      → Every (UsesEquation Xs) E × Every (UsesDemand Xs) D
  rule_keeps Xs h k ≈?-unit = (tt, tt)
  rule_keeps Xs h k ≈?-pair = (((λ X o. h X (inl o), λ X o. k X (inl o)), ((λ X o. h X (inr o), λ X o. k X (inr o)), tt)), tt)
  rule_keeps Xs h k ≈?-function_symbol = (((h, k), tt), tt)
  rule_keeps Xs h k ≈?-abstraction_1 = (((h, k), tt), tt)
  rule_keeps Xs h k (≈?-abstraction_2 {a = a} {a' = b} {t' = t} n) = (((h, λ X o. k X (rw (occurs_permute X ((a, b) ∷ []) t) at o)), tt), (k, tt))
  rule_keeps Xs h k ≈?-atom = (tt, tt)
  rule_keeps Xs h k (≈?-suspension {X = X} ds i) = (tt, every_one Xs X (h X refl) ds)

  rule_eliminates : {s t : Tree} {X : ℕ} {u : Tree} {E : List TreeEquation} {D : List TreeDemand} → Equational is_protected s t (X := u) E D
      → Eliminates s t X u E D
  rule_eliminates (≈?-variable_right p n) = record {
    no_equations = refl;
    no_demands = refl;
    used = inr refl;
    absent = λ o. n (rw occurs_permute at o);
    only = λ Y o. inl (rw occurs_permute at o);
  }
  rule_eliminates (≈?-variable_left p n) = record {
    no_equations = refl;
    no_demands = refl;
    used = inl refl;
    absent = λ o. n (rw occurs_permute at o);
    only = λ Y o. inr (rw occurs_permute at o);
  }

uses_put : (Xs : List ℕ) (X : ℕ) (u : Tree) → (Occurs X u → ⊥) → Uses Xs u → (t : Tree) → Uses Xs t → Uses (without X Xs) (substitute (replacing X u) t)
uses_put Xs X u absent h t k Y o =
    let (Z, z, y) = occurs_substitute (replacing X u) Y t o in
    by_eq Z X (λ p. let i : Occurs Y u = rw (p, replacing_same X u) at y in without_member {l = Xs} (λ q. absent (rw q at i)) (h Y i)) λ n.
    let i : Y ≡ Z = rw (replacing_other X u Z n) at y in without_member {l = Xs} (λ q. n (sym i ∙ q)) (rw i (k Z z))

puts_demands : (Xs : List ℕ) (X : ℕ) (u : Tree) → (Occurs X u → ⊥) → Uses Xs u → (D : List TreeDemand) → Every (UsesDemand Xs) D
    → Every (UsesDemand (without X Xs)) (map (λ d. (d.0, substitute (replacing X u) d.1)) D)
puts_demands Xs X u absent h [] k = tt
puts_demands Xs X u absent h (d ∷ D) k = (uses_put Xs X u absent h d.1 k.0, puts_demands Xs X u absent h D k.1)

puts_equations : (Xs : List ℕ) (X : ℕ) (u : Tree) → (Occurs X u → ⊥) → Uses Xs u → (E : List TreeEquation) → Every (UsesEquation Xs) E
    → Every (UsesEquation (without X Xs)) (map (λ e. (substitute (replacing X u) e.0, substitute (replacing X u) e.1)) E)
puts_equations Xs X u absent h [] k = tt
puts_equations Xs X u absent h (e ∷ E) k =
    ((uses_put Xs X u absent h e.0 k.0.0, uses_put Xs X u absent h e.1 k.0.1), puts_equations Xs X u absent h E k.1)

-- "In every =σ⇒-step this measure decreases": there are fewer variables, or no other ones and smaller equational problems.
abbrev pub Decreases : List ℕ → TreeProblem → TreeProblem → Type 0
Decreases Xs P Q = (Covers Xs Q × (sizes Q.equations < sizes P.equations)) ⊎ ((Ys : List ℕ) × (length Ys < length Xs) × Covers Ys Q)

module _ {is_protected : ℕ → Type 0} (Xs : List ℕ) {s t : Tree} where
  rule_decreases : (σ : Label) {E' : List TreeEquation} {D' : List TreeDemand} (E E'' : List TreeEquation) (D : List TreeDemand)
      → Equational is_protected s t σ E' D'
      → Covers Xs (record { demands = D; equations = E ++ (s, t) ∷ E'' })
      → Decreases Xs (record { demands = D; equations = E ++ (s, t) ∷ E'' }) (put_into σ (record { demands = D ++ D'; equations = E ++ (E' ++ E'') }))
  rule_decreases ε {E'} {D'} E E'' D r c =
      let (e, (h, e'')) = (every_append (UsesEquation Xs) E ((s, t) ∷ E'')).0 c.equations in
      let (e', d') = rule_keeps Xs h.0 h.1 r in
      inl (
        record {
          demands = (every_append (UsesDemand Xs) D D').1 (c.demands, d');
          equations = (every_append (UsesEquation Xs) E (E' ++ E'')).1
              (e, (every_append (UsesEquation Xs) E' E'').1 (e', e''));
        },
        omega (arith, sizes_append E (E' ++ E''), sizes_append E' E'', sizes_append E ((s, t) ∷ E''), rule_shrinks r),
      )
  rule_decreases (X := u) {E'} {D'} E E'' D r c =
      let (e, (h, e'')) = (every_append (UsesEquation Xs) E ((s, t) ∷ E'')).0 c.equations in
      let m : Eliminates s t X u E' D' = rule_eliminates r in
      let uses : Uses Xs u = λ Y o. by_side h.0 h.1 (m.only Y o) in
      inr (
        without X Xs,
        shorter_without (by_side h.0 h.1 m.used),
        record {
          demands = rw m.no_demands (puts_demands Xs X u m.absent uses (D ++ []) ((every_append (UsesDemand Xs) D []).1 (c.demands, tt)));
          equations = rw m.no_equations (puts_equations Xs X u m.absent uses (E ++ E'') ((every_append (UsesEquation Xs) E E'').1 (e, e'')));
        },
      )
    where
      by_side : {Y : ℕ} → Uses Xs s → Uses Xs t → Occurs Y s ⊎ Occurs Y t → Memᴰ Y Xs
      by_side {Y} h k (inl o) = h Y o
      by_side {Y} h k (inr o) = k Y o

pub first_decreases : {is_protected : ℕ → Type 0} (Xs : List ℕ) {P Q : TreeProblem} {σ : Label} → First is_protected P σ Q → Covers Xs P → Decreases Xs P Q
first_decreases Xs (first {σ = σ} E E'' D r) c = rule_decreases Xs σ E E'' D r c

-- ---- alike problems have one measure

alike_demands : (Xs : List ℕ) (D F : List TreeDemand) → Each AlikeDemands D F → Every (UsesDemand Xs) D → Every (UsesDemand Xs) F
alike_demands Xs [] [] a h = tt
alike_demands Xs [] (f ∷ F) a h = absurd a
alike_demands Xs (d ∷ D) [] a h = absurd a
alike_demands Xs (d ∷ D) (f ∷ F) a h = (λ X o. h.0 X (rw (same_occurs X a.0.1) o), alike_demands Xs D F a.1 h.1)

alike_equations : (Xs : List ℕ) (E F : List TreeEquation) → Each AlikeEquations E F → Every (UsesEquation Xs) E → Every (UsesEquation Xs) F
alike_equations Xs [] [] a h = tt
alike_equations Xs [] (f ∷ F) a h = absurd a
alike_equations Xs (e ∷ E) [] a h = absurd a
alike_equations Xs (e ∷ E) (f ∷ F) a h =
    ((λ X o. h.0.0 X (rw (same_occurs X a.0.0) o), λ X o. h.0.1 X (rw (same_occurs X a.0.1) o)), alike_equations Xs E F a.1 h.1)

alike_sizes : (E F : List TreeEquation) → Each AlikeEquations E F → sizes E ≡ sizes F
alike_sizes [] [] a = refl
alike_sizes [] (f ∷ F) a = absurd a
alike_sizes (e ∷ E) [] a = absurd a
alike_sizes (e ∷ E) (f ∷ F) a = omega (arith, same_size a.0.0, same_size a.0.1, alike_sizes E F a.1)

alike_covers : (Xs : List ℕ) {P Q : TreeProblem} → AlikeProblems P Q → Covers Xs P → Covers Xs Q
alike_covers Xs {P} {Q} a c =
    record {
      demands = alike_demands Xs P.demands Q.demands a.demands c.demands;
      equations = alike_equations Xs P.equations Q.equations
          a.equations c.equations;
    }

-- ---- the end

module _ (is_protected : ℕ → Type 0) where
  abbrev Below : ℕ → Type 0
  Below n = (Xs : List ℕ) (P : TreeProblem) → length Xs < n → Covers Xs P → Terminates is_protected P

  abbrev Within : ℕ → ℕ → Type 0
  Within n m = (Xs : List ℕ) (P : TreeProblem) → length Xs ≤ n → Covers Xs P → sizes P.equations < m → Terminates is_protected P

  onward : (n m : ℕ) → Below n → Within n m → (Xs : List ℕ) (P Q R : TreeProblem) → length Xs ≤ n → sizes P.equations < suc m → AlikeProblems P Q
      → Decreases Xs Q R → Terminates is_protected R
  onward n m below within Xs P Q R l h a (inl (c, k)) = within Xs R l c (omega (arith, alike_sizes P.equations Q.equations a.equations))
  onward n m below within Xs P Q R l h a (inr (Ys, k, c)) = below Ys R (omega arith) c

  by_size : (n : ℕ) → Below n → (m : ℕ) → Within n m
  by_size n below zero Xs P l c h = absurd (omega arith)
  by_size n below (suc m) Xs P l c h = terminates λ Q R σ a f. onward n m below (by_size n below m) Xs P Q R l h a (first_decreases Xs f (alike_covers Xs a c))

  by_variables : (n : ℕ) → Below n
  by_variables zero Xs P l c = absurd (omega arith)
  by_variables (suc n) Xs P l c = by_size n (by_variables n) (suc (sizes P.equations)) Xs P (omega arith) c (omega arith)

-- The variables of a problem.
abbrev variables_of : Tree → List ℕ
variables_of unit = []
variables_of (atom a) = []
variables_of (abstraction a t) = variables_of t
variables_of (pair s t) = variables_of s ++ variables_of t
variables_of (application f t) = variables_of t
variables_of (suspension π X) = X ∷ []

abbrev variables_of_demands : List TreeDemand → List ℕ
variables_of_demands [] = []
variables_of_demands (d ∷ D) = variables_of d.1 ++ variables_of_demands D

abbrev variables_of_equations : List TreeEquation → List ℕ
variables_of_equations [] = []
variables_of_equations (e ∷ E) = (variables_of e.0 ++ variables_of e.1) ++ variables_of_equations E

uses_own : (t : Tree) → Uses (variables_of t) t
uses_own unit X o = absurd o
uses_own (atom a) X o = absurd o
uses_own (abstraction a t) X o = uses_own t X o
uses_own (pair s t) X (inl o) = Memᴰ.append_left (variables_of t) (uses_own s X o)
uses_own (pair s t) X (inr o) = Memᴰ.append_right (variables_of s) (uses_own t X o)
uses_own (application f t) X o = uses_own t X o
uses_own (suspension π Y) X o = Memᴰ.head o

-- A longer list covers as much.
module _ (Xs Ys : List ℕ) (more : (X : ℕ) → Memᴰ X Xs → Memᴰ X Ys) where
  more_demands : (D : List TreeDemand) → Every (UsesDemand Xs) D → Every (UsesDemand Ys) D
  more_demands D h = every_map (UsesDemand Xs) (UsesDemand Ys) (λ d k X o. more X (k X o)) D h

  more_equations : (E : List TreeEquation) → Every (UsesEquation Xs) E → Every (UsesEquation Ys) E
  more_equations E h = every_map (UsesEquation Xs) (UsesEquation Ys) (λ e k. (λ X o. more X (k.0 X o), λ X o. more X (k.1 X o))) E h

covers_demands : (D : List TreeDemand) → Every (UsesDemand (variables_of_demands D)) D
covers_demands [] = tt
covers_demands (d ∷ D) = (
  λ X o. Memᴰ.append_left (variables_of_demands D) (uses_own d.1 X o),
  more_demands (variables_of_demands D) (variables_of d.1 ++ variables_of_demands D) (λ X. Memᴰ.append_right (variables_of d.1)) D (covers_demands D),
)

covers_equations : (E : List TreeEquation) → Every (UsesEquation (variables_of_equations E)) E
covers_equations [] = tt
covers_equations (e ∷ E) = (
  (
    λ X o. Memᴰ.append_left (variables_of_equations E) (Memᴰ.append_left (variables_of e.1) (uses_own e.0 X o)),
    λ X o. Memᴰ.append_left (variables_of_equations E) (Memᴰ.append_right (variables_of e.0) (uses_own e.1 X o)),
  ),
  more_equations (variables_of_equations E) ((variables_of e.0 ++ variables_of e.1) ++ variables_of_equations E)
      (λ X. Memᴰ.append_right (variables_of e.0 ++ variables_of e.1)) E (covers_equations E),
)

pub covers_own : (P : TreeProblem) → Covers (variables_of_demands P.demands ++ variables_of_equations P.equations) P
covers_own P = record {
  demands =
      more_demands (variables_of_demands P.demands) (variables_of_demands P.demands ++ variables_of_equations P.equations)
      (λ X. Memᴰ.append_left (variables_of_equations P.equations)) P.demands (covers_demands P.demands);
  equations =
      more_equations (variables_of_equations P.equations) (variables_of_demands P.demands ++ variables_of_equations P.equations)
      (λ X. Memᴰ.append_right (variables_of_demands P.demands)) P.equations (covers_equations P.equations);
}

-- 003, lemma 3.2, the first phase: from every problem, whatever is protected.
pub terminating : (is_protected : ℕ → Type 0) (P : TreeProblem) → Terminates is_protected P
terminating is_protected P =
    let Xs : List ℕ = variables_of_demands P.demands ++ variables_of_equations P.equations in
    by_variables is_protected (suc (length Xs)) Xs P (omega arith) (covers_own P)

-- ---- the second phase

-- "For the =∇⇒-steps the size Σ |t| decreases in every step."
abbrev pub demand_sizes : List TreeDemand → ℕ
demand_sizes [] = 0
demand_sizes (d ∷ D) = size d.1 + demand_sizes D

demand_sizes_append : (D F : List TreeDemand) → demand_sizes (D ++ F) ≡ demand_sizes D + demand_sizes F
demand_sizes_append [] F = omega arith
demand_sizes_append (d ∷ D) F = omega (arith, demand_sizes_append D F)

freshness_decreases : {a : ℕ} {t : Tree} {∇ : Facts} {D : List TreeDemand} → Freshness a t ∇ D → demand_sizes D < size t
freshness_decreases #?-unit = omega arith
freshness_decreases #?-pair = omega arith
freshness_decreases #?-function_symbol = omega arith
freshness_decreases #?-abstraction_1 = omega arith
freshness_decreases (#?-abstraction_2 n) = omega arith
freshness_decreases (#?-atom n) = omega arith
freshness_decreases #?-suspension = omega arith

-- So a series of the second phase has no more transformations than that.
pub second_decreases : {P Q : TreeProblem} {∇ : Facts} → SecondStep P ∇ Q → demand_sizes Q.demands < demand_sizes P.demands
second_decreases (second {a = a} {t = t} {D' = D'} D D'' E f) =
    omega (arith, demand_sizes_append D (D' ++ D''), demand_sizes_append D' D'', demand_sizes_append D ((a, t) ∷ D''), freshness_decreases f)
