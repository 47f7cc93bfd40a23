-- What figure 3's rules do not tell apart, and where none of them applies.
use Prim.Native.Nat.{ℕ}
use mathlib.Core.Path.{refl, sym, ◌∙◌}
use mathlib.Core.Logic.{◌≢◌}
use mathlib.Core.List.{List}
use Rattle.permutation.specs.Swaps.{Swaps}
use Rattle.nominal.specs.Tree.{Tree, atom, application, suspension, Occurs}
use Rattle.nominal.specs.Solutions.{TreeDemand, TreeEquation}
use Rattle.nominal.specs.Form.{form}
use Rattle.nominal.specs.Same.{Same, same_unit, same_atom, same_abstraction, same_pair, same_application, same_suspension}
use Rattle.run.proofs.Same.{same_symmetric, same_occurs}
use Rattle.figure3.specs.Figure3.{Label, Equational, ≈?-unit, ≈?-pair, ≈?-function_symbol, ≈?-abstraction_1, ≈?-abstraction_2, ≈?-atom, ≈?-suspension}
use Rattle.figure3.specs.Figure3.{≈?-variable_right, ≈?-variable_left, NoEquational}

-- Some rule is for t ≈? t'.
pub record Some (is_protected : ℕ → Type 0) (t t' : Tree) : Type 0 where
  pub label : Label
  pub equations : List TreeEquation
  pub demands : List TreeDemand
  pub rule : Equational is_protected t t' label equations demands

module _ {is_protected : ℕ → Type 0} where
  some : {t t' : Tree} {σ : Label} {E : List TreeEquation} {D : List TreeDemand} → Equational is_protected t t' σ E D → Some is_protected t t'
  some {σ = σ} {E = E} {D = D} r = record { label = σ; equations = E; demands = D; rule = r }

  -- The rules do not tell alike trees apart.
  pub rule_alike : {s t s' t' : Tree} {σ : Label} {E : List TreeEquation} {D : List TreeDemand} → Same s s' → Same t t' → Equational is_protected s t σ E D
      → Some is_protected s' t'
  rule_alike same_unit same_unit ≈?-unit = some ≈?-unit
  rule_alike (same_pair a b) (same_pair c d) ≈?-pair = some ≈?-pair
  rule_alike (same_application a) (same_application b) ≈?-function_symbol = some ≈?-function_symbol
  rule_alike (same_abstraction a) (same_abstraction b) ≈?-abstraction_1 = some ≈?-abstraction_1
  rule_alike (same_abstraction a) (same_abstraction b) (≈?-abstraction_2 n) = some (≈?-abstraction_2 n)
  rule_alike same_atom same_atom ≈?-atom = some ≈?-atom
  rule_alike (same_suspension h) (same_suspension k) (≈?-suspension ds i) =
      some (≈?-suspension ds (λ a. (λ o p. (i a).0 o (h a ∙ p ∙ sym (k a)), λ n. (i a).1 (λ p. n (sym (h a) ∙ p ∙ k a)))))
  rule_alike a (same_suspension h) (≈?-variable_right {X = X} p n) = some (≈?-variable_right p (λ o. n (rw (same_occurs X (same_symmetric a)) at o)))
  rule_alike (same_suspension h) b (≈?-variable_left {X = X} p n) = some (≈?-variable_left p (λ o. n (rw (same_occurs X (same_symmetric b)) at o)))

  pub none_alike : {s t s' t' : Tree} → Same s s' → Same t t' → NoEquational is_protected s' t' → NoEquational is_protected s t
  none_alike a b n σ E D r = let k = rule_alike a b r in n k.label k.equations k.demands k.rule

  -- Different forms, neither a suspension.
  pub none_forms : {s t : Tree} → form s ≢ 5 → form t ≢ 5 → form s ≢ form t → NoEquational is_protected s t
  none_forms a b n σ E D ≈?-unit = n refl
  none_forms a b n σ E D ≈?-pair = n refl
  none_forms a b n σ E D ≈?-function_symbol = n refl
  none_forms a b n σ E D ≈?-abstraction_1 = n refl
  none_forms a b n σ E D (≈?-abstraction_2 m) = n refl
  none_forms a b n σ E D ≈?-atom = n refl
  none_forms a b n σ E D (≈?-suspension ds i) = n refl
  none_forms a b n σ E D (≈?-variable_right p o) = b refl
  none_forms a b n σ E D (≈?-variable_left p o) = a refl

  pub none_atoms : {a b : ℕ} → a ≢ b → NoEquational is_protected (atom a) (atom b)
  none_atoms n σ E D ≈?-atom = n refl

  pub none_symbols : {f h : ℕ} {s t : Tree} → f ≢ h → NoEquational is_protected (application f s) (application h t)
  none_symbols n σ E D ≈?-function_symbol = n refl

  -- A variable against another form that holds it.
  pub none_inside_left : {π : Swaps} {X : ℕ} {t : Tree} → form t ≢ 5 → Occurs X t → NoEquational is_protected (suspension π X) t
  none_inside_left n o σ E D (≈?-suspension ds i) = n refl
  none_inside_left n o σ E D (≈?-variable_right p m) = n refl
  none_inside_left n o σ E D (≈?-variable_left p m) = m o

  pub none_inside_right : {π : Swaps} {X : ℕ} {s : Tree} → form s ≢ 5 → Occurs X s → NoEquational is_protected s (suspension π X)
  none_inside_right n o σ E D (≈?-suspension ds i) = n refl
  none_inside_right n o σ E D (≈?-variable_left p m) = n refl
  none_inside_right n o σ E D (≈?-variable_right p m) = m o

  -- A protected variable against another form, or against another protected variable.
  pub none_protected_left : {π : Swaps} {X : ℕ} {t : Tree} → form t ≢ 5 → is_protected X → NoEquational is_protected (suspension π X) t
  none_protected_left n q σ E D (≈?-suspension ds i) = n refl
  none_protected_left n q σ E D (≈?-variable_right p m) = n refl
  none_protected_left n q σ E D (≈?-variable_left p m) = p q

  pub none_protected_right : {π : Swaps} {X : ℕ} {s : Tree} → form s ≢ 5 → is_protected X → NoEquational is_protected s (suspension π X)
  none_protected_right n q σ E D (≈?-suspension ds i) = n refl
  none_protected_right n q σ E D (≈?-variable_left p m) = n refl
  none_protected_right n q σ E D (≈?-variable_right p m) = p q

  pub none_both_protected : {π ρ : Swaps} {X Y : ℕ} → X ≢ Y → is_protected X → is_protected Y → NoEquational is_protected (suspension π X) (suspension ρ Y)
  none_both_protected n q r σ E D (≈?-suspension ds i) = n refl
  none_both_protected n q r σ E D (≈?-variable_right p m) = p r
  none_both_protected n q r σ E D (≈?-variable_left p m) = p q
