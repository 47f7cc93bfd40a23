-- 003, proposition 2.16: on trees without variables equality is naive α-equivalence, and freshness is not being among the free atoms. Both hold
-- from any environment, so from none.
use Prim.Native.Nat.{ℕ, zero, suc, ◌+◌, ◌≤◌, ◌<◌}
use native.Mathlib.Omega.{arith}
use mathlib.Core.Path.{◌≡◌, refl, sym}
use mathlib.Core.Logic.{◌↔◌, inl, inr}
use mathlib.Core.List.{[], ◌∷◌}
use borrow.Author.Tests.{eq-eqb, ne_eqb}
use Rattle.permutation.specs.Swaps.{Swaps}
use Rattle.names.proofs.Equal.{by_eq}
use Rattle.permutation.proofs.Swaps.{swapped_left, swapped_right, swapped_other, swapped_twice, swapped_itself}
use Rattle.nominal.specs.Tree.{Tree, unit, atom, abstraction, pair, application, suspension, permute, size}
use Rattle.nominal.specs.Figure2.{Environment, ◌⊢◌#◌, #-unit, #-pair, #-function_symbol, #-abstraction_1, #-abstraction_2, #-atom, #-suspension, ◌⊢◌≈◌}
use Rattle.nominal.specs.Figure2.{≈-unit, ≈-pair, ≈-function_symbol, ≈-abstraction_1, ≈-abstraction_2, ≈-atom, ≈-suspension}
use Rattle.nominal.specs.Adequacy.{GroundTree, FreeIn, Absent, renamed, ◌=α◌, α_reflexive, α_symmetric, α_transitive, α_abstraction, α_pair}
use Rattle.nominal.specs.Adequacy.{α_application}
use Rattle.nominal.specs.Adequacy.{α_renamed}
use Rattle.nominal.proofs.Tree.{permute_nil, permute_append, size_permute}
use Rattle.nominal.proofs.Figure2.{fresh_abstraction, from_abstraction_same}
use Rattle.nominal.proofs.Laws.{fresh_to, equal_alike, equal_reflexive, equal_symmetric, equal_transitive}

-- Permuting and renaming neither make nor remove variables, and so does no naive step.
pub ground_permute : (π : Swaps) (t : Tree) → GroundTree (permute π t) ≡ GroundTree t
ground_permute π unit = refl
ground_permute π (atom a) = refl
ground_permute π (abstraction a t) = ground_permute π t
ground_permute π (pair s t) = rw (ground_permute π s, ground_permute π t)
ground_permute π (application f t) = ground_permute π t
ground_permute π (suspension ρ X) = refl

pub ground_renamed : (a b : ℕ) (t : Tree) → GroundTree (renamed a b t) ↔ GroundTree t
ground_renamed a b unit = (λ g. g, λ g. g)
ground_renamed a b (atom c) = by_eq c a (λ p. rw (eq-eqb c a p) (λ g. g, λ g. g)) (λ n. rw (ne_eqb c a n) (λ g. g, λ g. g))
ground_renamed a b (abstraction c t) = by_eq c a (λ p. rw (eq-eqb c a p) (λ g. g, λ g. g)) (λ n. rw (ne_eqb c a n) (ground_renamed a b t))
ground_renamed a b (pair s t) = (
  λ g. ((ground_renamed a b s).0 g.0, (ground_renamed a b t).0 g.1),
  λ g. ((ground_renamed a b s).1 g.0, (ground_renamed a b t).1 g.1),
)
ground_renamed a b (application f t) = ground_renamed a b t
ground_renamed a b (suspension ρ X) = (λ g. g, λ g. g)

pub naive_ground : {s t : Tree} → s =α t → GroundTree s ↔ GroundTree t
naive_ground α_reflexive = (λ g. g, λ g. g)
naive_ground (α_symmetric e) = ((naive_ground e).1, (naive_ground e).0)
naive_ground (α_transitive e k) = (λ g. (naive_ground k).0 ((naive_ground e).0 g), λ g. (naive_ground e).1 ((naive_ground k).1 g))
naive_ground (α_abstraction e) = naive_ground e
naive_ground (α_pair e k) = (λ g. ((naive_ground e).0 g.0, (naive_ground k).0 g.1), λ g. ((naive_ground e).1 g.0, (naive_ground k).1 g.1))
naive_ground (α_application e) = naive_ground e
naive_ground (α_renamed {a = a} {b = b} {t = t} absent) = ((ground_renamed a b t).1, (ground_renamed a b t).0)

-- An atom above all atoms of a tree is absent from it, so there always is one.
above : Tree → ℕ
above unit = 0
above (atom a) = suc a
above (abstraction a t) = suc a + above t
above (pair s t) = above s + above t
above (application f t) = above t
above (suspension π X) = 0

above_absent : (c : ℕ) (t : Tree) → GroundTree t → above t ≤ c → Absent c t
unfolding above
above_absent c unit g h = tt
above_absent c (atom a) g h = λ p. omega arith
above_absent c (abstraction a t) g h = (λ p. omega arith, above_absent c t g (omega arith))
above_absent c (pair s t) g h = (above_absent c s g.0 (omega arith), above_absent c t g.1 (omega arith))
above_absent c (application f t) g h = above_absent c t g h
above_absent c (suspension π X) g h = absurd g

-- Replacing free occurrences by an absent atom and swapping with it come to the same, in the naive sense.
renamed_swapped : (a c : ℕ) (t : Tree) → GroundTree t → Absent c t → renamed a c t =α permute ((a, c) ∷ []) t
renamed_swapped a c unit g h = α_reflexive
renamed_swapped a c (atom d) g h =
    by_eq d a (λ p. rw (eq-eqb d a p, p, swapped_left a c) α_reflexive) (λ n. rw (ne_eqb d a n, swapped_other a c d n (λ p. h (sym p))) α_reflexive)
renamed_swapped a c (abstraction d t) g h =
    by_eq d a
    (λ p. rw (eq-eqb d a p, p, swapped_left a c) (α_transitive (α_renamed h.1) (α_abstraction (renamed_swapped a c t g h.1))))
    (λ n. rw (ne_eqb d a n, swapped_other a c d n (λ p. h.0 (sym p))) (α_abstraction (renamed_swapped a c t g h.1)))
renamed_swapped a c (pair s t) g h = α_pair (renamed_swapped a c s g.0 h.0) (renamed_swapped a c t g.1 h.1)
renamed_swapped a c (application f t) g h = α_application (renamed_swapped a c t g h)
renamed_swapped a c (suspension π X) g h = absurd g

-- So a binder may be swapped for an absent atom.
naive_swapped : (a c : ℕ) (t : Tree) → GroundTree t → Absent c t → abstraction a t =α abstraction c (permute ((a, c) ∷ []) t)
naive_swapped a c t g h = α_transitive (α_renamed h) (α_abstraction (renamed_swapped a c t g h))

absent_not_free : (a : ℕ) (t : Tree) → Absent a t → FreeIn a t → ⊥
absent_not_free a unit h f = f
absent_not_free a (atom b) h f = h f
absent_not_free a (abstraction b t) h f = absent_not_free a t h.1 f.0
absent_not_free a (pair s t) h (inl f) = absent_not_free a s h.0 f
absent_not_free a (pair s t) h (inr f) = absent_not_free a t h.1 f
absent_not_free a (application g t) h f = absent_not_free a t h f
absent_not_free a (suspension π X) h f = f

module _ {∇ : Environment} where
  -- Freshness: 2.16, second sentence.
  pub fresh_not_free : {a : ℕ} {t : Tree} → ∇ ⊢ a # t → FreeIn a t → ⊥
  fresh_not_free (#-pair h k) (inl f) = fresh_not_free h f
  fresh_not_free (#-pair h k) (inr f) = fresh_not_free k f
  fresh_not_free (#-function_symbol h) f = fresh_not_free h f
  fresh_not_free #-abstraction_1 f = f.1 refl
  fresh_not_free (#-abstraction_2 n h) f = fresh_not_free h f.0
  fresh_not_free (#-atom n) f = n f
  fresh_not_free #-unit f = f
  fresh_not_free (#-suspension h) f = f

  pub not_free_fresh : (a : ℕ) (t : Tree) → GroundTree t → (FreeIn a t → ⊥) → ∇ ⊢ a # t
  not_free_fresh a unit g n = #-unit
  not_free_fresh a (atom b) g n = #-atom n
  not_free_fresh a (abstraction b t) g n = fresh_abstraction.1 (λ m. not_free_fresh a t g (λ f. n (f, m)))
  not_free_fresh a (pair s t) g n = #-pair (not_free_fresh a s g.0 (λ f. n (inl f))) (not_free_fresh a t g.1 (λ f. n (inr f)))
  not_free_fresh a (application f t) g n = #-function_symbol (not_free_fresh a t g n)
  not_free_fresh a (suspension π X) g n = absurd g

  pub adequate_freshness : (a : ℕ) (t : Tree) → GroundTree t → (∇ ⊢ a # t) ↔ (FreeIn a t → ⊥)
  adequate_freshness a t g = (fresh_not_free, not_free_fresh a t g)

  absent_fresh : (a : ℕ) (t : Tree) → GroundTree t → Absent a t → ∇ ⊢ a # t
  absent_fresh a t g h = not_free_fresh a t g (absent_not_free a t h)

  -- Figure 2 lets a binder be swapped for any fresh atom.
  pub equal_swapped : (a c : ℕ) (t : Tree) → ∇ ⊢ c # t → ∇ ⊢ abstraction a t ≈ abstraction c (permute ((a, c) ∷ []) t)
  equal_swapped a c t h =
      by_eq a c
      (λ p. rw p (≈-abstraction_1 {s = t} {t = permute ((c, c) ∷ []) t}
      (equal_alike t [] ((c, c) ∷ []) (λ x. sym (swapped_itself c x)) (rw permute_nil (equal_reflexive t)))))
      (λ n. ≈-abstraction_2 n
      (rw (← permute_append ((a, c) ∷ []) ((a, c) ∷ []) t)
      (equal_alike t [] ((a, c) ∷ (a, c) ∷ []) (λ x. sym (swapped_twice a c x)) (rw permute_nil (equal_reflexive t))))
      (fresh_to ((a, c) ∷ []) (swapped_right a c) h))

  -- The same as renamed-swapped, for figure 2.
  equal_renamed : (a c : ℕ) (t : Tree) → GroundTree t → Absent c t → ∇ ⊢ permute ((a, c) ∷ []) t ≈ renamed a c t
  equal_renamed a c unit g h = ≈-unit
  equal_renamed a c (atom d) g h =
      by_eq d a (λ p. rw (eq-eqb d a p, p, swapped_left a c) ≈-atom) (λ n. rw (ne_eqb d a n, swapped_other a c d n (λ p. h (sym p))) ≈-atom)
  equal_renamed a c (abstraction d t) g h =
      by_eq d a
      (λ p. rw (eq-eqb d a p, p, swapped_left a c) (equal_symmetric (equal_swapped a c t (absent_fresh c t g h.1))))
      (λ n. rw (ne_eqb d a n, swapped_other a c d n (λ p. h.0 (sym p))) (≈-abstraction_1 (equal_renamed a c t g h.1)))
  equal_renamed a c (pair s t) g h = ≈-pair (equal_renamed a c s g.0 h.0) (equal_renamed a c t g.1 h.1)
  equal_renamed a c (application f t) g h = ≈-function_symbol (equal_renamed a c t g h)
  equal_renamed a c (suspension π X) g h = absurd g

  pub from_naive : {s t : Tree} → GroundTree s → s =α t → ∇ ⊢ s ≈ t
  from_naive {s} g α_reflexive = equal_reflexive s
  from_naive g (α_symmetric e) = equal_symmetric (from_naive ((naive_ground e).1 g) e)
  from_naive g (α_transitive e k) = equal_transitive (from_naive g e) (from_naive ((naive_ground e).0 g) k)
  from_naive g (α_abstraction e) = ≈-abstraction_1 (from_naive g e)
  from_naive g (α_pair e k) = ≈-pair (from_naive g.0 e) (from_naive g.1 k)
  from_naive g (α_application e) = ≈-function_symbol (from_naive g e)
  from_naive g (α_renamed {a = a} {b = b} {t = t} h) = equal_transitive (equal_swapped a b t (absent_fresh b t g h)) (≈-abstraction_1 (equal_renamed a b t g h))

  -- Equal abstractions, both binders swapped for one fresh atom, have equal bodies.
  pub equal_bodies : (a b c : ℕ) (s t : Tree) → ∇ ⊢ c # s → ∇ ⊢ c # t → ∇ ⊢ abstraction a s ≈ abstraction b t
      → ∇ ⊢ permute ((a, c) ∷ []) s ≈ permute ((b, c) ∷ []) t
  equal_bodies a b c s t h k e = from_abstraction_same (equal_transitive (equal_symmetric (equal_swapped a c s h)) (equal_transitive e (equal_swapped b c t k)))

  -- By induction on size: the bodies of two abstractions are compared after swapping both binders for an atom that neither has.
  to_naive_below : (n : ℕ) {s t : Tree} → size s < n → GroundTree s → GroundTree t → ∇ ⊢ s ≈ t → s =α t
  to_naive_below zero h g k e = absurd (omega arith)
  to_naive_below (suc n) h g k ≈-unit = α_reflexive
  to_naive_below (suc n) h g k (≈-pair d e) = α_pair (to_naive_below n (omega arith) g.0 k.0 d) (to_naive_below n (omega arith) g.1 k.1 e)
  to_naive_below (suc n) h g k (≈-function_symbol e) = α_application (to_naive_below n (omega arith) g k e)
  to_naive_below (suc n) h g k (≈-abstraction_1 e) = α_abstraction (to_naive_below n (omega arith) g k e)
  to_naive_below (suc n) h g k (≈-abstraction_2 {a = a} {b = b} {s = s} {t = t} m e f) =
      let c = above s + above t in
      let hs = above_absent c s g (omega arith) in
      let ht = above_absent c t k (omega arith) in
      let body = equal_bodies a b c s t (absent_fresh c s g hs) (absent_fresh c t k ht) (≈-abstraction_2 m e f) in
      α_transitive (naive_swapped a c s g hs)
      (α_transitive (α_abstraction (to_naive_below n (rw size_permute (omega arith)) (rw ground_permute g) (rw ground_permute k) body))
      (α_symmetric (naive_swapped b c t k ht)))
  to_naive_below (suc n) h g k ≈-atom = α_reflexive
  to_naive_below (suc n) h g k (≈-suspension e) = absurd g

  pub to_naive : (s t : Tree) → GroundTree s → GroundTree t → ∇ ⊢ s ≈ t → s =α t
  to_naive s t g k e = to_naive_below (suc (size s)) (omega arith) g k e

  -- Equality: 2.16, first sentence.
  pub adequate_equality : (s t : Tree) → GroundTree s → GroundTree t → (s =α t) ↔ (∇ ⊢ s ≈ t)
  adequate_equality s t g k = (from_naive g, to_naive s t g k)
