-- 003's lemmas 2.7 to 2.14 about figure 2's two relations, for any number of atoms and any environment. Where 003's order of proof differs
-- from the one here: the disagreement law is shown first under an equality, so that transitivity needs no induction on size.
use Prim.Native.Nat.{ℕ, suc}
use native.Mathlib.Omega.{arith}
use mathlib.Core.Path.{◌≡◌, refl, sym, ◌∙◌, ap}
use mathlib.Core.Logic.{◌≢◌, ◌↔◌, ◌⊎◌, inl, inr}
use mathlib.Core.List.{[], ◌∷◌, ◌++◌}
use Rattle.permutation.specs.Swaps.{Swaps, swapped, act, inverse, Disagree, Alike}
use Rattle.names.proofs.Equal.{by_eq}
use Rattle.permutation.proofs.Swaps.{act_append, inverse_act, act_inverse, act_injective, act_distinct, inverse_append, swapped_left, swapped_right}
use Rattle.permutation.proofs.Swaps.{swapped_other, swapped_twice, swapped_symmetric, swapped_conjugate}
use Rattle.nominal.specs.Tree.{Tree, unit, atom, abstraction, pair, application, suspension, permute, size, Occurs, Substitution, substitute}
use Rattle.nominal.specs.Figure2.{Environment, ◌⊢◌#◌, #-unit, #-pair, #-function_symbol, #-abstraction_1, #-abstraction_2, #-atom, #-suspension, ◌⊢◌≈◌}
use Rattle.nominal.specs.Figure2.{≈-unit, ≈-pair, ≈-function_symbol, ≈-abstraction_1, ≈-abstraction_2, ≈-atom, ≈-suspension}
use Rattle.nominal.proofs.Tree.{permute_nil, permute_append, size_permute, size_substitute, occurs_permute, substitute_permute}
use Rattle.nominal.proofs.Figure2.{fresh_atom, fresh_abstraction, fresh_pair, fresh_application, fresh_suspension, from_atom, from_abstraction}
use Rattle.nominal.proofs.Figure2.{from_pair, from_application, from_suspension}

-- More facts derive more.
module _ {∇ Δ : Environment} (more : (a X : ℕ) → ∇ a X → Δ a X) where
  pub fresh_weaken : {a : ℕ} {t : Tree} → ∇ ⊢ a # t → Δ ⊢ a # t
  fresh_weaken #-unit = #-unit
  fresh_weaken (#-pair h k) = #-pair (fresh_weaken h) (fresh_weaken k)
  fresh_weaken (#-function_symbol h) = #-function_symbol (fresh_weaken h)
  fresh_weaken #-abstraction_1 = #-abstraction_1
  fresh_weaken (#-abstraction_2 n h) = #-abstraction_2 n (fresh_weaken h)
  fresh_weaken (#-atom n) = #-atom n
  fresh_weaken (#-suspension h) = #-suspension (more _ _ h)

  pub equal_weaken : {s t : Tree} → ∇ ⊢ s ≈ t → Δ ⊢ s ≈ t
  equal_weaken ≈-unit = ≈-unit
  equal_weaken (≈-pair e k) = ≈-pair (equal_weaken e) (equal_weaken k)
  equal_weaken (≈-function_symbol e) = ≈-function_symbol (equal_weaken e)
  equal_weaken (≈-abstraction_1 e) = ≈-abstraction_1 (equal_weaken e)
  equal_weaken (≈-abstraction_2 n e h) = ≈-abstraction_2 n (equal_weaken e) (fresh_weaken h)
  equal_weaken ≈-atom = ≈-atom
  equal_weaken (≈-suspension k) = ≈-suspension (λ a n. more _ _ (k a n))

module _ {∇ : Environment} where
  -- 2.7 (3): freshness is equivariant.
  pub fresh_permute : (π : Swaps) {a : ℕ} {t : Tree} → ∇ ⊢ a # t → ∇ ⊢ act π a # permute π t
  fresh_permute π #-unit = #-unit
  fresh_permute π (#-pair h k) = #-pair (fresh_permute π h) (fresh_permute π k)
  fresh_permute π (#-function_symbol h) = #-function_symbol (fresh_permute π h)
  fresh_permute π #-abstraction_1 = #-abstraction_1
  fresh_permute π (#-abstraction_2 n h) = #-abstraction_2 (act_distinct π n) (fresh_permute π h)
  fresh_permute π (#-atom n) = #-atom (act_distinct π n)
  fresh_permute π {a} (#-suspension {π = ρ} {X = X} h) = #-suspension {a = act π a} {π = π ++ ρ} {X = X} (rw (inverse_append, act_append, inverse_act) h)

  -- And back.
  pub fresh_unpermute : (π : Swaps) (a : ℕ) (t : Tree) → ∇ ⊢ act π a # permute π t → ∇ ⊢ a # t
  fresh_unpermute π a unit h = #-unit
  fresh_unpermute π a (atom b) h = #-atom (λ p. fresh_atom.0 h (ap (act π) p))
  fresh_unpermute π a (abstraction b t) h = fresh_abstraction.1 (λ n. fresh_unpermute π a t (fresh_abstraction.0 h (act_distinct π n)))
  fresh_unpermute π a (pair s t) (#-pair h k) = #-pair (fresh_unpermute π a s h) (fresh_unpermute π a t k)
  fresh_unpermute π a (application f t) (#-function_symbol h) = #-function_symbol (fresh_unpermute π a t h)
  fresh_unpermute π a (suspension ρ X) h = #-suspension (rw (inverse_append, act_append, inverse_act) at (fresh_suspension.0 h))

  -- a # π·t says that the atom c which π sends to a is fresh for t.
  pub fresh_from : (π : Swaps) {a : ℕ} (c : ℕ) (t : Tree) → act π c ≡ a → ∇ ⊢ a # permute π t → ∇ ⊢ c # t
  fresh_from π c t p h = fresh_unpermute π c t (rw p h)

  pub fresh_to : (π : Swaps) {a c : ℕ} {t : Tree} → act π c ≡ a → ∇ ⊢ c # t → ∇ ⊢ a # permute π t
  fresh_to π p h = rw p at (fresh_permute π h)

  -- 2.7 (1), both ways.
  pub fresh_inverse : (π : Swaps) (a : ℕ) (t : Tree) → (∇ ⊢ a # permute π t) ↔ (∇ ⊢ act (inverse π) a # t)
  fresh_inverse π a t = (fresh_from π (act (inverse π) a) t (act_inverse π a), fresh_to π (act_inverse π a))

  -- 2.7 (2), both ways.
  pub fresh_permuted_atom : (π : Swaps) (a : ℕ) (t : Tree) → (∇ ⊢ act π a # t) ↔ (∇ ⊢ a # permute (inverse π) t)
  fresh_permuted_atom π a t = (fresh_to (inverse π) (inverse_act π a), fresh_from (inverse π) (act π a) t (inverse_act π a))

  -- The abstraction case of the law below. φ stands for what the left side already has on the right: it sends b to a, and elsewhere agrees
  -- with π wherever that does not reach a.
  reopened : (t : Tree) (a b : ℕ) (π ρ φ : Swaps) {s : Tree} → ((ψ : Swaps) → ((c : ℕ) → Disagree φ ψ c → ∇ ⊢ c # t) → ∇ ⊢ s ≈ permute ψ t) → act φ b ≡ a
      → ((c : ℕ) → c ≢ b → act π c ≢ a → act φ c ≡ act π c) → ((c : ℕ) → Disagree π ρ c → c ≢ b → ∇ ⊢ c # t) → ((c : ℕ) → act π c ≡ a → c ≢ b → ∇ ⊢ c # t)
      → ∇ ⊢ abstraction a s ≈ abstraction (act ρ b) (permute ρ t)
  reopened t a b π ρ φ ih at_b off apart onto =
      by_eq a (act ρ b)
      (λ p. rw p (≈-abstraction_1 (ih ρ (agree ρ (sym p) (λ c n m. refl)))))
      (λ n. ≈-abstraction_2 n
      (rw (← permute_append ((a, act ρ b) ∷ []) ρ t)
      (ih ((a, act ρ b) ∷ ρ) (agree ((a, act ρ b) ∷ ρ) (swapped_right a (act ρ b)) (λ c m k. swapped_other a (act ρ b) (act ρ c) k (act_distinct ρ m)))))
      (fresh_to ρ (act_inverse ρ a) (away n)))
    where
      agree : (ψ : Swaps) → act ψ b ≡ a → ((c : ℕ) → c ≢ b → act ρ c ≢ a → act ψ c ≡ act ρ c) → (c : ℕ) → Disagree φ ψ c → ∇ ⊢ c # t
      agree ψ q k c d =
          by_eq c b (λ p. absurd (d (cc))) λ cb.
          by_eq (act π c) (act ρ c) (λ p. by_eq (act π c) a (λ u. onto c u cb) (λ u. absurd (d (cc (off c cb u, k c cb (λ v. u (p ∙ v))))))) (λ n. apart c n cb)

      away : a ≢ act ρ b → ∇ ⊢ act (inverse ρ) a # t
      away n =
          let m : act (inverse ρ) a ≢ b = λ p. n (cc (act_inverse ρ a)) in
          by_eq (act π (act (inverse ρ) a)) a (λ p. onto _ p m) (λ k. apart _ (λ p. k (p ∙ act_inverse ρ a)) m)

  -- 2.8 under an equality: on the right π may become ρ if every atom of their disagreement set is fresh.
  pub equal_disagreeing : (t : Tree) (π ρ : Swaps) {s : Tree} → ((c : ℕ) → Disagree π ρ c → ∇ ⊢ c # t) → ∇ ⊢ s ≈ permute π t → ∇ ⊢ s ≈ permute ρ t
  equal_disagreeing unit π ρ h e = e
  equal_disagreeing (atom b) π ρ h e = by_eq (act π b) (act ρ b) (λ p. rw p at e) (λ n. absurd (fresh_atom.0 (h b n) refl))
  equal_disagreeing (abstraction b t) π ρ h (≈-abstraction_1 {s = s} e) =
      reopened t (act π b) b π ρ π (λ ψ k. equal_disagreeing t π ψ k e) refl (λ c n m. refl) (λ c n. fresh_abstraction.0 (h c n))
      (λ c p n. absurd (n (act_injective π p)))
  equal_disagreeing (abstraction b t) π ρ h (≈-abstraction_2 {a = a} n e k) =
      reopened t a b π ρ ((a, act π b) ∷ π) (λ ψ j. equal_disagreeing t ((a, act π b) ∷ π) ψ j (rw (← permute_append ((a, act π b) ∷ []) π t) at e))
      (swapped_right a (act π b))
      (λ c m j. swapped_other a (act π b) (act π c) j (act_distinct π m)) (λ c n. fresh_abstraction.0 (h c n)) (λ c p m. fresh_from π c t p k)
  equal_disagreeing (pair t u) π ρ h (≈-pair e k) =
      ≈-pair (equal_disagreeing t π ρ (λ c n. (fresh_pair.0 (h c n)).0) e) (equal_disagreeing u π ρ (λ c n. (fresh_pair.0 (h c n)).1) k)
  equal_disagreeing (application f t) π ρ h (≈-function_symbol e) = ≈-function_symbol (equal_disagreeing t π ρ (λ c n. fresh_application.0 (h c n)) e)
  equal_disagreeing (suspension κ X) π ρ h (≈-suspension {π = φ} k) =
      ≈-suspension {π = φ} {ρ = ρ ++ κ} {X = X} λ a n. by_eq (act (π ++ κ) a) (act (ρ ++ κ) a) (λ p. k a (λ q. n (q ∙ p)))
      (λ m. rw inverse_act at (fresh_suspension.0 (h (act κ a) (λ p. m (cc (act_append π κ a, act_append ρ κ a))))))

  -- Lists that send every atom alike count as one.
  pub equal_alike : (t : Tree) (π ρ : Swaps) {s : Tree} → Alike π ρ → ∇ ⊢ s ≈ permute π t → ∇ ⊢ s ≈ permute ρ t
  equal_alike t π ρ h = equal_disagreeing t π ρ (λ c n. absurd (n (h c)))

  -- 2.9: equality carries freshness over.
  pub equal_fresh : {s t : Tree} {c : ℕ} → ∇ ⊢ s ≈ t → ∇ ⊢ c # s → ∇ ⊢ c # t
  equal_fresh ≈-unit h = #-unit
  equal_fresh (≈-pair e k) (#-pair h j) = #-pair (equal_fresh e h) (equal_fresh k j)
  equal_fresh (≈-function_symbol e) (#-function_symbol h) = #-function_symbol (equal_fresh e h)
  equal_fresh (≈-abstraction_1 e) h = fresh_abstraction.1 (λ n. equal_fresh e (fresh_abstraction.0 h n))
  equal_fresh {c = c} (≈-abstraction_2 {a = a} {b = b} {t = t} _ e k) h =
      fresh_abstraction.1 λ m. by_eq c a (λ p. rw p k) (λ n. fresh_from ((a, b) ∷ []) c t (swapped_other a b c n m) (equal_fresh e (fresh_abstraction.0 h n)))
  equal_fresh ≈-atom h = h
  equal_fresh {c = c} (≈-suspension {π = π} {ρ = ρ} {X = X} k) (#-suspension h) =
      #-suspension {a = c} {π = ρ} {X = X}
      (by_eq (act (inverse ρ) c) (act (inverse π) c) (λ p. rw p h)
      (λ n. k (act (inverse ρ) c) (λ q. n (cc (act_inverse ρ c, inverse_act π (act (inverse ρ) c))))))

  -- 2.11: equality is reflexive.
  pub equal_reflexive : (t : Tree) → ∇ ⊢ t ≈ t
  equal_reflexive unit = ≈-unit
  equal_reflexive (atom a) = ≈-atom
  equal_reflexive (abstraction a t) = ≈-abstraction_1 (equal_reflexive t)
  equal_reflexive (pair s t) = ≈-pair (equal_reflexive s) (equal_reflexive t)
  equal_reflexive (application f t) = ≈-function_symbol (equal_reflexive t)
  equal_reflexive (suspension π X) = ≈-suspension (λ a n. absurd (n refl))

  -- 2.8, the disagreement law.
  pub equal_where_fresh : (t : Tree) (π ρ : Swaps) → ((c : ℕ) → Disagree π ρ c → ∇ ⊢ c # t) → ∇ ⊢ permute π t ≈ permute ρ t
  equal_where_fresh t π ρ h = equal_disagreeing t π ρ h (equal_reflexive (permute π t))

  -- (9): equality is equivariant.
  pub equal_permute : (π : Swaps) {s t : Tree} → ∇ ⊢ s ≈ t → ∇ ⊢ permute π s ≈ permute π t
  equal_permute π ≈-unit = ≈-unit
  equal_permute π (≈-pair e k) = ≈-pair (equal_permute π e) (equal_permute π k)
  equal_permute π (≈-function_symbol e) = ≈-function_symbol (equal_permute π e)
  equal_permute π (≈-abstraction_1 e) = ≈-abstraction_1 (equal_permute π e)
  equal_permute π (≈-abstraction_2 {a = a} {b = b} {s = s} {t = t} n e k) =
      ≈-abstraction_2 {s = permute π s} {t = permute π t} (act_distinct π n)
      (rw (← permute_append ((act π a, act π b) ∷ []) π t)
      (equal_alike t (π ++ ((a, b) ∷ [])) ((act π a, act π b) ∷ π) (λ c. act_append π ((a, b) ∷ []) c ∙ swapped_conjugate π a b c)
      (rw permute_append (equal_permute π e))))
      (fresh_permute π k)
  equal_permute π ≈-atom = ≈-atom
  equal_permute π (≈-suspension {π = κ} {ρ = ρ} k) = ≈-suspension {π = π ++ κ} {ρ = π ++ ρ} (λ a n. k a (λ p. n (cc (act_append π κ a, act_append π ρ a))))

  -- Three abstractions in a row: (a b)(b c) and (a c) disagree at most at a and b, and both are fresh.
  chained : (a b c : ℕ) (u : Tree) {s : Tree} → a ≢ b → b ≢ c → ∇ ⊢ s ≈ permute ((a, b) ∷ (b, c) ∷ []) u → ∇ ⊢ a # permute ((b, c) ∷ []) u → ∇ ⊢ b # u
      → ∇ ⊢ abstraction a s ≈ abstraction c u
  chained a b c u {s} n m e h k =
      by_eq a c
      (λ p. rw p (≈-abstraction_1 (rw permute_nil at (equal_alike u ((a, b) ∷ (b, c) ∷ []) [] (λ x. rw (p, swapped_symmetric c b, swapped_twice)) e))))
      (λ p. ≈-abstraction_2 p (equal_disagreeing u ((a, b) ∷ (b, c) ∷ []) ((a, c) ∷ []) (away p) e) (a_fresh p))
    where
      a_fresh : a ≢ c → ∇ ⊢ a # u
      a_fresh p = fresh_from ((b, c) ∷ []) a u (swapped_other b c a n p) h

      away : a ≢ c → (x : ℕ) → swapped a b (swapped b c x) ≢ swapped a c x → ∇ ⊢ x # u
      away p x d =
          by_eq x a (λ q. rw q (a_fresh p)) λ xa.
          by_eq x b (λ q. rw q k) λ xb.
          by_eq x c (λ q. absurd (d (cc (swapped_right b c, swapped_right a b, swapped_right a c)))) λ xc.
          absurd (d (cc (swapped_other b c x xb xc, swapped_other a b x xa xb, swapped_other a c x xa xc)))

  -- 2.11: transitive, by recursion on the first derivation.
  pub equal_transitive : {s t u : Tree} → ∇ ⊢ s ≈ t → ∇ ⊢ t ≈ u → ∇ ⊢ s ≈ u
  equal_transitive ≈-unit k = k
  equal_transitive (≈-pair e f) (≈-pair k l) = ≈-pair (equal_transitive e k) (equal_transitive f l)
  equal_transitive (≈-function_symbol e) (≈-function_symbol k) = ≈-function_symbol (equal_transitive e k)
  equal_transitive (≈-abstraction_1 e) (≈-abstraction_1 k) = ≈-abstraction_1 (equal_transitive e k)
  equal_transitive (≈-abstraction_1 e) (≈-abstraction_2 n k h) = ≈-abstraction_2 n (equal_transitive e k) h
  equal_transitive (≈-abstraction_2 {a = a} {b = b} n e h) (≈-abstraction_1 k) =
      ≈-abstraction_2 n (equal_transitive e (equal_permute ((a, b) ∷ []) k)) (equal_fresh k h)
  equal_transitive (≈-abstraction_2 {a = a} {b = b} n e h) (≈-abstraction_2 {b = c} {t = u} m k l) =
      chained a b c u n m (rw (← permute_append ((a, b) ∷ []) ((b, c) ∷ []) u) at (equal_transitive e (equal_permute ((a, b) ∷ []) k))) (equal_fresh k h) l
  equal_transitive ≈-atom k = k
  equal_transitive (≈-suspension {π = π} {ρ = ρ} k) (≈-suspension {ρ = κ} l) =
      ≈-suspension (λ a n. by_eq (act π a) (act ρ a) (λ p. l a (λ q. n (p ∙ q))) (λ m. k a m))

  pub equal_alike_left : (t : Tree) (π ρ : Swaps) {u : Tree} → Alike π ρ → ∇ ⊢ permute π t ≈ u → ∇ ⊢ permute ρ t ≈ u
  equal_alike_left t π ρ h e = equal_transitive (equal_alike t ρ π (λ c. sym (h c)) (equal_reflexive (permute ρ t))) e

  -- 2.11: symmetric.
  pub equal_symmetric : {s t : Tree} → ∇ ⊢ s ≈ t → ∇ ⊢ t ≈ s
  equal_symmetric ≈-unit = ≈-unit
  equal_symmetric (≈-pair e k) = ≈-pair (equal_symmetric e) (equal_symmetric k)
  equal_symmetric (≈-function_symbol e) = ≈-function_symbol (equal_symmetric e)
  equal_symmetric (≈-abstraction_1 e) = ≈-abstraction_1 (equal_symmetric e)
  equal_symmetric (≈-abstraction_2 {a = a} {b = b} {s = s} {t = t} n e h) = turned (equal_symmetric e)
    where
      turned : ∇ ⊢ permute ((a, b) ∷ []) t ≈ s → ∇ ⊢ abstraction b t ≈ abstraction a s
      turned k =
          ≈-abstraction_2 (λ p. n (sym p))
          (equal_alike s ((a, b) ∷ []) ((b, a) ∷ []) (swapped_symmetric a b)
          (rw permute_nil at
          (equal_alike_left t ((a, b) ∷ (a, b) ∷ []) [] (swapped_twice a b)
          (rw (← permute_append ((a, b) ∷ []) ((a, b) ∷ []) t) at (equal_permute ((a, b) ∷ []) k)))))
          (equal_fresh k (fresh_to ((a, b) ∷ []) (swapped_left a b) h))
  equal_symmetric ≈-atom = ≈-atom
  equal_symmetric (≈-suspension k) = ≈-suspension (λ a n. k a (λ p. n (sym p)))

  -- 2.12 (1).
  pub equal_inverse : (π : Swaps) {s : Tree} (t : Tree) → (∇ ⊢ s ≈ permute (inverse π) (permute π t)) ↔ (∇ ⊢ s ≈ t)
  equal_inverse π {s} t = (away, there)
    where
      away : ∇ ⊢ s ≈ permute (inverse π) (permute π t) → ∇ ⊢ s ≈ t
      away e =
          rw permute_nil at (equal_alike t (inverse π ++ π) [] (λ c. act_append (inverse π) π c ∙ inverse_act π c) (rw (← permute_append (inverse π) π t) at e))

      there : ∇ ⊢ s ≈ t → ∇ ⊢ s ≈ permute (inverse π) (permute π t)
      there e =
          rw (← permute_append (inverse π) π t) (equal_alike t [] (inverse π ++ π) (λ c. cc (act_append (inverse π) π c, inverse_act π c)) (rw permute_nil e))

  -- 2.12 (2), read from right to left: a permutation crosses over as its inverse.
  pub equal_moved : (π : Swaps) (s t : Tree) → (∇ ⊢ permute π s ≈ t) ↔ (∇ ⊢ s ≈ permute (inverse π) t)
  equal_moved π s t = (
    λ e. equal_transitive ((equal_inverse π s).1 (equal_reflexive s)) (equal_permute (inverse π) e),
    λ e. equal_symmetric
        (there (equal_symmetric (equal_permute π e))),
  )
    where
      there : {u : Tree} → ∇ ⊢ permute π (permute (inverse π) t) ≈ u → ∇ ⊢ t ≈ u
      there k =
          rw permute_nil at
          (equal_alike_left t (π ++ inverse π) [] (λ c. act_append π (inverse π) c ∙ act_inverse π c) (rw (← permute_append π (inverse π) t) at k))

  -- (9), back.
  pub equal_unpermute : (π : Swaps) (s t : Tree) → ∇ ⊢ permute π s ≈ permute π t → ∇ ⊢ s ≈ t
  equal_unpermute π s t e = (equal_inverse π t).0 ((equal_moved π s (permute π t)).0 e)

  -- The abstraction case of the law below.
  closed : (t : Tree) (b c : ℕ) (π ρ : Swaps) → ((ψ : Swaps) → ∇ ⊢ permute π t ≈ permute ψ t → Disagree π ψ c → ∇ ⊢ c # t) → Disagree π ρ c → c ≢ b
      → ((act π b ≡ act ρ b) × (∇ ⊢ permute π t ≈ permute ρ t))
      ⊎ ((act π b ≢ act ρ b) × (∇ ⊢ permute π t ≈ permute ((act π b, act ρ b) ∷ []) (permute ρ t)) × (∇ ⊢ act π b # permute ρ t))
      → ∇ ⊢ c # t
  closed t b c π ρ ih n m (inl h) = ih ρ h.1 n
  closed t b c π ρ ih n m (inr h) =
      by_eq (act ρ c) (act π b) (λ p. fresh_from ρ c t p h.2) λ u.
      ih ((act π b, act ρ b) ∷ ρ) (rw (← permute_append ((act π b, act ρ b) ∷ []) ρ t) at h.1)
      (λ p. n (p ∙ swapped_other (act π b) (act ρ b) (act ρ c) u (act_distinct ρ m)))

  -- 2.12 (3), the disagreement law read backwards.
  pub fresh_where_equal : (t : Tree) (π ρ : Swaps) (c : ℕ) → ∇ ⊢ permute π t ≈ permute ρ t → Disagree π ρ c → ∇ ⊢ c # t
  fresh_where_equal unit π ρ c e n = #-unit
  fresh_where_equal (atom b) π ρ c e n = #-atom {a = c} {b = b} (λ p. n (cc (from_atom e)))
  fresh_where_equal (abstraction b t) π ρ c e n = fresh_abstraction.1 (λ m. closed t b c π ρ (λ ψ. fresh_where_equal t π ψ c) n m (from_abstraction e))
  fresh_where_equal (pair s t) π ρ c e n = #-pair (fresh_where_equal s π ρ c (from_pair e).0 n) (fresh_where_equal t π ρ c (from_pair e).1 n)
  fresh_where_equal (application f t) π ρ c e n = #-function_symbol (fresh_where_equal t π ρ c (from_application e).1 n)
  fresh_where_equal (suspension κ X) π ρ c e n =
      #-suspension
      ((from_suspension e).1 (act (inverse κ) c) (λ p. n (cc (act_append π κ (act (inverse κ) c), act_append ρ κ (act (inverse κ) c), act_inverse κ c))))

  -- 003, after definition 2.10: equal trees have one size.
  pub equal_size : {s t : Tree} → ∇ ⊢ s ≈ t → size s ≡ size t
  equal_size ≈-unit = refl
  equal_size (≈-pair e k) = rw (equal_size e, equal_size k)
  equal_size (≈-function_symbol e) = ap suc (equal_size e)
  equal_size (≈-abstraction_1 e) = ap suc (equal_size e)
  equal_size (≈-abstraction_2 {a = a} {b = b} {t = t} n e h) = ap suc (equal_size e ∙ size_permute ((a, b) ∷ []) t)
  equal_size ≈-atom = refl
  equal_size (≈-suspension k) = refl

  -- And the same variables.
  pub equal_occurs : (X : ℕ) {s t : Tree} → ∇ ⊢ s ≈ t → Occurs X s → Occurs X t
  equal_occurs X ≈-unit o = o
  equal_occurs X (≈-pair e k) (inl o) = inl (equal_occurs X e o)
  equal_occurs X (≈-pair e k) (inr o) = inr (equal_occurs X k o)
  equal_occurs X (≈-function_symbol e) o = equal_occurs X e o
  equal_occurs X (≈-abstraction_1 e) o = equal_occurs X e o
  equal_occurs X (≈-abstraction_2 n e h) o = rw occurs_permute at (equal_occurs X e o)
  equal_occurs X ≈-atom o = o
  equal_occurs X (≈-suspension k) o = o

  -- Substitutions that are equal on a tree's variables give equal trees.
  pub equal_substitutions : (σ τ : Substitution) (t : Tree) → ((X : ℕ) → Occurs X t → ∇ ⊢ σ X ≈ τ X) → ∇ ⊢ substitute σ t ≈ substitute τ t
  equal_substitutions σ τ unit h = ≈-unit
  equal_substitutions σ τ (atom a) h = ≈-atom
  equal_substitutions σ τ (abstraction a t) h = ≈-abstraction_1 (equal_substitutions σ τ t h)
  equal_substitutions σ τ (pair s t) h = ≈-pair (equal_substitutions σ τ s (λ X o. h X (inl o))) (equal_substitutions σ τ t (λ X o. h X (inr o)))
  equal_substitutions σ τ (application f t) h = ≈-function_symbol (equal_substitutions σ τ t h)
  equal_substitutions σ τ (suspension π X) h = equal_permute π (h X refl)

  -- The occurs check: no substitution makes a variable equal to a larger tree that holds it.
  pub no_circle : (σ : Substitution) (π : Swaps) (X : ℕ) (t : Tree) → Occurs X t → ((ρ : Swaps) → t ≢ suspension ρ X)
      → ∇ ⊢ substitute σ (suspension π X) ≈ substitute σ t → ⊥
  no_circle σ π X unit o n e = o
  no_circle σ π X (atom a) o n e = o
  no_circle σ π X (abstraction a t) o n e = omega (arith, size_permute π (σ X), equal_size e, size_substitute σ X t o)
  no_circle σ π X (pair s t) (inl o) n e = omega (arith, size_permute π (σ X), equal_size e, size_substitute σ X s o)
  no_circle σ π X (pair s t) (inr o) n e = omega (arith, size_permute π (σ X), equal_size e, size_substitute σ X t o)
  no_circle σ π X (application f t) o n e = omega (arith, size_permute π (σ X), equal_size e, size_substitute σ X t o)
  no_circle σ π X (suspension ρ Y) o n e = n ρ (ap (suspension ρ) (sym o))

-- 2.14: where Δ derives the facts of ∇ so substituted, it derives all that ∇ does, so substituted.
module _ {∇ Δ : Environment} (σ : Substitution) (facts : (a X : ℕ) → ∇ a X → Δ ⊢ a # σ X) where
  -- 2.14 (2).
  pub fresh_substitute : {a : ℕ} {t : Tree} → ∇ ⊢ a # t → Δ ⊢ a # substitute σ t
  fresh_substitute #-unit = #-unit
  fresh_substitute (#-pair h k) = #-pair (fresh_substitute h) (fresh_substitute k)
  fresh_substitute (#-function_symbol h) = #-function_symbol (fresh_substitute h)
  fresh_substitute #-abstraction_1 = #-abstraction_1
  fresh_substitute (#-abstraction_2 n h) = #-abstraction_2 n (fresh_substitute h)
  fresh_substitute (#-atom n) = #-atom n
  fresh_substitute {a} (#-suspension {π = π} h) = fresh_to π (act_inverse π a) (facts _ _ h)

  -- 2.14 (1).
  pub equal_substitute : {s t : Tree} → ∇ ⊢ s ≈ t → Δ ⊢ substitute σ s ≈ substitute σ t
  equal_substitute ≈-unit = ≈-unit
  equal_substitute (≈-pair e k) = ≈-pair (equal_substitute e) (equal_substitute k)
  equal_substitute (≈-function_symbol e) = ≈-function_symbol (equal_substitute e)
  equal_substitute (≈-abstraction_1 e) = ≈-abstraction_1 (equal_substitute e)
  equal_substitute (≈-abstraction_2 n e h) = ≈-abstraction_2 n (rw substitute_permute at (equal_substitute e)) (fresh_substitute h)
  equal_substitute ≈-atom = ≈-atom
  equal_substitute (≈-suspension {π = π} {ρ = ρ} {X = X} k) = equal_where_fresh (σ X) π ρ (λ c n. facts c X (k c n))
