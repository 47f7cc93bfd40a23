-- The laws of lists of swaps, for any number of atoms.
use Prim.Native.Nat.{ℕ, ◌<◌, ◌≤◌}
use native.Mathlib.Omega.{arith}
use mathlib.Core.Path.{◌≡◌, refl, sym, ◌∙◌, ap}
use mathlib.Core.Logic.{◌≢◌, ◌↔◌, ◌⊎◌, inl, inr}
use mathlib.Core.List.Memᴰ
use mathlib.Core.List.{[], ◌∷◌, ◌++◌, append_assoc, append-nil, Memᴰ}
use borrow.Author.Tests.{eq-eqb, ne_eqb}
use Rattle.names.proofs.Equal.{by_eq}
use Rattle.permutation.specs.Swaps.{Swaps, swapped, act, inverse, Disagree, atoms, Within}

pub swapped_left : (a b : ℕ) → swapped a b a ≡ b
unfolding swapped
swapped_left a b = rw (eq-eqb a a refl)

pub swapped_other : (a b c : ℕ) → c ≢ a → c ≢ b → swapped a b c ≡ c
unfolding swapped
swapped_other a b c n m = rw (ne_eqb c a n, ne_eqb c b m)

pub swapped_right : (a b : ℕ) → swapped a b b ≡ a
unfolding swapped
swapped_right a b = by_eq b a (λ p. rw (eq-eqb b a p) p) (λ n. rw (ne_eqb b a n, eq-eqb b b refl))

pub swapped_twice : (a b c : ℕ) → swapped a b (swapped a b c) ≡ c
swapped_twice a b c =
    by_eq c a (λ p. cc (swapped_left a b, swapped_right a b)) λ n.
    by_eq c b (λ p. cc (swapped_left a b, swapped_right a b)) λ m.
    cc (swapped_other a b c n m)

pub swapped_symmetric : (a b c : ℕ) → swapped a b c ≡ swapped b a c
swapped_symmetric a b c =
    by_eq c a (λ p. cc (swapped_left a b, swapped_right b a)) λ n.
    by_eq c b (λ p. cc (swapped_right a b, swapped_left b a)) λ m.
    cc (swapped_other a b c n m, swapped_other b a c m n)

-- "A swap of an atom with itself is allowed and does nothing."
pub swapped_itself : (a c : ℕ) → swapped a a c ≡ c
swapped_itself a c = by_eq c a (λ p. cc (swapped_left a a)) (λ n. swapped_other a a c n n)

-- Appending composes: the right list acts first.
pub act_append : (π ρ : Swaps) (c : ℕ) → act (π ++ ρ) c ≡ act π (act ρ c)
act_append [] ρ c = refl
act_append (s ∷ π) ρ c = ap (swapped s.0 s.1) (act_append π ρ c)

pub inverse_act : (π : Swaps) (c : ℕ) → act (inverse π) (act π c) ≡ c
inverse_act [] c = refl
inverse_act (s ∷ π) c = rw (act_append, swapped_twice, inverse_act π c)

pub act_inverse : (π : Swaps) (c : ℕ) → act π (act (inverse π) c) ≡ c
act_inverse [] c = refl
act_inverse (s ∷ π) c = rw (act_append, act_inverse π, swapped_twice)

pub act_injective : (π : Swaps) {a b : ℕ} → act π a ≡ act π b → a ≡ b
act_injective π {a} {b} p = cc (inverse_act π a, inverse_act π b)

pub act_distinct : (π : Swaps) {a b : ℕ} → a ≢ b → act π a ≢ act π b
act_distinct π n p = n (act_injective π p)

pub inverse_append : (π ρ : Swaps) → inverse (π ++ ρ) ≡ inverse ρ ++ inverse π
inverse_append [] ρ = sym (append-nil (inverse ρ))
inverse_append (s ∷ π) ρ = rw (inverse_append π ρ) (append_assoc (inverse ρ) (inverse π) (s ∷ []))

pub inverse_inverse : (π : Swaps) → inverse (inverse π) ≡ π
inverse_inverse [] = refl
inverse_inverse (s ∷ π) = rw (inverse_append (inverse π) (s ∷ []), inverse_inverse π)

-- A permutation after the swap of a and b is the swap of their images after the permutation.
pub swapped_conjugate : (π : Swaps) (a b c : ℕ) → act π (swapped a b c) ≡ swapped (act π a) (act π b) (act π c)
swapped_conjugate π a b c =
    by_eq c a (λ p. cc (swapped_left a b, swapped_left (act π a) (act π b))) λ n.
    by_eq c b (λ p. cc (swapped_right a b, swapped_right (act π a) (act π b))) λ m.
    cc (swapped_other a b c n m, swapped_other (act π a) (act π b) (act π c) (act_distinct π n) (act_distinct π m))

-- Only atoms that a list names move, so a disagreement set is finite.
pub moved : (π : Swaps) (a : ℕ) → act π a ≢ a → Memᴰ a (atoms π)
moved [] a n = absurd (n refl)
moved (s ∷ π) a n =
    by_eq a s.0 Memᴰ.head λ x.
    by_eq a s.1 (λ p. Memᴰ.tail (Memᴰ.head p)) λ y.
    by_eq (act π a) a (λ p. absurd (n (cc (swapped_other s.0 s.1 a x y)))) (λ m. Memᴰ.tail (Memᴰ.tail (moved π a m)))

pub disagree_among : (π ρ : Swaps) (a : ℕ) → Disagree π ρ a → Memᴰ a (atoms π ++ atoms ρ)
disagree_among π ρ a n = by_eq (act π a) a (λ p. Memᴰ.append_right (atoms π) (moved ρ a (λ q. n (p ∙ sym q)))) (λ m. Memᴰ.append_left (atoms ρ) (moved π a m))

pub swapped_within : {A : ℕ} (a b c : ℕ) → a < A → b < A → c < A → swapped a b c < A
swapped_within a b c h k l =
    by_eq c a (λ p. rw (p, swapped_left a b) k) λ n.
    by_eq c b (λ p. rw (p, swapped_right a b) h) λ m.
    rw (swapped_other a b c n m) l

-- Swaps of atoms below A keep the atoms below A among themselves.
pub within : (A : ℕ) (π : Swaps) (a : ℕ) → Within A π → a < A → act π a < A
within A [] a w h = h
within A (s ∷ π) a w h = swapped_within s.0 s.1 (act π a) w.0.0 w.0.1 (within A π a w.1 h)

-- .. and no other atom moves.
pub outside : (A : ℕ) (π : Swaps) (a : ℕ) → Within A π → A ≤ a → act π a ≡ a
outside A [] a w h = refl
outside A (s ∷ π) a w h =
    let (l, m) = w.0 in
    rw (outside A π a w.1 h) (swapped_other s.0 s.1 a (λ p. omega arith) (λ p. omega arith))

pub within_more : (A B : ℕ) (π : Swaps) → A ≤ B → Within A π → Within B π
within_more A B [] h w = tt
within_more A B (s ∷ π) h w = let (l, m) = w.0 in ((omega arith, omega arith), within_more A B π h w.1)

pub within_append : (A : ℕ) (π ρ : Swaps) → Within A π → Within A ρ → Within A (π ++ ρ)
within_append A [] ρ v w = w
within_append A (s ∷ π) ρ v w = (v.0, within_append A π ρ v.1 w)

pub within_inverse : (A : ℕ) (π : Swaps) → Within A π → Within A (inverse π)
within_inverse A [] w = tt
within_inverse A (s ∷ π) w = within_append A (inverse π) (s ∷ []) (within_inverse A π w.1) (w.0, tt)

-- "(a c)(a b) and (b c) disagree on exactly a and c": of any three different atoms.
pub disagree_example : (a b c : ℕ) → a ≢ b → a ≢ c → b ≢ c → (d : ℕ) → Disagree ((a, c) ∷ (a, b) ∷ []) ((b, c) ∷ []) d ↔ ((d ≡ a) ⊎ (d ≡ c))
disagree_example a b c ab ac bc d = (only, both)
  where
    only : Disagree ((a, c) ∷ (a, b) ∷ []) ((b, c) ∷ []) d → (d ≡ a) ⊎ (d ≡ c)
    only n =
        by_eq d a inl λ x.
        by_eq d c inr λ y.
        absurd (n (by_eq d b (λ p. cc (swapped_right a b, swapped_left a c, swapped_left b c)) λ z.
        cc (swapped_other a b d x z, swapped_other a c d x y, swapped_other b c d z y)))

    both : (d ≡ a) ⊎ (d ≡ c) → Disagree ((a, c) ∷ (a, b) ∷ []) ((b, c) ∷ []) d
    both (inl p) e = ab (sym (cc (swapped_left a b, swapped_other a c b (λ q. ab (sym q)) bc, swapped_other b c a ab ac)))
    both (inr p) e = ab (cc (swapped_other a b c (λ q. ac (sym q)) (λ q. bc (sym q)), swapped_right a c, swapped_right b c))
