-- A list of distinct numbers below n has at most n of them.
use Prim.Native.Nat.{ℕ, zero, suc, ◌≤◌, ◌<◌}
use native.Mathlib.Omega.{arith}
use mathlib.Core.Path.{◌≡◌, refl, sym, ◌∙◌}
use mathlib.Core.Logic.{◌≢◌}
use mathlib.Core.List.{List, [], ◌∷◌, Memᴰ}
use lib.ListN.{length}
use borrow.Author.Tests.{eq-eqb, ne_eqb}
use Rattle.names.proofs.Equal.{by_eq}
use Rattle.names.proofs.Without.{without, member_without}

abbrev pub Distinct : List ℕ → Type 0
Distinct [] = Unit {0}
Distinct (i ∷ l) = ((k : ℕ) → Memᴰ k l → i ≢ k) × Distinct l

distinct_without : (x : ℕ) (l : List ℕ) → Distinct l → Distinct (without x l)
distinct_without x [] d = tt
distinct_without x (i ∷ l) d =
    by_eq i x (λ p. rw (eq-eqb i x p) (distinct_without x l d.1)) λ n.
    rw (ne_eqb i x n) (λ k m. d.0 k (member_without x l k m).0, distinct_without x l d.1)

without_absent : (x : ℕ) (l : List ℕ) → ((k : ℕ) → Memᴰ k l → x ≢ k) → without x l ≡ l
without_absent x [] h = refl
without_absent x (i ∷ l) h = rw (ne_eqb i x (λ p. h i (Memᴰ.head refl) (sym p)), without_absent x l (λ k m. h k (Memᴰ.tail m)))

length_without : (x : ℕ) (l : List ℕ) → Distinct l → length l ≤ suc (length (without x l))
length_without x [] d = omega arith
length_without x (i ∷ l) d =
    by_eq i x (λ p. rw (eq-eqb i x p, without_absent x l (λ k m q. d.0 k m (p ∙ q))) (omega arith)) λ n.
    rw (ne_eqb i x n) (omega (arith, length_without x l d.1))

pub distinct_few : (n : ℕ) (l : List ℕ) → Distinct l → ((k : ℕ) → Memᴰ k l → k < n) → length l ≤ n
distinct_few zero [] d h = omega arith
distinct_few zero (i ∷ l) d h = absurd (omega (arith, h i (Memᴰ.head refl)))
distinct_few (suc n) [] d h = omega arith
distinct_few (suc n) (i ∷ l) d h =
    omega (
      arith,
      length_without n (i ∷ l) d,
      distinct_few n (without n (i ∷ l)) (distinct_without n (i ∷ l) d) (λ k m. let (j, q) = member_without n (i ∷ l) k m in let b = h k j in omega arith),
    )
