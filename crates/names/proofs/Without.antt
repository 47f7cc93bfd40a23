-- A list of numbers without one of them.
use Prim.Native.Nat.{ℕ, ◌≤◌, ◌<◌}
use native.Mathlib.Omega.{arith}
use mathlib.Core.Path.{◌≡◌, sym, ◌∙◌}
use mathlib.Core.Logic.{◌≢◌}
use mathlib.Core.Bool.{cond}
use mathlib.Core.List.{List, [], ◌∷◌, Memᴰ}
use lib.ListN.{length}
use lib.Dec.{eqb}
use borrow.Author.Tests.{eq-eqb, ne_eqb}
use Rattle.names.proofs.Equal.{by_eq}

abbrev pub without : ℕ → List ℕ → List ℕ
without x [] = []
without x (i ∷ l) = cond (eqb i x) (without x l) (i ∷ without x l)

pub member_without : (x : ℕ) (l : List ℕ) (k : ℕ) → Memᴰ k (without x l) → Memᴰ k l × (k ≢ x)
member_without x [] k m = absurd (elim m [ ])
member_without x (i ∷ l) k m =
    by_eq i x (λ p. let h = member_without x l k (rw (eq-eqb i x p) at m) in (Memᴰ.tail h.0, h.1))
    (λ n. split n (rw (ne_eqb i x n) at m) (λ j. member_without x l k j))
  where
    split : i ≢ x → Memᴰ k (i ∷ without x l) → (Memᴰ k (without x l) → Memᴰ k l × (k ≢ x)) → Memᴰ k (i ∷ l) × (k ≢ x)
    split n (Memᴰ.head e) later = (Memᴰ.head e, λ p. n (sym e ∙ p))
    split n (Memᴰ.tail j) later = (Memᴰ.tail (later j).0, (later j).1)

pub without_member : {x k : ℕ} {l : List ℕ} → k ≢ x → Memᴰ k l → Memᴰ k (without x l)
without_member {x} n (Memᴰ.head {x = i} p) = rw (ne_eqb i x (λ q. n (p ∙ q))) (Memᴰ.head p)
without_member {x} n (Memᴰ.tail {x = i} m) =
    by_eq i x (λ q. rw (eq-eqb i x q) (without_member n m)) (λ o. rw (ne_eqb i x o) (Memᴰ.tail (without_member n m)))

length_without : (x : ℕ) (l : List ℕ) → length (without x l) ≤ length l
length_without x [] = omega arith
length_without x (i ∷ l) =
    by_eq i x (λ q. rw (eq-eqb i x q) (omega (arith, length_without x l))) (λ n. rw (ne_eqb i x n) (omega (arith, length_without x l)))

pub shorter_without : {x : ℕ} {l : List ℕ} → Memᴰ x l → length (without x l) < length l
shorter_without {x} (Memᴰ.head {x = i} {xs = l} p) = rw (eq-eqb i x (sym p)) (omega (arith, length_without x l))
shorter_without {x} (Memᴰ.tail {x = i} {xs = l} m) =
    by_eq i x (λ q. rw (eq-eqb i x q) (omega (arith, length_without x l))) (λ n. rw (ne_eqb i x n) (omega (arith, shorter_without m)))
