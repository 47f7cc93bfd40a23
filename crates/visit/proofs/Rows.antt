-- Sets in the rows of a column: one row with more atoms.
use Prim.Native.Nat.{ℕ, ◌<◌}
use mathlib.Core.Path.{◌≡◌, sym, ◌∙◌, ap}
use mathlib.Core.Logic.{◌≢◌, ◌⊎◌, inl, inr, ⊎_elim}
use mathlib.Core.Bool.{true}
use mathlib.Core.List.{List}
use lib.ListN.{length, get_or}
use lib.Seq.{get_or-set_same, get_or-set_other}
use Rattle.sets.specs.Bits.{member, union}
use Rattle.sets.proofs.Bits.{member_union_left, member_union_right, member_union_cases}
use Rattle.names.proofs.Equal.{by_eq}
use Rattle.visit.specs.Visited.{added}

module _ (t : List ℕ) (i more : ℕ) where
  pub row_same : i < length t → get_or (added t i more) i 0 ≡ union (get_or t i 0) more
  unfolding added
  row_same h = get_or-set_same t i (union (get_or t i 0) more) 0 h

  pub row_other : (j : ℕ) → j ≢ i → get_or (added t i more) j 0 ≡ get_or t j 0
  unfolding added
  row_other j d = get_or-set_other t i j (union (get_or t i 0) more) 0 d

  -- What is in the row now is what was there and what came.
  same_member : (h : i < length t) (a : ℕ) → member (get_or (added t i more) i 0) a ≡ member (union (get_or t i 0) more) a
  same_member h a = ap (λ (w : ℕ). member w a) (row_same h)

  other_member : (j : ℕ) → j ≢ i → (a : ℕ) → member (get_or (added t i more) j 0) a ≡ member (get_or t j 0) a
  other_member j d a = ap (λ (w : ℕ). member w a) (row_other j d)

  pub row_kept : (j a : ℕ) → i < length t → member (get_or t j 0) a ≡ true → member (get_or (added t i more) j 0) a ≡ true
  row_kept j a h e =
      by_eq j i
      (λ q. rw q (same_member h a ∙ member_union_left (get_or t i 0) more a (rw (← q) e)))
      (λ d. other_member j d a ∙ e)

  pub row_new : (a : ℕ) → i < length t → member more a ≡ true → member (get_or (added t i more) i 0) a ≡ true
  row_new a h e = same_member h a ∙ member_union_right (get_or t i 0) more a e

  pub row_cases : (j a : ℕ) → i < length t → member (get_or (added t i more) j 0) a ≡ true
      → (member (get_or t j 0) a ≡ true) ⊎ ((j ≡ i) × (member more a ≡ true))
  row_cases j a h e =
      by_eq j i
      (λ q.
      ⊎_elim (λ k. inl (rw q k)) (λ k. inr (q, k))
      (member_union_cases (get_or t i 0) more a (sym (same_member h a) ∙ (rw q at e))))
      (λ d. inl (sym (other_member j d a) ∙ e))
