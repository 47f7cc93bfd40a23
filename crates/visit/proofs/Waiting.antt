-- The nodes that wait, as bits: one node more, none at all, and going through the words and through the bits of a word.
use Prim.Native.Nat.{ℕ, ◌+◌, ◌*◌, ◌/◌, ◌%◌, ◌^◌, ◌<◌}
use native.Mathlib.Omega.{arith}
use mathlib.Core.Path.{◌≡◌, sym, ◌∙◌, ap}
use mathlib.Core.Logic.{◌≢◌, ◌⊎◌, inl, inr, ⊎_elim}
use mathlib.Core.Bool.{true≢false}
use mathlib.Core.List.{List}
use lib.ListN.{length, get_or, replicate, length-replicate, get_or-replicate, get_or-eq_default}
use lib.Seq.{get_or-set_same, get_or-set_other}
use lib.Bits.{bit_or, or_add_and, and_le_l, and_le_r}
use Rattle.sets.specs.Bits.{member, inserted, removed, lowest}
use Rattle.sets.proofs.Bits.{member_empty, member_inserted_same, member_inserted_other, member_removed_same, member_removed_other, lowest_lt, lowest_member}
use Rattle.names.proofs.Equal.{by_eq, by_lt}
use Rattle.problem.specs.Problem.{Node}
use Rattle.visit.specs.Parts.{InWord, Late, with_late, SuspendedAt, LateGrown}

-- ---- one node more

module _ (late : List ℕ) (n : ℕ) (h : n / 64 < length late) where
  pub late_same : Late (with_late late n) n
  unfolding with_late
  late_same =
      ap (λ (w : ℕ). member w (n % 64)) (get_or-set_same late (n / 64) (inserted 64 (get_or late (n / 64) 0) (n % 64)) 0 h)
      ∙ member_inserted_same 64 (get_or late (n / 64) 0) (n % 64) (omega arith)

  late_other : (m : ℕ) → m ≢ n → member (get_or (with_late late n) (m / 64) 0) (m % 64) ≡ member (get_or late (m / 64) 0) (m % 64)
  unfolding with_late
  late_other m d =
      let more = inserted 64 (get_or late (n / 64) 0) (n % 64) in
      by_eq (m / 64) (n / 64)
      (λ q.
      rw q (ap (λ (w : ℕ). member w (m % 64)) (get_or-set_same late (n / 64) more 0 h)
      ∙ member_inserted_other 64 (get_or late (n / 64) 0) (n % 64) (m % 64) (λ r. d (omega arith))))
      (λ q. ap (λ (w : ℕ). member w (m % 64)) (get_or-set_other late (n / 64) (m / 64) more 0 q))

  pub late_more : {nodes : List Node} → SuspendedAt nodes n → LateGrown nodes late (with_late late n)
  late_more suspended = record {
    kept = λ m k. by_eq m n (λ q. rw q late_same) (λ d. late_other m d ∙ k);
    new = λ m k. by_eq m n (λ q. inr (rw q suspended)) (λ d. inl (sym (late_other m d) ∙ k));
  }

module _ {nodes : List Node} where
  pub late_none : {late : List ℕ} → LateGrown nodes late late
  late_none = record { kept = λ n k. k; new = λ n k. inl k }

  pub late_further : {late late₁ late₂ : List ℕ} → LateGrown nodes late late₁ → LateGrown nodes late₁ late₂ → LateGrown nodes late late₂
  late_further g h = record {
    kept = λ n k. h.kept n (g.kept n k);
    new = λ n k. ⊎_elim (λ q. g.new n q) (λ q. inr q) (h.new n k);
  }

-- ---- no node

pub none_in_empty : (n : ℕ) (late : List ℕ) → get_or late (n / 64) 0 ≡ 0 → Late late n → ⊥
none_in_empty n late e k = true≢false (sym k ∙ ap (λ (w : ℕ). member w (n % 64)) e ∙ member_empty (n % 64))

-- Nowhere is one among empty words.
pub none_in_zeros : (k n : ℕ) → Late (replicate k 0) n → ⊥
none_in_zeros k n h =
    none_in_empty n (replicate k 0)
    (by_lt (n / 64) k (λ l. get_or-replicate k (n / 64) 0 0 l) (λ l. get_or-eq_default (replicate k 0) 0 (rw length-replicate l))) h

-- A node that waits is in one of the words.
pub late_inside : (late : List ℕ) (n : ℕ) → Late late n → n / 64 < length late
late_inside late n k = by_lt (n / 64) (length late) (λ h. h) (λ h. absurd (none_in_empty n late (get_or-eq_default late 0 h) k))

-- Where words joined are nothing, each of them is.
pub joined_none : (v w : ℕ) → bit_or v w ≡ 0 → (v ≡ 0) × (w ≡ 0)
joined_none v w e = (omega (arith, or_add_and v w, and_le_r v w), omega (arith, or_add_and v w, and_le_l v w))

-- ---- the bits of a word, the lowest first

module _ (i word : ℕ) (some : 0 < word) (small : word < 2 ^ 64) where
  abbrev first : ℕ
  first = i * 64 + lowest 64 word

  pub first_in : InWord i word first
  first_in =
      let h = lowest_lt 64 word some small in
      let r : first % 64 ≡ lowest 64 word = omega arith in
      (omega arith, rw r (lowest_member 64 word some small))

  pub first_or_rest : (n : ℕ) → InWord i word n → (n ≡ first) ⊎ InWord i (removed word (lowest 64 word)) n
  first_or_rest n (q, k) =
      by_eq (n % 64) (lowest 64 word)
      (λ r. inl (omega arith))
      (λ d. inr (q, member_removed_other word (lowest 64 word) (n % 64) d ∙ k))

  pub rest_in : (n : ℕ) → InWord i (removed word (lowest 64 word)) n → InWord i word n
  rest_in n (q, k) =
      by_eq (n % 64) (lowest 64 word)
      (λ r. absurd (true≢false (sym k ∙ ap (member (removed word (lowest 64 word))) r ∙ member_removed_same word (lowest 64 word))))
      (λ d. (q, sym (member_removed_other word (lowest 64 word) (n % 64) d) ∙ k))

pub none_in_word : (i n : ℕ) → InWord i 0 n → ⊥
none_in_word i n (q, k) = true≢false (sym k ∙ member_empty (n % 64))

-- ---- the words one after another

-- A node that waits in one of the first i words.
abbrev pub LateBelow : List ℕ → ℕ → ℕ → Type 0
LateBelow late i n = (n / 64 < i) × Late late n

module _ (late : List ℕ) (i n : ℕ) where
  pub word_late : InWord i (get_or late i 0) n → Late late n
  word_late (q, k) = ap (λ (j : ℕ). member (get_or late j 0) (n % 64)) q ∙ k

  pub below_more : LateBelow late i n → LateBelow late (i + 1) n
  below_more (h, k) = (omega arith, k)

  pub word_below : InWord i (get_or late i 0) n → LateBelow late (i + 1) n
  word_below k = (omega (arith, k.0), word_late k)

  pub below_or_word : LateBelow late (i + 1) n → LateBelow late i n ⊎ InWord i (get_or late i 0) n
  below_or_word (h, k) =
      by_eq (n / 64) i (λ q. inr (q, ap (λ (j : ℕ). member (get_or late j 0) (n % 64)) (sym q) ∙ k)) (λ d. inl (omega arith, k))
