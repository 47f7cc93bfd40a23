-- The laws of the sets that code moves through swaps.
use Prim.Native.Nat.{ℕ, ◌^◌, ◌≤◌, ◌<◌}
use native.Mathlib.Omega.{arith}
use mathlib.Core.Path.{◌≡◌, refl, sym, ◌∙◌, ap, subst}
use mathlib.Core.Logic.{◌≢◌}
use mathlib.Core.Bool.{Bool, true, false, true≢false}
use mathlib.Core.List.{List, [], ◌∷◌, ◌++◌}
use lib.ListN.{length, get_or}
use Rattle.sets.specs.Bits.{member, inserted, removed}
use Rattle.sets.proofs.Bits.{member_within, set_of_lt, member_set_of, set_of_unique}
use Rattle.sets.proofs.Bits.{inserted_lt, member_inserted_same, member_inserted_other, removed_le, member_removed_same, member_removed_other}
use Rattle.permutation.specs.Swaps.{Swaps, swapped, act, Within, swaps_in}
use Rattle.names.proofs.Equal.{by_eq}
use Rattle.permutation.proofs.Swaps.{swapped_left, swapped_right, swapped_other, within}
use Rattle.visit.specs.Visited.{sent_into}

-- ---- sets that were moved

module _ (k : ℕ) (f : ℕ → ℕ) (w : ℕ) where
  pub sent_lt : sent_into k f w < 2 ^ k
  unfolding sent_into
  sent_lt = set_of_lt (λ a. member w (f a)) k

  pub member_sent : (x : ℕ) → x < k → member (sent_into k f w) x ≡ member w (f x)
  unfolding sent_into
  member_sent x h = member_set_of (λ a. member w (f a)) k x h

  pub sent_unique : (r : ℕ) → r < 2 ^ k → ((x : ℕ) → x < k → member r x ≡ member w (f x)) → r ≡ sent_into k f w
  unfolding sent_into
  sent_unique r h e = set_of_unique (λ a. member w (f a)) k r h e

  -- A member of the moved set, and where it came from.
  pub sent_member : (x : ℕ) → member (sent_into k f w) x ≡ true → (x < k) × (member w (f x) ≡ true)
  sent_member x e =
      let h : x < k = member_within k (sent_into k f w) x sent_lt e in
      (h, sym (member_sent x h) ∙ e)

  pub member_is_sent : (x a : ℕ) → x < k → f x ≡ a → member w a ≡ true → member (sent_into k f w) x ≡ true
  member_is_sent x a h e m = member_sent x h ∙ ap (member w) e ∙ m

-- ---- one swap

exchanged : (w r a b : ℕ) → r < 2 ^ 32 → member r a ≡ member w b → member r b ≡ member w a
    → ((x : ℕ) → x ≢ a → x ≢ b → member r x ≡ member w x) → r ≡ sent_into 32 (swapped a b) w
exchanged w r a b h ea eb e =
    sent_unique 32 (swapped a b) w r h λ x l.
    by_eq x a (λ q. rw (q, swapped_left a b) ea) λ na.
    by_eq x b (λ q. rw (q, swapped_right a b) eb) λ nb.
    rw (swapped_other a b x na nb) (e x na nb)

pub exchanged_same : (w a b : ℕ) (t : Bool) → w < 2 ^ 32 → member w a ≡ t → member w b ≡ t → w ≡ sent_into 32 (swapped a b) w
exchanged_same w a b t h ea eb = exchanged w w a b h (ea ∙ sym eb) (eb ∙ sym ea) (λ x na nb. refl)

module _ (w a b : ℕ) (h : w < 2 ^ 32) (lb : b < 32) (ea : member w a ≡ true) (eb : member w b ≡ false) where
  -- The set with b in the place of a.
  abbrev moved : ℕ
  moved = inserted 32 (removed w a) b

  moved_lt : moved < 2 ^ 32
  moved_lt = inserted_lt 32 (removed w a) b (omega (arith, removed_le w a))

  differ : a ≢ b
  differ q = true≢false (sym ea ∙ ap (member w) q ∙ eb)

  at_a : member moved a ≡ member w b
  at_a = member_inserted_other 32 (removed w a) b a differ ∙ member_removed_same w a ∙ sym eb

  at_b : member moved b ≡ member w a
  at_b = member_inserted_same 32 (removed w a) b lb ∙ sym ea

  elsewhere : (x : ℕ) → x ≢ a → x ≢ b → member moved x ≡ member w x
  elsewhere x na nb = member_inserted_other 32 (removed w a) b x nb ∙ member_removed_other w a x na

  pub exchanged_left : moved ≡ sent_into 32 (swapped a b) w
  exchanged_left = exchanged w moved a b moved_lt at_a at_b elsewhere

  pub exchanged_right : moved ≡ sent_into 32 (swapped b a) w
  exchanged_right = exchanged w moved b a moved_lt at_b at_a (λ x nb na. elsewhere x na nb)

-- ---- a list of swaps, from left to right

-- Some bytes are left to read: what is left to do are the swaps in them.
pub record Passing (s : List ℕ) (w : ℕ) (left : List ℕ) (r : ℕ) : Type 0 where
  pub small : r < 2 ^ 32
  pub names : Within 32 (swaps_in left)
  pub same : (x : ℕ) → x < 32 → member w (act (swaps_in s) x) ≡ member r (act (swaps_in left) x)

-- At the beginning all bytes are left.
pub passing_none : {s : List ℕ} {w : ℕ} → w < 2 ^ 32 → Within 32 (swaps_in s) → Passing s w s w
passing_none h k = record { small = h; names = k; same = λ x l. refl }

two_of : (x : List ℕ) → length x ≡ 2 → x ≡ get_or x 0 0 ∷ get_or x 1 0 ∷ []
two_of [] h = absurd (omega arith)
two_of (a ∷ []) h = absurd (omega arith)
two_of (a ∷ b ∷ []) h = refl
two_of (a ∷ b ∷ c ∷ x) h = absurd (omega arith)

-- The next two bytes are read.
pub passing_next : {s : List ℕ} {w r : ℕ} {left : List ℕ} (x more : List ℕ) → Passing s w left r → left ≡ x ++ more → length x ≡ 2
    → Passing s w (get_or x 0 0 ∷ get_or x 1 0 ∷ more) r
passing_next {s} {w} {r} x more p e h = subst (λ (l : List ℕ). Passing s w l r) (e ∙ ap (λ (l : List ℕ). l ++ more) (two_of x h)) p

module _ {s : List ℕ} {w a b : ℕ} {more : List ℕ} {r : ℕ} (p : Passing s w (a ∷ b ∷ more) r) where
  pub passing_names : (a < 32) × (b < 32)
  passing_names = p.names.0

  pub passing_more : Passing s w more (sent_into 32 (swapped a b) r)
  passing_more = record {
    small = sent_lt 32 (swapped a b) r;
    names = p.names.1;
    same = λ x l. p.same x l ∙ sym (member_sent 32 (swapped a b) r (act (swaps_in more) x) (within 32 (swaps_in more) x p.names.1 l));
  }

none_left : (l : List ℕ) → length l ≤ 1 → swaps_in l ≡ []
none_left [] h = refl
none_left (a ∷ []) h = refl
none_left (a ∷ b ∷ l) h = absurd (omega arith)

pub passing_all : {s : List ℕ} {w : ℕ} {left : List ℕ} {r : ℕ} → Passing s w left r → length left ≤ 1 → r ≡ sent_into 32 (act (swaps_in s)) w
passing_all {s} {w} {left} {r} p h =
    sent_unique 32 (act (swaps_in s)) w r p.small (λ x l. sym (p.same x l ∙ ap (λ (π : Swaps). member r (act π x)) (none_left left h)))
