-- The laws of sets as bits of a word, for any width: who is a member after each operation, that words stay within their width, that words with the
-- same members are equal, and the least member and the count of members, by which a loop takes a set's members one after another.
use Prim.Native.Nat.{ℕ, zero, suc, ◌+◌, ◌-◌, ◌*◌, ◌/◌, ◌%◌, ◌^◌, ◌≤◌, ◌<◌, min, max}
use native.Mathlib.Nat.{pow-suc, div-div-eq-div-mul, mul_comm, div-one, one-mul, div-eq_of_lt, add-zero, add-suc, zero-add, suc-add}
use native.Mathlib.Omega.{arith}
use mathlib.Core.Path.{◌≡◌, refl, sym, ◌∙◌, ap, ap₂}
use mathlib.Core.Logic.{◌≢◌, ◌⊎◌, inl, inr}
use mathlib.Core.Bool.{Bool, true, false, not, ◌&&◌, ◌||◌, or-false}
use mathlib.Core.List.Memᴰ
use mathlib.Core.List.{List, [], ◌∷◌, ◌++◌, Memᴰ}
use lib.ListN.{length}
use lib.Pow.{pow_pos, pow-lt, pow_mono, shl_exact}
use lib.Bits.{bit_and, bit_or, and_step, or_step, and_shr, or_shr, and_le_l, or_lt, and_self, and_mask, or_comm, or_shifted}
use lib.Count.{ones, count_trailing_zeros, ones_step, ones-le, trailing_le}
use lib.Dec.{eqb, ltb}
use borrow.Author.Tests.{eq-eqb, ne_eqb, eqb-true, eqb-false, lt-ltb, le-ltb}
use Rattle.names.proofs.Equal.{by_eq, by_lt}
use Rattle.sets.specs.Bits.{bit, member, union, intersection, difference, inserted, removed, all_below, lowest, count, members_from, members, set_of, of_list}
use Rattle.sets.specs.Bits.{among}

-- Split on whether a number is below another, and on whether two numbers are equal.
-- ---- bits

pub bit_zero : (w : ℕ) → bit w 0 ≡ w % 2
unfolding bit
bit_zero w = ap (λ (x : ℕ). x % 2) (div-one w)

pub bit_suc : (w i : ℕ) → bit w (suc i) ≡ bit (w / 2) i
unfolding bit
bit_suc w i = ap (λ (x : ℕ). x % 2) (ap (λ (x : ℕ). w / x) (pow-suc 2 i ∙ mul_comm (2 ^ i) 2) ∙ sym (div-div-eq-div-mul w 2 (2 ^ i)))

pub bit_lt : (w i : ℕ) → bit w i < 2
unfolding bit
bit_lt w i = omega arith

pub bit_of_zero : (i : ℕ) → bit 0 i ≡ 0
bit_of_zero zero = bit_zero 0
bit_of_zero (suc i) = bit_suc 0 i ∙ bit_of_zero i

-- no bit stands past the width
pub bit_past : (k w i : ℕ) → w < 2 ^ k → k ≤ i → bit w i ≡ 0
bit_past zero w i h l = let z : w ≡ 0 = omega arith in ap (λ (x : ℕ). bit x i) z ∙ bit_of_zero i
bit_past (suc k) w zero h l = absurd (omega arith)
bit_past (suc k) w (suc i) h l =
    bit_suc w i ∙ bit_past k (w / 2) i (omega (arith, pow-suc 2 k)) (omega arith)

pub bit_of_or : (v w i : ℕ) → bit (bit_or v w) i ≡ max (bit v i) (bit w i)
unfolding bit
bit_of_or v w i = ap (λ (x : ℕ). x % 2) (or_shr v w i) ∙ omega (arith, or_step (v / 2 ^ i) (w / 2 ^ i))

pub bit_of_and : (v w i : ℕ) → bit (bit_and v w) i ≡ min (bit v i) (bit w i)
unfolding bit
bit_of_and v w i = ap (λ (x : ℕ). x % 2) (and_shr v w i) ∙ omega (arith, and_step (v / 2 ^ i) (w / 2 ^ i))

pub bit_difference : (v w i : ℕ) → bit (difference v w) i ≡ bit v i - bit w i
unfolding difference
bit_difference v w zero =
    rw (bit_zero (v - bit_and v w), bit_zero v, bit_zero w)
    (omega (arith, and_step v w, and_le_l (v / 2) (w / 2)))
bit_difference v w (suc i) =
    let e : (v - bit_and v w) / 2 ≡ v / 2 - bit_and (v / 2) (w / 2) = omega (arith, and_step v w, and_le_l (v / 2) (w / 2)) in
    bit_suc (v - bit_and v w) i ∙ ap (λ (x : ℕ). bit x i) e ∙ bit_difference (v / 2) (w / 2) i
    ∙ ap₂ (λ (x y : ℕ). x - y) (sym (bit_suc v i)) (sym (bit_suc w i))

pub bit_power : (i : ℕ) → bit (2 ^ i) i ≡ 1
bit_power zero = bit_zero 1
bit_power (suc i) =
    let e : 2 ^ suc i / 2 ≡ 2 ^ i = omega (arith, pow-suc 2 i) in
    bit_suc (2 ^ suc i) i ∙ ap (λ (x : ℕ). bit x i) e ∙ bit_power i

pub bit_power_other : (j i : ℕ) → i ≢ j → bit (2 ^ j) i ≡ 0
bit_power_other zero zero n = absurd (n refl)
bit_power_other zero (suc i) n = bit_suc 1 i ∙ bit_of_zero i
bit_power_other (suc j) zero n = bit_zero (2 ^ suc j) ∙ omega (arith, pow-suc 2 j)
bit_power_other (suc j) (suc i) n =
    let e : 2 ^ suc j / 2 ≡ 2 ^ j = omega (arith, pow-suc 2 j) in
    bit_suc (2 ^ suc j) i ∙ ap (λ (x : ℕ). bit x i) e ∙ bit_power_other j i (λ p. n (ap suc p))

pub bit_ones : (n i : ℕ) → i < n → bit (2 ^ n - 1) i ≡ 1
bit_ones zero i h = absurd (omega arith)
bit_ones (suc n) zero h = bit_zero (2 ^ suc n - 1) ∙ omega (arith, pow-suc 2 n, pow_pos n)
bit_ones (suc n) (suc i) h =
    let e : (2 ^ suc n - 1) / 2 ≡ 2 ^ n - 1 = omega (arith, pow-suc 2 n, pow_pos n) in
    bit_suc (2 ^ suc n - 1) i ∙ ap (λ (x : ℕ). bit x i) e ∙ bit_ones n i (omega arith)

-- two words of k bits with the same bits are equal
pub bits_extensional : (k v w : ℕ) → v < 2 ^ k → w < 2 ^ k → ((i : ℕ) → i < k → bit v i ≡ bit w i) → v ≡ w
bits_extensional zero v w h l e = omega arith
bits_extensional (suc k) v w h l e =
    let halves : v / 2 ≡ w / 2 =
    bits_extensional k (v / 2) (w / 2) (omega (arith, pow-suc 2 k)) (omega (arith, pow-suc 2 k))
    (λ i m. sym (bit_suc v i) ∙ e (suc i) (omega arith) ∙ bit_suc w i) in
    let odd : v % 2 ≡ w % 2 = sym (bit_zero v) ∙ e 0 (omega arith) ∙ bit_zero w in
    omega arith

-- ---- members

-- What a bit says of membership, both ways.
pub member_bit : (w i : ℕ) → member w i ≡ true → bit w i ≡ 1
unfolding member
member_bit w i e = eqb-true (bit w i) 1 e

pub no_member_bit : (w i : ℕ) → member w i ≡ false → bit w i ≡ 0
unfolding member
no_member_bit w i e = let n : bit w i ≢ 1 = eqb-false (bit w i) 1 e in omega (arith, bit_lt w i)

pub bit_member : (w i : ℕ) → bit w i ≡ 1 → member w i ≡ true
unfolding member
bit_member w i e = eq-eqb (bit w i) 1 e

pub bit_no_member : (w i : ℕ) → bit w i ≡ 0 → member w i ≡ false
unfolding member
bit_no_member w i e = ne_eqb (bit w i) 1 (λ p. omega arith)

pub by_test : (b : Bool) {R : Type 0} → (b ≡ true → R) → (b ≡ false → R) → R
by_test true f g = f refl
by_test false f g = g refl

pub by_member : (w i : ℕ) {R : Type 0} → (member w i ≡ true → R) → (member w i ≡ false → R) → R
by_member w i f g = by_test (member w i) f g

pub same_member : (v w i j : ℕ) → bit v i ≡ bit w j → member v i ≡ member w j
unfolding member
same_member v w i j e = ap (λ (x : ℕ). eqb x 1) e

pub same_bit : (v w i j : ℕ) → member v i ≡ member w j → bit v i ≡ bit w j
same_bit v w i j e =
    by_member w j (λ p. member_bit v i (e ∙ p) ∙ sym (member_bit w j p)) (λ p. no_member_bit v i (e ∙ p) ∙ sym (no_member_bit w j p))

pub member_suc : (w i : ℕ) → member w (suc i) ≡ member (w / 2) i
member_suc w i = same_member w (w / 2) (suc i) i (bit_suc w i)

pub member_empty : (i : ℕ) → member 0 i ≡ false
member_empty i = bit_no_member 0 i (bit_of_zero i)

-- a word of k bits has no member of k or more
pub member_past : (k w i : ℕ) → w < 2 ^ k → k ≤ i → member w i ≡ false
member_past k w i h l = bit_no_member w i (bit_past k w i h l)

pub member_within : (k w i : ℕ) → w < 2 ^ k → member w i ≡ true → i < k
member_within k w i h m =
    by_lt i k (λ l. l) (λ l. let z : bit w i ≡ 0 = bit_past k w i h l in let o : bit w i ≡ 1 = member_bit w i m in absurd (omega arith))

or_swap : (a b c : Bool) → (a || (b || c)) ≡ (b || (a || c))
or_swap true true c = refl
or_swap true false c = refl
or_swap false true c = refl
or_swap false false c = refl

pub or_true : (b : Bool) → (b || true) ≡ true
or_true true = refl
or_true false = refl

and_true : (b : Bool) → (b && true) ≡ b
and_true true = refl
and_true false = refl

and_false : (b : Bool) → (b && false) ≡ false
and_false true = refl
and_false false = refl

pub member_union : (v w i : ℕ) → member (union v w) i ≡ (member v i || member w i)
unfolding union
member_union v w i =
    by_member v i
    (λ p. rw p (bit_member (bit_or v w) i (bit_of_or v w i ∙ omega (arith, member_bit v i p, bit_lt w i))))
    (λ p. rw p (same_member (bit_or v w) w i i (bit_of_or v w i ∙ omega (arith, no_member_bit v i p))))

pub member_union_left : (v w i : ℕ) → member v i ≡ true → member (union v w) i ≡ true
member_union_left v w i m = member_union v w i ∙ rw m

pub member_union_right : (v w i : ℕ) → member w i ≡ true → member (union v w) i ≡ true
member_union_right v w i m = member_union v w i ∙ rw m (or_true (member v i))

pub member_union_cases : (v w i : ℕ) → member (union v w) i ≡ true → (member v i ≡ true) ⊎ (member w i ≡ true)
member_union_cases v w i m = by_member v i inl (λ p. inr (sym (member_union v w i ∙ rw p) ∙ m))

pub member_intersection : (v w i : ℕ) → member (intersection v w) i ≡ (member v i && member w i)
unfolding intersection
member_intersection v w i =
    by_member v i
    (λ p. rw p (same_member (bit_and v w) w i i (bit_of_and v w i ∙ omega (arith, member_bit v i p, bit_lt w i))))
    (λ p. rw p (bit_no_member (bit_and v w) i (bit_of_and v w i ∙ omega (arith, no_member_bit v i p))))

pub member_difference : (v w i : ℕ) → member (difference v w) i ≡ (member v i && not (member w i))
member_difference v w i =
    by_member w i
    (λ q. rw q (by_member v i
    (λ p. rw p (bit_no_member (difference v w) i (bit_difference v w i ∙ omega (arith, member_bit v i p, member_bit w i q))))
    (λ p. rw p (bit_no_member (difference v w) i (bit_difference v w i ∙ omega (arith, no_member_bit v i p))))))
    (λ q. rw q (by_member v i
    (λ p. rw p (bit_member (difference v w) i (bit_difference v w i ∙ omega (arith, member_bit v i p, no_member_bit w i q))))
    (λ p. rw p (bit_no_member (difference v w) i (bit_difference v w i ∙ omega (arith, no_member_bit v i p))))))

pub member_power : (j i : ℕ) → member (2 ^ j) i ≡ eqb i j
member_power j i =
    by_eq i j
    (λ p. rw (eq-eqb i j p) (bit_member (2 ^ j) i (ap (bit (2 ^ j)) p ∙ bit_power j)))
    (λ n. rw (ne_eqb i j n) (bit_no_member (2 ^ j) i (bit_power_other j i n)))

pub inserted_within : (k w i : ℕ) → i < k → inserted k w i ≡ union w (2 ^ i)
unfolding inserted
inserted_within k w i h = rw (lt-ltb i k h)

pub inserted_past : (k w i : ℕ) → k ≤ i → inserted k w i ≡ w
unfolding inserted
inserted_past k w i h = rw (le-ltb i k h)

pub member_inserted_same : (k w i : ℕ) → i < k → member (inserted k w i) i ≡ true
member_inserted_same k w i h = rw (inserted_within k w i h, member_union w (2 ^ i) i, member_power i i, eq-eqb i i refl) (or_true (member w i))

pub member_inserted_other : (k w i j : ℕ) → j ≢ i → member (inserted k w i) j ≡ member w j
member_inserted_other k w i j n =
    by_lt i k
    (λ h. rw (inserted_within k w i h, member_union w (2 ^ i) j, member_power i j, ne_eqb j i n) (or-false (member w j)))
    (λ h. rw (inserted_past k w i h))

-- both at once, for a number that has room
pub member_inserted : (k w i j : ℕ) → i < k → member (inserted k w i) j ≡ (eqb j i || member w j)
member_inserted k w i j h =
    by_eq j i
    (λ p. rw (eq-eqb j i p) (ap (member (inserted k w i)) p ∙ member_inserted_same k w i h))
    (λ n. rw (ne_eqb j i n) (member_inserted_other k w i j n))

pub member_removed_same : (w i : ℕ) → member (removed w i) i ≡ false
unfolding removed
member_removed_same w i = rw (member_difference w (2 ^ i) i, member_power i i, eq-eqb i i refl) (and_false (member w i))

pub member_removed_other : (w i j : ℕ) → j ≢ i → member (removed w i) j ≡ member w j
unfolding removed
member_removed_other w i j n = rw (member_difference w (2 ^ i) j, member_power i j, ne_eqb j i n) (and_true (member w j))

pub member_all_below : (k n i : ℕ) → i < k → member (all_below k n) i ≡ ltb i n
unfolding all_below
member_all_below k n i h =
    by_lt i n
    (λ l. rw (lt-ltb i n l) (bit_member (2 ^ min n k - 1) i (bit_ones (min n k) i (omega arith))))
    (λ l. rw (le-ltb i n l) (member_past (min n k) (2 ^ min n k - 1) i (omega (arith, pow_pos (min n k))) (omega arith)))

-- ---- words stay within their width

pub union_lt : (k v w : ℕ) → v < 2 ^ k → w < 2 ^ k → union v w < 2 ^ k
unfolding union
union_lt k v w h l = or_lt k v w h l

pub intersection_le : (v w : ℕ) → intersection v w ≤ v
unfolding intersection
intersection_le v w = and_le_l v w

pub difference_le : (v w : ℕ) → difference v w ≤ v
unfolding difference
difference_le v w = omega arith

pub removed_le : (w i : ℕ) → removed w i ≤ w
unfolding removed
removed_le w i = difference_le w (2 ^ i)

pub inserted_lt : (k w i : ℕ) → w < 2 ^ k → inserted k w i < 2 ^ k
inserted_lt k w i h =
    by_lt i k
    (λ l. rw (inserted_within k w i l) (union_lt k w (2 ^ i) h (pow-lt l)))
    (λ l. rw (inserted_past k w i l) h)

pub all_below_lt : (k n : ℕ) → all_below k n < 2 ^ k
unfolding all_below
all_below_lt k n =
    let m : min n k ≤ k = omega arith in
    omega (arith, pow_pos (min n k), pow_mono m)

-- ---- the same members, the same word

pub sets_extensional : (k v w : ℕ) → v < 2 ^ k → w < 2 ^ k → ((i : ℕ) → i < k → member v i ≡ member w i) → v ≡ w
sets_extensional k v w h l e = bits_extensional k v w h l (λ i m. same_bit v w i i (e i m))

pub no_members_empty : (k w : ℕ) → w < 2 ^ k → ((i : ℕ) → i < k → member w i ≡ false) → w ≡ 0
no_members_empty k w h e = sets_extensional k w 0 h (pow_pos k) (λ i m. e i m ∙ sym (member_empty i))

-- what `is_empty` tells
pub not_empty : (w : ℕ) → eqb w 0 ≡ false → 0 < w
not_empty w e = let n : w ≢ 0 = eqb-false w 0 e in omega arith

-- ---- disjoint sets, and a set within another

pub disjoint_apart : (v w i : ℕ) → intersection v w ≡ 0 → member v i ≡ true → member w i ≡ false
disjoint_apart v w i e m = sym (member_intersection v w i ∙ rw m) ∙ ap (λ (x : ℕ). member x i) e ∙ member_empty i

pub subset_member : (v w i : ℕ) → difference v w ≡ 0 → member v i ≡ true → member w i ≡ true
subset_member v w i e m =
    by_member w i (λ p. p) λ p.
    let b : true ≡ false = sym (member_difference v w i ∙ rw (m, p)) ∙ ap (λ (x : ℕ). member x i) e ∙ member_empty i in
    let z : ◌≡◌ {A = ℕ} 0 1 = cc in absurd (omega arith)

pub member_subset : (k v w : ℕ) → v < 2 ^ k → ((i : ℕ) → i < k → member v i ≡ true → member w i ≡ true) → difference v w ≡ 0
member_subset k v w h f =
    no_members_empty k (difference v w) (omega (arith, difference_le v w)) λ i l.
    member_difference v w i ∙ by_member v i (λ m. rw (m, f i l m)) (λ m. rw m)

-- ---- what the machine does

-- `1 << i`
pub shifted_one : (k i : ℕ) → i < k → (1 * 2 ^ i) % 2 ^ k ≡ 2 ^ i
shifted_one k i h = shl_exact {a = 1} 1 i k (omega arith) (omega arith) ∙ one-mul (2 ^ i)

-- `(w >> i) & 1 == 1`
pub tested_bit : (w i : ℕ) → eqb (bit_and (w / 2 ^ i) 1) 1 ≡ member w i
unfolding bit member
tested_bit w i = ap (λ (x : ℕ). eqb x 1) (and_mask (w / 2 ^ i) 1)

and_not_step : (v w n : ℕ) → n % 2 ≡ 1 - w % 2 → bit_and (v / 2) (n / 2) ≡ v / 2 - bit_and (v / 2) (w / 2) → bit_and v n ≡ v - bit_and v w
and_not_step v w n odd rest = omega (arith, and_step v n, and_step v w, and_le_l (v / 2) (w / 2))

-- `v & !w`
pub and_not : (k v w : ℕ) → v < 2 ^ k → w < 2 ^ k → bit_and v ((2 ^ k - 1) - w) ≡ difference v w
unfolding difference
and_not zero v w h l = let z : v ≡ 0 = omega arith in rw z
and_not (suc k) v w h l =
    let half : ((2 ^ suc k - 1) - w) / 2 ≡ (2 ^ k - 1) - w / 2 = omega (arith, pow-suc 2 k) in
    and_not_step v w ((2 ^ suc k - 1) - w) (omega (arith, pow-suc 2 k))
    (ap (bit_and (v / 2)) half ∙ and_not k (v / 2) (w / 2) (omega (arith, pow-suc 2 k)) (omega (arith, pow-suc 2 k)))

-- ---- the least member

pub lowest_odd : (k w : ℕ) → w % 2 ≡ 1 → lowest (suc k) w ≡ 0
unfolding lowest count_trailing_zeros
lowest_odd k w e = rw e

pub lowest_even : (k w : ℕ) → w % 2 ≡ 0 → lowest (suc k) w ≡ suc (lowest k (w / 2))
unfolding lowest count_trailing_zeros
lowest_even k w e = rw e

by_odd : (w : ℕ) {R : Type 0} → (w % 2 ≡ 1 → R) → (w % 2 ≡ 0 → R) → R
by_odd w f g = by_eq (w % 2) 1 f (λ n. g (omega arith))

pub lowest_le : (k w : ℕ) → lowest k w ≤ k
unfolding lowest
lowest_le k w = trailing_le k w

pub lowest_lt : (k w : ℕ) → 0 < w → w < 2 ^ k → lowest k w < k
lowest_lt zero w p h = absurd (omega arith)
lowest_lt (suc k) w p h =
    by_odd w (λ e. omega (arith, lowest_odd k w e)) λ e.
    omega (arith, lowest_even k w e, lowest_lt k (w / 2) (omega arith) (omega (arith, pow-suc 2 k)))

pub lowest_member : (k w : ℕ) → 0 < w → w < 2 ^ k → member w (lowest k w) ≡ true
lowest_member zero w p h = absurd (omega arith)
lowest_member (suc k) w p h =
    by_odd w (λ e. rw (lowest_odd k w e) (bit_member w 0 (bit_zero w ∙ e))) λ e.
    rw (lowest_even k w e) (member_suc w (lowest k (w / 2)) ∙ lowest_member k (w / 2) (omega arith) (omega (arith, pow-suc 2 k)))

pub lowest_least : (k w i : ℕ) → i < lowest k w → member w i ≡ false
lowest_least zero w i l = absurd (omega (arith, lowest_le 0 w))
lowest_least (suc k) w zero l =
    by_odd w (λ e. absurd (omega (arith, lowest_odd k w e))) (λ e. bit_no_member w 0 (bit_zero w ∙ e))
lowest_least (suc k) w (suc i) l =
    by_odd w (λ e. absurd (omega (arith, lowest_odd k w e))) λ e.
    member_suc w i ∙ lowest_least k (w / 2) i (omega (arith, lowest_even k w e))

-- ---- removing, digit by digit

removed_zero : (w : ℕ) → removed w 0 ≡ w - w % 2
unfolding removed difference
removed_zero w = ap (λ (x : ℕ). w - x) (and_mask w 1)

removed_half : (w i : ℕ) → removed w (suc i) / 2 ≡ removed (w / 2) i
unfolding removed difference
removed_half w i =
    let half : 2 ^ suc i / 2 ≡ 2 ^ i = omega (arith, pow-suc 2 i) in
    let even : 2 ^ suc i % 2 ≡ 0 = omega (arith, pow-suc 2 i) in
    let rest : bit_and (w / 2) (2 ^ suc i / 2) ≡ bit_and (w / 2) (2 ^ i) = ap (bit_and (w / 2)) half in
    omega (arith, and_step w (2 ^ suc i), and_le_l (w / 2) (2 ^ i))

removed_odd : (w i : ℕ) → removed w (suc i) % 2 ≡ w % 2
unfolding removed difference
removed_odd w i =
    let even : 2 ^ suc i % 2 ≡ 0 = omega (arith, pow-suc 2 i) in
    let half : 2 ^ suc i / 2 ≡ 2 ^ i = omega (arith, pow-suc 2 i) in
    let rest : bit_and (w / 2) (2 ^ suc i / 2) ≡ bit_and (w / 2) (2 ^ i) = ap (bit_and (w / 2)) half in
    omega (arith, and_step w (2 ^ suc i), and_le_l (w / 2) (2 ^ i))

-- `w & (w - 1)` leaves out the least member
pub and_pred : (k w : ℕ) → 0 < w → w < 2 ^ k → bit_and w (w - 1) ≡ removed w (lowest k w)
and_pred zero w p h = absurd (omega arith)
and_pred (suc k) w p h =
    by_odd w
    (λ e.
    let half : (w - 1) / 2 ≡ w / 2 = omega arith in
    let rest : bit_and (w / 2) ((w - 1) / 2) ≡ w / 2 = ap (bit_and (w / 2)) half ∙ and_self (w / 2) in
    let low : removed w (lowest (suc k) w) ≡ w - w % 2 = ap (removed w) (lowest_odd k w e) ∙ removed_zero w in
    omega (arith, and_step w (w - 1)))
    (λ e.
    let j : ℕ = lowest k (w / 2) in
    let half : (w - 1) / 2 ≡ w / 2 - 1 = omega arith in
    let rest : bit_and (w / 2) ((w - 1) / 2) ≡ removed (w / 2) j =
    ap (bit_and (w / 2)) half ∙ and_pred k (w / 2) (omega arith) (omega (arith, pow-suc 2 k)) in
    let low : removed w (lowest (suc k) w) ≡ removed w (suc j) = ap (removed w) (lowest_even k w e) in
    omega (arith, and_step w (w - 1), removed_half w j, removed_odd w j))

-- ---- each operation on a set of k numbers, in a word of n bits

pub below_shift : (n i : ℕ) → i < n → (1 * 2 ^ i) % 2 ^ n - 1 ≡ all_below n i
unfolding all_below
below_shift n i h = let m : min i n ≡ i = omega arith in rw (m, shifted_one n i h)

pub below_full : (n i : ℕ) → n ≤ i → 2 ^ n - 1 ≡ all_below n i
unfolding all_below
below_full n i h = let m : min i n ≡ n = omega arith in rw m

-- what is below the lesser of i and k
pub below_least : (n k i : ℕ) {w m : ℕ} → k ≤ n → w ≡ k → m ≡ min i w → all_below n m ≡ all_below k i
unfolding all_below
below_least n k i {m = m} l p e = let s : min m n ≡ min i k = omega arith in rw s

pub shifted_positive : (n i : ℕ) → i < n → 1 ≤ (1 * 2 ^ i) % 2 ^ n
shifted_positive n i h = rw (shifted_one n i h) (pow_pos i)

pub or_bit : (n k w i : ℕ) → k ≤ n → i < k → bit_or w ((1 * 2 ^ i) % 2 ^ n) ≡ inserted k w i
unfolding union
or_bit n k w i l h = rw (shifted_one n i (omega arith), inserted_within k w i h)

pub or_shift : (k w i : ℕ) → i < k → bit_or w ((1 * 2 ^ i) % 2 ^ k) ≡ inserted k w i
or_shift k w i h = or_bit k k w i (omega arith) h

pub and_not_shift : (n w i : ℕ) → w < 2 ^ n → i < n → bit_and w ((2 ^ n - 1) - (1 * 2 ^ i) % 2 ^ n) ≡ removed w i
unfolding removed
and_not_shift n w i l h = rw (shifted_one n i h) (and_not n w (2 ^ i) l (pow-lt h))

pub lowest_of_none : (k : ℕ) → lowest k 0 ≡ k
lowest_of_none zero = omega (arith, lowest_le 0 0)
lowest_of_none (suc k) = lowest_even k 0 refl ∙ ap suc (lowest_of_none k)

pub lowest_wider : (n k w : ℕ) → k ≤ n → 0 < w → w < 2 ^ k → lowest n w ≡ lowest k w
lowest_wider n zero w l p h = absurd (omega arith)
lowest_wider zero (suc k) w l p h = absurd (omega arith)
lowest_wider (suc n) (suc k) w l p h =
    by_odd w (λ e. lowest_odd n w e ∙ sym (lowest_odd k w e)) λ e.
    lowest_even n w e ∙ ap suc (lowest_wider n k (w / 2) (omega arith) (omega arith) (omega (arith, pow-suc 2 k)))
    ∙ sym (lowest_even k w e)

pub removed_no_member : (k w i : ℕ) → w < 2 ^ k → member w i ≡ false → removed w i ≡ w
removed_no_member k w i h m =
    sets_extensional k (removed w i) w (omega (arith, removed_le w i)) h λ j l.
    by_eq j i (λ p. ap (member (removed w i)) p ∙ member_removed_same w i ∙ sym (ap (member w) p ∙ m)) (λ d. member_removed_other w i j d)

pub removed_past : (k w i : ℕ) → w < 2 ^ k → k ≤ i → removed w i ≡ w
removed_past k w i h l = removed_no_member k w i h (member_past k w i h l)

-- ---- how many members there are

pub count_empty : count 0 ≡ 0
unfolding count ones
count_empty = refl

pub count_le : (k w : ℕ) → w < 2 ^ k → count w ≤ k
unfolding count
count_le k w h = ones-le k w h

pub count_removed : (w i : ℕ) → member w i ≡ true → suc (count (removed w i)) ≡ count w
unfolding count
count_removed w zero m =
    let e : w % 2 ≡ 1 = sym (bit_zero w) ∙ member_bit w 0 m in
    let half : removed w 0 / 2 ≡ w / 2 = omega (arith, removed_zero w) in
    let same : ones (removed w 0 / 2) ≡ ones (w / 2) = ap ones half in
    omega (arith, ones_step w, ones_step (removed w 0), removed_zero w)
count_removed w (suc i) m =
    let rest : suc (count (removed (w / 2) i)) ≡ count (w / 2) = count_removed (w / 2) i (sym (member_suc w i) ∙ m) in
    let same : ones (removed w (suc i) / 2) ≡ ones (removed (w / 2) i) = ap ones (removed_half w i) in
    omega (arith, ones_step w, ones_step (removed w (suc i)), removed_odd w i)

-- the measure of a loop over the members
pub count_removed_lt : (w i : ℕ) → member w i ≡ true → count (removed w i) < count w
count_removed_lt w i m = omega (arith, count_removed w i m)

pub removed_inserted : (k w i : ℕ) → w < 2 ^ k → i < k → member w i ≡ false → removed (inserted k w i) i ≡ w
removed_inserted k w i h l m =
    sets_extensional k (removed (inserted k w i) i) w (omega (arith, removed_le (inserted k w i) i, inserted_lt k w i h)) h λ j n.
    by_eq j i
    (λ p. ap (member (removed (inserted k w i) i)) p ∙ member_removed_same (inserted k w i) i ∙ sym (ap (member w) p ∙ m))
    (λ d. member_removed_other (inserted k w i) i j d ∙ member_inserted_other k w i j d)

pub count_inserted : (k w i : ℕ) → w < 2 ^ k → i < k → member w i ≡ false → count (inserted k w i) ≡ suc (count w)
count_inserted k w i h l m =
    sym (ap (λ (x : ℕ). suc (count x)) (sym (removed_inserted k w i h l m)) ∙ count_removed (inserted k w i) i (member_inserted_same k w i l))

-- ---- the list of members

pub members_from_same : (i n v w : ℕ) → ((j : ℕ) → i ≤ j → j < i + n → member v j ≡ member w j) → members_from i n v ≡ members_from i n w
members_from_same i zero v w e = refl
members_from_same i (suc n) v w e =
    rw (e i (omega arith) (omega arith), members_from_same (suc i) n v w (λ j l h. e j (omega arith) (omega arith)))

members_from_first : (i n w m : ℕ) → i ≤ m → m < i + n → member w m ≡ true → ((j : ℕ) → j < m → member w j ≡ false)
    → members_from i n w ≡ m ∷ members_from i n (removed w m)
members_from_first i zero w m l h e f = absurd (omega arith)
members_from_first i (suc n) w m l h e f =
    by_eq i m
    (λ p.
    rw (ap (member w) p ∙ e, ap (member (removed w m)) p ∙ member_removed_same w m, p)
    (ap (◌∷◌ m) (members_from_same (suc m) n w (removed w m) (λ j q r. sym (member_removed_other w m j (λ s. omega arith))))))
    (λ d.
    let k : i < m = omega arith in
    rw (f i k, member_removed_other w m i d ∙ f i k) (members_from_first (suc i) n w m k (omega arith) e f))

pub members_empty : (k : ℕ) → members k 0 ≡ []
unfolding members
members_empty k = go 0 k
  where
    go : (i n : ℕ) → members_from i n 0 ≡ []
    go i zero = refl
    go i (suc n) = rw (member_empty i) (go (suc i) n)

-- a loop that takes the least member out each time goes through the members in their order
pub members_lowest : (k w : ℕ) → 0 < w → w < 2 ^ k → members k w ≡ lowest k w ∷ members k (removed w (lowest k w))
unfolding members
members_lowest k w p h =
    members_from_first 0 k w (lowest k w) (omega arith) (omega (arith, lowest_lt k w p h)) (lowest_member k w p h) (lowest_least k w)

pub members_from_in : (i n w j : ℕ) → i ≤ j → j < i + n → member w j ≡ true → Memᴰ j (members_from i n w)
members_from_in i zero w j l h m = absurd (omega arith)
members_from_in i (suc n) w j l h m =
    by_eq j i
    (λ p. rw (sym (ap (member w) p) ∙ m) (Memᴰ.head p))
    (λ d. by_member w i
    (λ q. rw q (Memᴰ.tail (members_from_in (suc i) n w j (omega arith) (omega arith) m)))
    (λ q. rw q (members_from_in (suc i) n w j (omega arith) (omega arith) m)))

in_cons : (i j : ℕ) (l : List ℕ) {R : Type 0} → (j ≡ i → R) → (Memᴰ j l → R) → Memᴰ j (i ∷ l) → R
in_cons i j l f g (Memᴰ.head p) = f p
in_cons i j l f g (Memᴰ.tail x) = g x

pub in_members_from : (i n w j : ℕ) → Memᴰ j (members_from i n w) → (i ≤ j) × (j < i + n) × (member w j ≡ true)
in_members_from i zero w j x = absurd (Memᴰ.not-nil x)
in_members_from i (suc n) w j x =
    by_member w i
    (λ q.
    in_cons i j (members_from (suc i) n w)
    (λ p. (omega arith, omega arith, ap (member w) p ∙ q))
    (λ y. let r = in_members_from (suc i) n w j y in (omega arith, omega arith, r.2))
    (rw q at x))
    (λ q. let r = in_members_from (suc i) n w j (rw q at x) in (omega arith, omega arith, r.2))

pub in_members_member : (k w i : ℕ) → Memᴰ i (members k w) → member w i ≡ true
unfolding members
in_members_member k w i x = (in_members_from 0 k w i x).2

bit_and_members : (i n w : ℕ) → bit w i + length (members_from (suc i) n w) ≡ length (members_from i (suc n) w)
bit_and_members i n w =
    by_member w i (λ m. rw (m, member_bit w i m) (omega arith)) (λ m. rw (m, no_member_bit w i m) (omega arith))

pub count_members_from : (i n w : ℕ) → w < 2 ^ (i + n) → count (w / 2 ^ i) ≡ length (members_from i n w)
unfolding bit count
count_members_from i zero w l = ap ones (div-eq_of_lt (rw add-zero at l)) ∙ count_empty
count_members_from i (suc n) w l =
    let e : w / 2 ^ i / 2 ≡ w / 2 ^ suc i = div-div-eq-div-mul w (2 ^ i) 2 ∙ ap (λ (x : ℕ). w / x) (sym (pow-suc 2 i)) in
    let rest : count (w / 2 ^ suc i) ≡ length (members_from (suc i) n w) = count_members_from (suc i) n w (rw (suc-add, ← add-suc) l) in
    ones_step (w / 2 ^ i) ∙ ap (λ (x : ℕ). w / 2 ^ i % 2 + x) (ap ones e ∙ rest) ∙ bit_and_members i n w

pub count_members : (k w : ℕ) → w < 2 ^ k → count w ≡ length (members k w)
unfolding members
count_members k w h = ap count (sym (div-one w)) ∙ count_members_from 0 k w (rw zero-add h)

-- ---- the word of a test, and of a list

pub set_of_lt : (f : ℕ → Bool) (k : ℕ) → set_of f k < 2 ^ k
set_of_lt f zero = omega arith
set_of_lt f (suc k) =
    by_test (f k)
    (λ e. rw e (omega (arith, pow-suc 2 k, set_of_lt f k)))
    (λ e. rw e (omega (arith, pow-suc 2 k, set_of_lt f k)))

power_added : (k w : ℕ) → w < 2 ^ k → 2 ^ k + w ≡ inserted (suc k) w k
unfolding union
power_added k w h =
    sym
    (inserted_within (suc k) w k (omega arith) ∙ or_comm w (2 ^ k) ∙ ap (λ (x : ℕ). bit_or x w) (sym (one-mul (2 ^ k)))
    ∙ or_shifted 1 k w h ∙ ap (λ (x : ℕ). x + w) (one-mul (2 ^ k)))

pub member_set_of : (f : ℕ → Bool) (k i : ℕ) → i < k → member (set_of f k) i ≡ f i
member_set_of f zero i h = absurd (omega arith)
member_set_of f (suc k) i h =
    by_test (f k)
    (λ e.
    rw (e, power_added k (set_of f k) (set_of_lt f k))
    (by_eq i k
    (λ p. ap (member (inserted (suc k) (set_of f k) k)) p ∙ member_inserted_same (suc k) (set_of f k) k (omega arith) ∙ sym (ap f p ∙ e))
    (λ d. member_inserted_other (suc k) (set_of f k) k i d ∙ member_set_of f k i (omega arith))))
    (λ e.
    rw (e, zero-add)
    (by_eq i k
    (λ p. member_past k (set_of f k) i (set_of_lt f k) (omega arith) ∙ sym (ap f p ∙ e))
    (λ d. member_set_of f k i (omega arith))))

-- a word that has a test's members is the test's word
pub set_of_unique : (f : ℕ → Bool) (k w : ℕ) → w < 2 ^ k → ((i : ℕ) → i < k → member w i ≡ f i) → w ≡ set_of f k
set_of_unique f k w h e = sets_extensional k w (set_of f k) h (set_of_lt f k) (λ i l. e i l ∙ sym (member_set_of f k i l))

pub of_list_lt : (k : ℕ) (l : List ℕ) → of_list k l < 2 ^ k
of_list_lt k [] = pow_pos k
of_list_lt k (j ∷ l) = inserted_lt k (of_list k l) j (of_list_lt k l)

pub member_of_list : (k : ℕ) (l : List ℕ) (i : ℕ) → i < k → member (of_list k l) i ≡ among i l
member_of_list k [] i h = member_empty i
member_of_list k (j ∷ l) i h =
    by_eq i j
    (λ p. rw (eq-eqb i j p) (ap (λ (x : ℕ). member (inserted k (of_list k l) x) i) (sym p) ∙ member_inserted_same k (of_list k l) i h))
    (λ d. rw (ne_eqb i j d) (member_inserted_other k (of_list k l) j i d ∙ member_of_list k l i h))

pub inserted_commutes : (k w i j : ℕ) → w < 2 ^ k → inserted k (inserted k w i) j ≡ inserted k (inserted k w j) i
inserted_commutes k w i j h =
    let lt : (a b : ℕ) → inserted k (inserted k w a) b < 2 ^ k = λ a b. inserted_lt k (inserted k w a) b (inserted_lt k w a h) in
    by_lt i k
    (λ hi. by_lt j k
    (λ hj. sets_extensional k (inserted k (inserted k w i) j) (inserted k (inserted k w j) i) (lt i j) (lt j i) λ m l.
    member_inserted k (inserted k w i) j m hj ∙ ap (λ (x : Bool). eqb m j || x) (member_inserted k w i m hi)
    ∙ or_swap (eqb m j) (eqb m i) (member w m)
    ∙ sym (member_inserted k (inserted k w j) i m hi ∙ ap (λ (x : Bool). eqb m i || x) (member_inserted k w j m hj)))
    (λ hj. rw (inserted_past k (inserted k w i) j hj, inserted_past k w j hj)))
    (λ hi. rw (inserted_past k (inserted k w j) i hi, inserted_past k w i hi))

-- the word of a list grows by what is added at its end
pub of_list_append : (k : ℕ) (l : List ℕ) (i : ℕ) → of_list k (l ++ (i ∷ [])) ≡ inserted k (of_list k l) i
of_list_append k [] i = refl
of_list_append k (j ∷ l) i = ap (λ (x : ℕ). inserted k x j) (of_list_append k l i) ∙ inserted_commutes k (of_list k l) i j (of_list_lt k l)

pub among_in : (i : ℕ) (l : List ℕ) → among i l ≡ true → Memᴰ i l
among_in i [] e = let z : ◌≡◌ {A = ℕ} 0 1 = cc in absurd (omega arith)
among_in i (j ∷ l) e =
    by_eq i j Memᴰ.head (λ d. Memᴰ.tail (among_in i l (rw (ne_eqb i j d) at e)))

pub in_among : (i : ℕ) (l : List ℕ) → Memᴰ i l → among i l ≡ true
in_among i [] x = absurd (Memᴰ.not-nil x)
in_among i (j ∷ l) x =
    in_cons j i l (λ p. rw (eq-eqb i j p)) (λ y. rw (in_among i l y) (or_true (eqb i j))) x
