-- The laws of tables of images, of any length, and that tables and lists of swaps agree, both ways.
use Prim.Native.Nat.{ℕ, zero, suc, ◌+◌, ◌≤◌, ◌<◌}
use native.Mathlib.Nat.{add-zero, zero-add}
use native.Mathlib.Omega.{arith}
use mathlib.Core.Path.{◌≡◌, refl, sym, ◌∙◌, ap}
use mathlib.Core.Logic.{◌≢◌, ◌↔◌}
use mathlib.Core.Bool.{Bool, true, false, cond, not, true≢false}
use mathlib.Core.List.{List, [], ◌∷◌, ◌++◌, map, Memᴰ}
use lib.ListN.{length, get_or, length-map, get_or-map, get_or-eq_default}
use lib.Seq.{ext_get_or}
use lib.Dec.{eqb}
use borrow.Author.Tests.{eq-eqb, ne_eqb, eqb-false, not-true}
use Rattle.permutation.specs.Swaps.{Swaps, swapped, act, inverse, Disagree, Alike, Within}
use Rattle.permutation.specs.Table.{Table, image, from, upto, tabulate, identity, after, place_from, place, inverted, of_swaps, swapped_after, kept}
use Rattle.permutation.specs.Table.{disagreement, Permutes, Unwound, before, unwind, cycles, swaps_of}
use Rattle.names.proofs.Equal.{by_eq, by_lt}
use Rattle.permutation.proofs.Swaps.{swapped_right, swapped_other, swapped_twice, swapped_within, act_append, act_inverse, act_injective, within}
use Rattle.permutation.proofs.Swaps.{outside, within_append, within_inverse}

-- ---- images

pub image_out : (P : Table) (a : ℕ) → length P ≤ a → image P a ≡ a
image_out P a h = get_or-eq_default P a h

pub get_d_default : (l : List ℕ) (i d e : ℕ) → i < length l → get_or l i d ≡ get_or l i e
get_d_default [] i d e h = absurd (omega arith)
get_d_default (x ∷ l) zero d e h = refl
get_d_default (x ∷ l) (suc i) d e h = get_d_default l i d e (omega arith)

pub table_extensional : (P Q : Table) → length P ≡ length Q → ((a : ℕ) → a < length P → image P a ≡ image Q a) → P ≡ Q
table_extensional P Q l h = ext_get_or 0 P Q l (λ a k. get_d_default P a 0 a k ∙ h a k ∙ get_d_default Q a a 0 (omega arith))

pub image_map : (f : ℕ → ℕ) (P : Table) (a : ℕ) → a < length P → image (map f P) a ≡ f (image P a)
image_map f P a h = get_d_default (map f P) a a (f a) (rw length-map h) ∙ get_or-map f P a a

pub length_from : (i n : ℕ) → length (from i n) ≡ n
length_from i zero = refl
length_from i (suc n) = ap suc (length_from (suc i) n)

pub get_d_from : (i n a d : ℕ) → a < n → get_or (from i n) a d ≡ i + a
get_d_from i zero a d h = absurd (omega arith)
get_d_from i (suc n) zero d h = sym (add-zero i)
get_d_from i (suc n) (suc a) d h = get_d_from (suc i) n a d (omega arith) ∙ omega arith

pub length_tabulate : (n : ℕ) (f : ℕ → ℕ) → length (tabulate n f) ≡ n
length_tabulate n f = length-map (upto n) f ∙ length_from 0 n

pub length_identity : (n : ℕ) → length (identity n) ≡ n
length_identity n = length_from 0 n

pub length_after : (P Q : Table) → length (after P Q) ≡ length Q
unfolding after
length_after P Q = length-map Q (image P)

pub length_inverted : (P : Table) → length (inverted P) ≡ length P
unfolding inverted
length_inverted P = length_tabulate (length P) (λ a. place a P)

pub length_of_swaps : (n : ℕ) (π : Swaps) → length (of_swaps n π) ≡ n
unfolding of_swaps
length_of_swaps n π = length_tabulate n (act π)

pub length_swapped_after : (a b : ℕ) (P : Table) → length (swapped_after a b P) ≡ length P
unfolding swapped_after
length_swapped_after a b P = length-map P (swapped a b)

pub image_identity : (n a : ℕ) → image (identity n) a ≡ a
image_identity n a =
    by_lt a n (λ h. get_d_from 0 n a a h ∙ zero-add a) (λ h. image_out (identity n) a (rw length_identity h))

pub image_tabulate : (n : ℕ) (f : ℕ → ℕ) (a : ℕ) → a < n → image (tabulate n f) a ≡ f a
image_tabulate n f a h = image_map f (upto n) a (rw length_from h) ∙ ap f (image_identity n a)

pub image_after : (P Q : Table) (a : ℕ) → length P ≡ length Q → image (after P Q) a ≡ image P (image Q a)
unfolding after
image_after P Q a e =
    by_lt a (length Q) (image_map (image P) Q a) λ h.
    image_out (map (image P) Q) a (rw length-map h) ∙ sym (ap (image P) (image_out Q a h) ∙ image_out P a (omega arith))

pub image_of_swaps : (n : ℕ) (π : Swaps) (a : ℕ) → a < n → image (of_swaps n π) a ≡ act π a
unfolding of_swaps
image_of_swaps n π a h = image_tabulate n (act π) a h

pub image_of_swaps_within : (n : ℕ) (π : Swaps) (a : ℕ) → Within n π → image (of_swaps n π) a ≡ act π a
image_of_swaps_within n π a w =
    by_lt a n (image_of_swaps n π a) λ h.
    image_out (of_swaps n π) a (rw length_of_swaps h) ∙ sym (outside n π a w h)

pub image_swapped_after : (a b : ℕ) (P : Table) (c : ℕ) → c < length P → image (swapped_after a b P) c ≡ swapped a b (image P c)
unfolding swapped_after
image_swapped_after a b P c h = image_map (swapped a b) P c h

pub image_swapped_after_within : (a b : ℕ) (P : Table) (c : ℕ) → a < length P → b < length P → image (swapped_after a b P) c ≡ swapped a b (image P c)
image_swapped_after_within a b P c h k =
    by_lt c (length P) (image_swapped_after a b P c) λ l.
    image_out (swapped_after a b P) c (rw length_swapped_after l)
    ∙ sym (ap (swapped a b) (image_out P c l) ∙ swapped_other a b c (λ p. omega arith) (λ p. omega arith))

-- ---- the tables of lists of swaps compose as the lists do

pub after_of_swaps : (n : ℕ) (π ρ : Swaps) → Within n π → after (of_swaps n π) (of_swaps n ρ) ≡ of_swaps n (π ++ ρ)
after_of_swaps n π ρ w =
    let l : length (of_swaps n π) ≡ length (of_swaps n ρ) = simp length_of_swaps in
    table_extensional (after (of_swaps n π) (of_swaps n ρ)) (of_swaps n (π ++ ρ)) (simp (length_after, length_of_swaps)) λ a h.
    let k : a < n = simp (length_after, length_of_swaps) at h in
    image_after (of_swaps n π) (of_swaps n ρ) a l
    ∙ image_of_swaps_within n π (image (of_swaps n ρ) a) w
    ∙ ap (act π) (image_of_swaps n ρ a k)
    ∙ sym (image_of_swaps n (π ++ ρ) a k ∙ act_append π ρ a)

-- Alike lists have one table.
pub of_swaps_alike : (n : ℕ) (π ρ : Swaps) → ((a : ℕ) → a < n → act π a ≡ act ρ a) → of_swaps n π ≡ of_swaps n ρ
of_swaps_alike n π ρ h =
    table_extensional (of_swaps n π) (of_swaps n ρ) (simp length_of_swaps) λ a k.
    let m : a < n = rw length_of_swaps at k in image_of_swaps n π a m ∙ h a m ∙ sym (image_of_swaps n ρ a m)

pub of_swaps_none : (n : ℕ) → of_swaps n [] ≡ identity n
of_swaps_none n =
    table_extensional (of_swaps n []) (identity n) (simp (length_of_swaps, length_identity)) λ a k.
    let m : a < n = rw length_of_swaps at k in image_of_swaps n [] a m ∙ sym (image_identity n a)

-- Composing with the identity changes nothing.
pub identity_after : (n : ℕ) (P : Table) → length P ≡ n → after (identity n) P ≡ P
identity_after n P l =
    table_extensional (after (identity n) P) P (length_after (identity n) P) λ a h.
    image_after (identity n) P a (rw length_identity (sym l)) ∙ image_identity n (image P a)

-- ---- which tables permute

pub permutes_identity : (n : ℕ) → Permutes (identity n)
permutes_identity n = record {
  inside = λ a h. rw image_identity h;
  distinct = λ a b h k e. sym (image_identity n a) ∙ e ∙ image_identity n b;
}

pub permutes_of_swaps : (n : ℕ) (π : Swaps) → Within n π → Permutes (of_swaps n π)
permutes_of_swaps n π w = record {
  inside = λ a h. rw (image_of_swaps_within n π a w, length_of_swaps) (within n π a w (rw length_of_swaps at h));
  distinct = λ a b h k e. act_injective π (sym (image_of_swaps_within n π a w) ∙ e ∙ image_of_swaps_within n π b w);
}

pub permutes_after : (P Q : Table) → length P ≡ length Q → Permutes P → Permutes Q → Permutes (after P Q)
permutes_after P Q l p q = record {
  inside = λ a h.
      let k : a < length Q = rw length_after at h in
      rw (image_after P Q a l, length_after)
      (let m : image P (image Q a) < length P = p.inside (image Q a) (let i = q.inside a k in omega arith) in omega arith);
  distinct = λ a b h k e.
      let h' : a < length Q = rw length_after at h in
      let k' : b < length Q = rw length_after at k in
      q.distinct a b h' k'
      (p.distinct (image Q a) (image Q b) (let i = q.inside a h' in omega arith) (let i = q.inside b k' in omega arith)
      (sym (image_after P Q a l) ∙ e ∙ image_after P Q b l));
}

pub permutes_swapped_after : (a b : ℕ) (P : Table) → a < length P → b < length P → Permutes P → Permutes (swapped_after a b P)
permutes_swapped_after a b P h k p = record {
  inside =
      λ c i. rw (image_swapped_after_within a b P c h k, length_swapped_after) (swapped_within a b (image P c) h k (p.inside c (rw length_swapped_after at i)));
  distinct = λ c d i j e.
      p.distinct c d (rw length_swapped_after at i) (rw length_swapped_after at j)
      (act_injective ((a, b) ∷ []) (sym (image_swapped_after_within a b P c h k) ∙ e ∙ image_swapped_after_within a b P d h k));
}

-- ---- swaps for a table

-- What an unwinding keeps: the table is its swaps after what is left, and what was fixed stays fixed.
record Unwinds (P : Table) (u : Unwound) : Type 0 where
  same_length : length u.left ≡ length P
  permutes : Permutes u.left
  splits : (a : ℕ) → image P a ≡ act u.swaps (image u.left a)
  stays : (a : ℕ) → image P a ≡ a → image u.left a ≡ a
  among : Within (length P) u.swaps

unwinds_none : (P : Table) → Permutes P → Unwinds P (record { swaps = []; left = P })
unwinds_none P m = record { same_length = refl; permutes = m; splits = λ a. refl; stays = λ a e. e; among = tt }

-- One swap, of an atom that moves and its image.
module _ (P : Table) (p : ℕ) (m : Permutes P) (h : p < length P) where
  unwinds_stays : image P p ≢ p → (a : ℕ) → image P a ≡ a → image (swapped_after p (image P p) P) a ≡ a
  unwinds_stays n a e =
      let k = m.inside p h in
      by_lt a (length P) (λ l.
      image_swapped_after p (image P p) P a l ∙ ap (swapped p (image P p)) e
      ∙ swapped_other p (image P p) a (λ q. n (rw q at e)) (λ q. n (sym q ∙ m.distinct a p l h (e ∙ q)))) λ l.
      image_out (swapped_after p (image P p) P) a (rw length_swapped_after l)

  unwinds_before : image P p ≢ p → (u : Unwound) → Unwinds (swapped_after p (image P p) P) u → Unwinds P (before p (image P p) u)
  unwinds_before n u r =
      let k = m.inside p h in record {
        same_length = r.same_length ∙ length_swapped_after p (image P p) P;
        permutes = r.permutes;
        splits = λ a.
            sym (swapped_twice p (image P p) (image P a))
            ∙ ap (swapped p (image P p)) (sym (image_swapped_after_within p (image P p) P a h k) ∙ r.splits a);
        stays = λ a e. r.stays a (unwinds_stays n a e);
        among = ((h, k), rw length_swapped_after at r.among);
      }

  unwinds_fixed : image (swapped_after p (image P p) P) p ≡ p
  unwinds_fixed = image_swapped_after p (image P p) P p h ∙ swapped_right p (image P p)

unwinds : (k : ℕ) (P : Table) (p : ℕ) → Permutes P → p < length P → Unwinds P (unwind k P p)
unwinds zero P p m h = unwinds_none P m
unwinds (suc k) P p m h =
    by_eq (image P p) p (λ e. rw (eq-eqb (image P p) p e, unwind) (unwinds_none P m)) λ n.
    let i = m.inside p h in
    rw (ne_eqb (image P p) p n, unwind)
    (unwinds_before P p m h n (unwind k (swapped_after p (image P p) P) (image P p))
    (unwinds k (swapped_after p (image P p) P) (image P p) (permutes_swapped_after p (image P p) P h i m) (rw length_swapped_after i)))

-- With any fuel at all the atom itself gets fixed, which is all that the law of `swaps_of` needs.
unwind_fixes : (k : ℕ) (P : Table) (p : ℕ) → Permutes P → p < length P → p < k → image (unwind k P p).left p ≡ p
unwind_fixes zero P p m h f = absurd (omega arith)
unwind_fixes (suc k) P p m h f =
    by_eq (image P p) p (λ e. rw (eq-eqb (image P p) p e, unwind) e) λ n.
    let i = m.inside p h in
    rw (ne_eqb (image P p) p n, unwind)
    ((unwinds k (swapped_after p (image P p) P) (image P p) (permutes_swapped_after p (image P p) P h i m) (rw length_swapped_after i)).stays p
    (unwinds_fixed P p m h))

-- Every atom below n is still to come, or fixed.
abbrev Settled : List ℕ → Table → Type 0
Settled l P = (a : ℕ) → a < length P → (image P a ≢ a) → Memᴰ a l

record Cycles (l : List ℕ) (P : Table) : Type 0 where
  acts : (a : ℕ) → act (cycles l P) a ≡ image P a
  among : Within (length P) (cycles l P)

cycles_laws : (l : List ℕ) (P : Table) → Permutes P → ((a : ℕ) → Memᴰ a l → a < length P) → Settled l P → Cycles l P
cycles_laws [] P m i s = record {
  acts = λ a. by_lt a (length P) (λ h. by_eq (image P a) a (λ e. sym e) (λ n. absurd (elim (s a h n) [ ]))) (λ h. sym (image_out P a h));
  among = tt;
}
cycles_laws (p ∷ l) P m i s =
    let h = i p (Memᴰ.head refl) in
    let u : Unwound = unwind (length P) P p in
    let w : Unwinds P u = unwinds (length P) P p m h in
    let c : Cycles l u.left = cycles_laws l u.left w.permutes
    (λ a k. rw w.same_length (i a (Memᴰ.tail k)))
    (λ a k n. later a n (s a (rw w.same_length at k) (λ e. n (w.stays a e)))) in
    record {
      acts = λ a. act_append u.swaps (cycles l u.left) a ∙ ap (act u.swaps) (c.acts a) ∙ sym (w.splits a);
      among = within_append (length P) u.swaps (cycles l u.left) w.among (rw w.same_length at c.among);
    }
  where
    later : (a : ℕ) → image (unwind (length P) P p).left a ≢ a → Memᴰ a (p ∷ l) → Memᴰ a l
    later a n (Memᴰ.head e) =
        let h = i p (Memᴰ.head refl) in absurd (n (rw e (unwind_fixes (length P) P p m h h)))
    later a n (Memᴰ.tail k) = k

pub mem_from : (i n a : ℕ) → i ≤ a → a < i + n → Memᴰ a (from i n)
mem_from i zero a h k = absurd (omega arith)
mem_from i (suc n) a h k = by_eq a i Memᴰ.head (λ m. Memᴰ.tail (mem_from (suc i) n a (omega arith) (omega arith)))

pub mem_from_inside : (i n a : ℕ) → Memᴰ a (from i n) → (i ≤ a) × (a < i + n)
mem_from_inside i zero a k = elim k [ ]
mem_from_inside i (suc n) a (Memᴰ.head e) = (omega arith, omega arith)
mem_from_inside i (suc n) a (Memᴰ.tail k) = let (h, l) = mem_from_inside (suc i) n a k in (omega arith, omega arith)

pub mem_upto : (n a : ℕ) → (a < n) ↔ Memᴰ a (upto n)
mem_upto n a = (λ h. mem_from 0 n a (omega arith) (omega arith), λ k. let (h, l) = mem_from_inside 0 n a k in omega arith)

swaps_of_laws : (P : Table) → Permutes P → Cycles (upto (length P)) P
swaps_of_laws P m = cycles_laws (upto (length P)) P m (λ a. (mem_upto (length P) a).1) (λ a h n. (mem_upto (length P) a).0 h)

pub act_swaps_of : (P : Table) (a : ℕ) → Permutes P → act (swaps_of P) a ≡ image P a
unfolding swaps_of
act_swaps_of P a m = (swaps_of_laws P m).acts a

pub swaps_of_within : (P : Table) → Permutes P → Within (length P) (swaps_of P)
unfolding swaps_of
swaps_of_within P m = (swaps_of_laws P m).among

pub of_swaps_swaps_of : (P : Table) → Permutes P → of_swaps (length P) (swaps_of P) ≡ P
of_swaps_swaps_of P m =
    table_extensional (of_swaps (length P) (swaps_of P)) P (length_of_swaps (length P) (swaps_of P)) λ a h.
    image_of_swaps (length P) (swaps_of P) a (rw length_of_swaps at h) ∙ act_swaps_of P a m

-- The other way round the swaps may differ, but they send every atom alike.
pub swaps_of_of_swaps : (n : ℕ) (π : Swaps) (a : ℕ) → Within n π → act (swaps_of (of_swaps n π)) a ≡ act π a
swaps_of_of_swaps n π a w = act_swaps_of (of_swaps n π) a (permutes_of_swaps n π w) ∙ image_of_swaps_within n π a w

-- One cycle (0 5 2 4 3), with 1 fixed; two cycles (0 1) and (2 4 3).
pub cycle_form_one : swaps_of (5 ∷ 1 ∷ 4 ∷ 0 ∷ 3 ∷ 2 ∷ []) ≡ (0, 5) ∷ (5, 2) ∷ (2, 4) ∷ (4, 3) ∷ []
unfolding swaps_of swapped_after swapped
cycle_form_one = refl

pub cycle_form_two : swaps_of (1 ∷ 0 ∷ 4 ∷ 2 ∷ 3 ∷ []) ≡ (0, 1) ∷ (2, 4) ∷ (4, 3) ∷ []
unfolding swaps_of swapped_after swapped
cycle_form_two = refl

-- ---- inverting

-- A table that stays inside and sends no two atoms to one reaches every atom.
pub onto : (P : Table) → Permutes P → (b : ℕ) → b < length P → (a : ℕ) × ((a < length P) × (image P a ≡ b))
onto P m b h =
    let w : Within (length P) (swaps_of P) = swaps_of_within P m in (
      act (inverse (swaps_of P)) b,
      (
        within (length P) (inverse (swaps_of P)) b (within_inverse (length P) (swaps_of P) w) h,
        sym (act_swaps_of P (act (inverse (swaps_of P)) b) m) ∙ act_inverse (swaps_of P) b,
      ),
    )

-- An entry stands at its place, and nowhere before.
place_from_holds : (i : ℕ) (P : Table) (a d : ℕ) → a < length P
    → (k : ℕ) × ((place_from i (get_or P a d) P ≡ i + k) × ((k ≤ a) × (get_or P k d ≡ get_or P a d)))
place_from_holds i [] a d h = absurd (omega arith)
place_from_holds i (b ∷ P) zero d h = (0, (rw (eq-eqb b b refl) (omega arith), (omega arith, refl)))
place_from_holds i (b ∷ P) (suc a) d h =
    by_eq (get_or P a d) b (λ e. (0, (rw (eq-eqb (get_or P a d) b e) (omega arith), (omega arith, sym e)))) λ n.
    let (k, (e, (l, g))) = place_from_holds (suc i) P a d (omega arith) in
    (suc k, (rw (ne_eqb (get_or P a d) b n) (e ∙ omega arith), (omega arith, g)))

pub place_first : (P : Table) (a d : ℕ) → a < length P → place (get_or P a d) P ≤ a
place_first P a d h = let (k, (e, (l, g))) = place_from_holds 0 P a d h in omega arith

pub place_holds : (P : Table) (a d : ℕ) → a < length P → get_or P (place (get_or P a d) P) d ≡ get_or P a d
place_holds P a d h =
    let (k, (e, (l, g))) = place_from_holds 0 P a d h in rw (e, zero-add k) g

pub place_image : (P : Table) (a : ℕ) → Permutes P → a < length P → place (image P a) P ≡ a
place_image P a m h =
    let f : place (image P a) P ≤ a = place_first P a a h in
    let l : place (image P a) P < length P = omega arith in
    m.distinct (place (image P a) P) a l h (get_d_default P (place (image P a) P) (place (image P a) P) a l ∙ place_holds P a a h)

pub image_inverted_place : (P : Table) (a : ℕ) → a < length P → image (inverted P) a ≡ place a P
unfolding inverted
image_inverted_place P a h = image_tabulate (length P) (λ b. place b P) a h

-- The first place that holds an atom is the one that the inverse tells, and without one it tells 0.
pub first_place : (P : Table) (a i : ℕ) → a < length P → i < length P → image P i ≡ a → ((k : ℕ) → k < i → image P k ≢ a)
    → i ≡ image (inverted P) a
first_place P a i h l e n =
    let f : place a P ≤ i = rw e at (place_first P i i l) in
    let g : get_or P (place a P) i ≡ a = rw e at (place_holds P i i l) in
    by_eq (place a P) i
    (λ q. sym (image_inverted_place P a h ∙ q))
    (λ d. absurd (n (place a P) (omega arith) (get_d_default P (place a P) (place a P) i (omega arith) ∙ g)))

place_from_none : (i a d : ℕ) (P : Table) → ((k : ℕ) → k < length P → get_or P k d ≢ a) → place_from i a P ≡ 0
place_from_none i a d [] n = refl
place_from_none i a d (b ∷ P) n = rw (ne_eqb a b (λ q. n 0 (omega arith) (sym q))) (place_from_none (suc i) a d P (λ k h. n (suc k) (omega arith)))

pub no_place : (P : Table) (a : ℕ) → a < length P → ((k : ℕ) → k < length P → image P k ≢ a) → 0 ≡ image (inverted P) a
no_place P a h n = sym (image_inverted_place P a h ∙ place_from_none 0 a a P (λ k l e. n k l (get_d_default P k k a l ∙ e)))

pub inverted_image : (P : Table) (a : ℕ) → Permutes P → image (inverted P) (image P a) ≡ a
inverted_image P a m =
    by_lt a (length P) (λ h. image_inverted_place P (image P a) (m.inside a h) ∙ place_image P a m h) λ h.
    ap (image (inverted P)) (image_out P a h) ∙ image_out (inverted P) a (rw length_inverted h)

pub image_inverted : (P : Table) (a : ℕ) → Permutes P → image P (image (inverted P) a) ≡ a
image_inverted P a m =
    by_lt a (length P) (λ h.
    let (b, (l, e)) = onto P m a h in
    let f : image (inverted P) a ≡ b = ap (image (inverted P)) (sym e) ∙ inverted_image P b m in ap (image P) f ∙ e) λ h.
    ap (image P) (image_out (inverted P) a (rw length_inverted h)) ∙ image_out P a h

pub inverted_identity : (n : ℕ) → inverted (identity n) ≡ identity n
inverted_identity n =
    table_extensional (inverted (identity n)) (identity n) (length_inverted (identity n)) λ a h.
    rw image_identity at (inverted_image (identity n) a (permutes_identity n)) ∙ sym (image_identity n a)

pub permutes_inverted : (P : Table) → Permutes P → Permutes (inverted P)
permutes_inverted P m = record {
  inside = λ a h.
      let (b, (l, e)) = onto P m a (rw length_inverted at h) in
      rw (length_inverted, ← e, inverted_image P b m) l;
  distinct = λ a b h k e. sym (image_inverted P a m) ∙ ap (image P) e ∙ image_inverted P b m;
}

pub inverted_of_swaps : (n : ℕ) (π : Swaps) → Within n π → inverted (of_swaps n π) ≡ of_swaps n (inverse π)
inverted_of_swaps n π w =
    table_extensional (inverted (of_swaps n π)) (of_swaps n (inverse π)) (simp (length_inverted, length_of_swaps)) λ b h.
    let k : b < n = simp (length_inverted, length_of_swaps) at h in
    ap (image (inverted (of_swaps n π))) (sym (image_of_swaps_within n π (act (inverse π) b) w ∙ act_inverse π b))
    ∙ inverted_image (of_swaps n π) (act (inverse π) b) (permutes_of_swaps n π w)
    ∙ sym (image_of_swaps n (inverse π) b k)

-- Composing and inverting tables is composing and inverting the swaps that they stand for.
pub swaps_of_after : (P Q : Table) → length P ≡ length Q → Permutes P → Permutes Q → Alike (swaps_of (after P Q)) (swaps_of P ++ swaps_of Q)
swaps_of_after P Q l p q a =
    act_swaps_of (after P Q) a (permutes_after P Q l p q) ∙ image_after P Q a l
    ∙ sym (act_append (swaps_of P) (swaps_of Q) a ∙ act_swaps_of P (act (swaps_of Q) a) p ∙ ap (image P) (act_swaps_of Q a q))

pub swaps_of_inverted : (P : Table) → Permutes P → Alike (swaps_of (inverted P)) (inverse (swaps_of P))
swaps_of_inverted P m a =
    act_swaps_of (inverted P) a (permutes_inverted P m)
    ∙ ap (image (inverted P)) (sym (sym (act_swaps_of P (act (inverse (swaps_of P)) a) m) ∙ act_inverse (swaps_of P) a))
    ∙ inverted_image P (act (inverse (swaps_of P)) a) m

pub swaps_of_swapped_after : (a b : ℕ) (P : Table) → a < length P → b < length P → Permutes P → Alike (swaps_of (swapped_after a b P)) ((a, b) ∷ swaps_of P)
swaps_of_swapped_after a b P h k m c =
    act_swaps_of (swapped_after a b P) c (permutes_swapped_after a b P h k m)
    ∙ image_swapped_after_within a b P c h k ∙ ap (swapped a b) (sym (act_swaps_of P c m))

pub swaps_of_identity : (n : ℕ) → Alike (swaps_of (identity n)) []
swaps_of_identity n a = act_swaps_of (identity n) a (permutes_identity n) ∙ image_identity n a

-- ---- disagreeing

module _ (f : ℕ → Bool) (a b : ℕ) (l : List ℕ) (later : Memᴰ a (kept f l) ↔ (Memᴰ a l × (f a ≡ true))) where
  kept_inside : (c : Bool) → f b ≡ c → Memᴰ a (cond c (b ∷ kept f l) (kept f l)) → Memᴰ a (b ∷ l) × (f a ≡ true)
  kept_inside true e (Memᴰ.head p) = (Memᴰ.head p, ap f p ∙ e)
  kept_inside true e (Memᴰ.tail k) = let (h, t) = later.0 k in (Memᴰ.tail h, t)
  kept_inside false e k = let (h, t) = later.0 k in (Memᴰ.tail h, t)

  inside_kept : (c : Bool) → f b ≡ c → Memᴰ a (b ∷ l) → f a ≡ true → Memᴰ a (cond c (b ∷ kept f l) (kept f l))
  inside_kept true e (Memᴰ.head p) t = Memᴰ.head p
  inside_kept true e (Memᴰ.tail k) t = Memᴰ.tail (later.1 (k, t))
  inside_kept false e (Memᴰ.head p) t = absurd (true≢false (sym t ∙ ap f p ∙ e))
  inside_kept false e (Memᴰ.tail k) t = later.1 (k, t)

mem_kept : (f : ℕ → Bool) (l : List ℕ) (a : ℕ) → Memᴰ a (kept f l) ↔ (Memᴰ a l × (f a ≡ true))
mem_kept f [] a = (λ k. absurd (elim k [ ]), λ k. absurd (elim k.0 [ ]))
mem_kept f (b ∷ l) a = (kept_inside f a b l (mem_kept f l a) (f b) refl, λ k. inside_kept f a b l (mem_kept f l a) (f b) refl k.0 k.1)

pub mem_disagreement : (P Q : Table) (a : ℕ) → Memᴰ a (disagreement P Q) ↔ ((a < length P) × (image P a ≢ image Q a))
unfolding disagreement
mem_disagreement P Q a = (
  λ k.
      let (h, t) = (mem_kept (λ b. not (eqb (image P b) (image Q b))) (upto (length P)) a).0 k in
      ((mem_upto (length P) a).1 h, eqb-false (image P a) (image Q a) (not-true (eqb (image P a) (image Q a)) t)),
  λ k. (mem_kept (λ b. not (eqb (image P b) (image Q b))) (upto (length P)) a).1
      ((mem_upto (length P) a).0 k.0, ap not (ne_eqb (image P a) (image Q a) k.1)),
)

pub disagreement_of_swaps : (n : ℕ) (π ρ : Swaps) (a : ℕ) → Within n π → Within n ρ → Memᴰ a (disagreement (of_swaps n π) (of_swaps n ρ)) ↔ Disagree π ρ a
disagreement_of_swaps n π ρ a v w = (
  λ k e. ((mem_disagreement (of_swaps n π) (of_swaps n ρ) a).0 k).1 (image_of_swaps_within n π a v ∙ e ∙ sym (image_of_swaps_within n ρ a w)),
  λ d. (mem_disagreement (of_swaps n π) (of_swaps n ρ) a).1 (
    by_lt a n (λ h. rw length_of_swaps h) (λ h. absurd (d (outside n π a v h ∙ sym (outside n ρ a w h)))),
    λ e. d (sym (image_of_swaps_within n π a v) ∙ e ∙ image_of_swaps_within n ρ a w),
  ),
)

-- Document 01's example as tables, with a, b, c for 0, 1, 2: (a c)(a b) is 1 2 0, and disagrees with (b c) on exactly a and c.
pub table_example : of_swaps 3 ((0, 2) ∷ (0, 1) ∷ []) ≡ 1 ∷ 2 ∷ 0 ∷ []
unfolding of_swaps swapped
table_example = refl

pub disagreement_example : disagreement (of_swaps 3 ((0, 2) ∷ (0, 1) ∷ [])) (of_swaps 3 ((1, 2) ∷ [])) ≡ 0 ∷ 2 ∷ []
unfolding disagreement of_swaps swapped
disagreement_example = refl
