-- The laws of the store: what it holds of a table, and how a loop fills it.
use Prim.Native.Nat.{ℕ, zero, suc, ◌+◌, ◌-◌, ◌≤◌, ◌<◌}
use native.Mathlib.Nat.{add-zero, add-suc, suc-add, zero-add}
use native.Mathlib.Numerals.{add-one}
use native.Mathlib.Omega.{arith}
use mathlib.Core.Path.{◌≡◌, refl, sym, ◌∙◌, ap, subst}
use mathlib.Core.Logic.{◌≢◌}
use mathlib.Core.Bool.{Bool, true, false, cond, not, ◌||◌, true≢false}
use mathlib.Core.List.{List, [], ◌∷◌, ◌++◌, map, map-append, map-id, append_assoc, append-nil, Memᴰ}
use lib.ListN.{length, get_or, take, drop, set, length-append, length-take, length-drop, get_or-append, length-map, length-set}
use lib.ListN.{drop_of_length-le}
use lib.Seq.{take_at, drop_at, set_at, set-append_left, append_snoc, length-take-le, get_or-take, get_or-set_same, get_or-set_other}
use lib.Seq.{drop-cons, take-suc, get_or_at}
use lib.Dec.{eqb}
use borrow.Author.Tests.{eq-eqb, ne_eqb, eqb-true, not-false}
use Rattle.permutation.specs.Swaps.{Swaps, swapped, act, Within, swaps_in}
use Rattle.permutation.specs.Table.{Table, image, from, upto, tabulate, identity, after, place_from, inverted, of_swaps, swapped_after, kept}
use Rattle.permutation.specs.Table.{disagreement}
use Rattle.permutation.specs.Store.{table, padded, of_table, disagree_at}
use Rattle.permutation.specs.declared.Permutation.{Permutation}
use Rattle.sets.specs.Bits.{member, inserted, members_from, members, of_list, among}
use Rattle.sets.proofs.Bits.{member_past, of_list_append, of_list_lt, member_of_list}
use Rattle.names.proofs.Equal.{by_eq, by_lt}
use Rattle.permutation.proofs.Swaps.{act_append, swapped_left, swapped_right, swapped_other}
use Rattle.permutation.proofs.Table.{image_out, mem_disagreement, table_extensional, get_d_default, image_map, image_tabulate, length_from}
use Rattle.permutation.proofs.Table.{length_tabulate, length_after, length_inverted, length_swapped_after, length_of_swaps, image_of_swaps}
use Rattle.permutation.proofs.Table.{of_swaps_none, length_identity, image_identity}

-- ---- table and store

pub length_table : (n : ℕ) (p : Permutation) → n ≤ length p.images → length (table n p) ≡ n
unfolding table
length_table n p h = length-take-le n p.images h

pub image_table : (n : ℕ) (p : Permutation) (a : ℕ) → a < n → n ≤ length p.images → image (table n p) a ≡ get_or p.images a 0
unfolding table
image_table n p a h k = get_or-take n p.images a a h ∙ get_d_default p.images a a 0 (omega arith)

pub image_table_out : (n : ℕ) (p : Permutation) (a : ℕ) → n ≤ a → image (table n p) a ≡ a
unfolding table
image_table_out n p a h = image_out (take n p.images) a (rw length-take (omega arith))

-- What is put into the store is what is read back.
pub table_of_table : (n : ℕ) (P : Table) → length P ≡ n → table n (of_table P) ≡ P
unfolding table of_table padded
table_of_table n P l = take_at P (drop (length P) (identity 32)) n l

pub table_after : (n : ℕ) (P Q : Table) → length Q ≡ n → table n (of_table (after P Q)) ≡ after P Q
table_after n P Q l = table_of_table n (after P Q) (length_after P Q ∙ l)

pub table_inverted : (n : ℕ) (P : Table) → length P ≡ n → table n (of_table (inverted P)) ≡ inverted P
table_inverted n P l = table_of_table n (inverted P) (length_inverted P ∙ l)

pub table_of_swaps : (n : ℕ) (π : Swaps) → table n (of_table (of_swaps n π)) ≡ of_swaps n π
table_of_swaps n π = table_of_table n (of_swaps n π) (length_of_swaps n π)

pub table_swapped_after : (n a b : ℕ) (P : Table) → length P ≡ n → table n (of_table (swapped_after a b P)) ≡ swapped_after a b P
table_swapped_after n a b P l = table_of_table n (swapped_after a b P) (length_swapped_after a b P ∙ l)

-- A permutation is the table that its store holds.
pub stored : (p : Permutation) (P : Table) → p.images ≡ padded P → p ≡ of_table P
unfolding of_table
stored p P e = ap (λ (l : List ℕ). record { images = l }) e

-- ---- filling the store from the front

from_suc : (i n : ℕ) → from i (suc n) ≡ from i n ++ ((i + n) ∷ [])
from_suc i zero = rw add-zero
from_suc i (suc n) = ap (λ (l : List ℕ). i ∷ l) (from_suc (suc i) n ∙ rw (suc-add, add-suc))

from_append : (i n m : ℕ) → from i (n + m) ≡ from i n ++ from (i + n) m
from_append i zero m = rw (zero-add m, add-zero i)
from_append i (suc n) m = rw (suc-add n m) (ap (λ (l : List ℕ). i ∷ l) (from_append (suc i) n m ∙ rw (suc-add i n, add-suc i n)))

-- The identity of however many atoms is one store.
pub identity_stored : (n : ℕ) → n ≤ 32 → identity 32 ≡ padded (identity n)
unfolding padded
identity_stored n h =
    let e : 32 ≡ n + (32 - n) = omega arith in
    let rest = from (0 + n) (32 - n) in
    let cut : identity 32 ≡ identity n ++ rest = ap identity e ∙ from_append 0 n (32 - n) in
    cut ∙ ap (λ (t : Table). identity n ++ t) (sym (ap (drop (length (identity n))) cut ∙ drop_at (identity n) rest (length (identity n)) refl))

pub tabulate_suc : (n : ℕ) (f : ℕ → ℕ) → tabulate (suc n) f ≡ tabulate n f ++ (f n ∷ [])
tabulate_suc n f = ap (map f) (from_suc 0 n) ∙ rw (map-append, zero-add)

pub fill_none : (f : ℕ → ℕ) → identity 32 ≡ padded (tabulate 0 f)
unfolding padded
fill_none f = refl

-- One place more is filled, over whatever was in store.
pub fill_at : (P e : Table) (i v : ℕ) → length P ≡ i → i < length e → set (P ++ drop i e) i v ≡ (P ++ (v ∷ [])) ++ drop (suc i) e
fill_at P e i v l h =
    ap (λ (t : Table). set (P ++ t) i v) (drop-cons e i 0 h) ∙ set_at P (get_or e i 0) (drop (suc i) e) v i l ∙ sym (append_snoc P v (drop (suc i) e))

fill_end : (P : Table) (i v : ℕ) → length P ≡ i → i < 32 → set (padded P) i v ≡ padded (P ++ (v ∷ []))
unfolding padded
fill_end P i v l h =
    let m : length (P ++ (v ∷ [])) ≡ suc i = length-append P (v ∷ []) ∙ omega arith in
    rw (l, m) (fill_at P (identity 32) i v l h)

pub fill_more : (i : ℕ) (f : ℕ → ℕ) (v : ℕ) → i < 32 → v ≡ f i → set (padded (tabulate i f)) i v ≡ padded (tabulate (i + 1) f)
fill_more i f v h e =
    fill_end (tabulate i f) i v (length_tabulate i f) h
    ∙ ap padded (ap (λ (x : ℕ). tabulate i f ++ (x ∷ [])) e ∙ sym (tabulate_suc i f) ∙ ap (λ (k : ℕ). tabulate k f) (sym (add-one i)))

-- ---- a swap, from the front

-- Images of which the first i have been swapped.
abbrev pub swapped_below : ℕ → ℕ → ℕ → List ℕ → List ℕ
swapped_below a b i row = map (swapped a b) (take i row) ++ drop i row

module _ (a b : ℕ) (row : List ℕ) (i : ℕ) where
  module _ (h : i ≤ length row) where
    length_front : length (map (swapped a b) (take i row)) ≡ i
    length_front = length-map (take i row) (swapped a b) ∙ length-take-le i row h

    pub length_swapped_below : length (swapped_below a b i row) ≡ length row
    length_swapped_below = length-append (map (swapped a b) (take i row)) (drop i row) ∙ rw (length_front, length-drop) (omega arith)

  module _ (h : i < length row) where
    pub swapped_next : get_or (swapped_below a b i row) i 0 ≡ get_or row i 0
    swapped_next =
        let front = map (swapped a b) (take i row) in
        ap (λ (rest : List ℕ). get_or (front ++ rest) i 0) (drop-cons row i 0 h)
        ∙ get_or_at front (get_or row i 0) (drop (suc i) row) 0 i (length_front (omega arith))

    pub swapped_more : (v : ℕ) → v ≡ swapped a b (get_or row i 0) → set (swapped_below a b i row) i v ≡ swapped_below a b (i + 1) row
    swapped_more v e =
        let front = map (swapped a b) (take i row) in
        let longer : map (swapped a b) (take (suc i) row) ≡ front ++ (v ∷ []) =
        ap (map (swapped a b)) (take-suc row i 0 h) ∙ map-append (swapped a b) (take i row) (get_or row i 0 ∷ []) ∙ rw e in
        fill_at front row i v (length_front (omega arith)) h
        ∙ ap (λ (l : List ℕ). l ++ drop (suc i) row) (sym longer)
        ∙ ap (λ (k : ℕ). swapped_below a b k row) (sym (add-one i))

-- ---- the definitions as tabulated functions

pub map_tabulate : (f : ℕ → ℕ) (P : Table) (n : ℕ) → length P ≡ n → map f P ≡ tabulate n (λ a. f (image P a))
map_tabulate f P n l =
    table_extensional (map f P) (tabulate n (λ a. f (image P a))) (simp (length-map, length_from) l) λ a h.
    let k : a < length P = rw length-map at h in image_map f P a k ∙ sym (image_tabulate n (λ b. f (image P b)) a (omega arith))

pub identity_tabulate : (n : ℕ) → identity n ≡ tabulate n (λ a. a)
identity_tabulate n = sym (map-id (upto n))

pub after_tabulate : (P Q : Table) (n : ℕ) → length Q ≡ n → after P Q ≡ tabulate n (λ a. image P (image Q a))
unfolding after
after_tabulate P Q n l = map_tabulate (image P) Q n l

pub swapped_after_tabulate : (a b : ℕ) (P : Table) (n : ℕ) → length P ≡ n → swapped_after a b P ≡ tabulate n (λ c. swapped a b (image P c))
unfolding swapped_after
swapped_after_tabulate a b P n l = map_tabulate (swapped a b) P n l

pub tabulate_same : (n : ℕ) (f g : ℕ → ℕ) → ((a : ℕ) → a < n → f a ≡ g a) → tabulate n f ≡ tabulate n g
tabulate_same n f g h =
    table_extensional (tabulate n f) (tabulate n g) (length_tabulate n f ∙ sym (length_tabulate n g)) λ a k.
    let l : a < n = rw length_tabulate at k in image_tabulate n f a l ∙ h a l ∙ sym (image_tabulate n g a l)

-- ---- every atom at its own place

-- The first i atoms are their own images.
abbrev pub Stay : List ℕ → ℕ → Type 0
Stay images i = (a : ℕ) → a < i → get_or images a 0 ≡ a

pub stay_more : (images : List ℕ) (i : ℕ) (other : Bool) → (other ≡ false → Stay images i) → other || not (eqb (get_or images i 0) i) ≡ false
    → Stay images (i + 1)
stay_more images i true stay e a h = absurd (true≢false e)
stay_more images i false stay e a h =
    by_eq a i (λ p. rw p (eqb-true (get_or images i 0) i (not-false (eqb (get_or images i 0) i) e))) (λ n. stay refl a (omega arith))

pub stay_all : (p : Permutation) → length p.images ≡ 32 → Stay p.images 32 → (n : ℕ) → n ≤ 32 → table n p ≡ identity n
stay_all p l stay n few =
    let long : length (table n p) ≡ n = length_table n p (omega arith) in
    table_extensional (table n p) (identity n) (long ∙ sym (length_identity n)) λ a h.
    let k : a < n = rw long at h in
    image_table n p a k (omega arith) ∙ stay a (omega arith) ∙ sym (image_identity n a)

-- ---- storing at one place

set_tabulate : (n k v : ℕ) (f : ℕ → ℕ) → k < n → set (tabulate n f) k v ≡ tabulate n (λ a. cond (eqb a k) v (f a))
set_tabulate n k v f h =
    table_extensional (set (tabulate n f) k v) (tabulate n (λ a. cond (eqb a k) v (f a)))
    (length-set (tabulate n f) k v ∙ length_tabulate n f ∙ sym (length_tabulate n (λ a. cond (eqb a k) v (f a)))) λ a i.
    let j : a < n = rw (length-set, length_tabulate) at i in
    (by_eq a k (λ e. rw (eq-eqb a k e, e) (get_or-set_same (tabulate n f) k v k (rw length_tabulate h))) λ m.
    rw (ne_eqb a k m) (get_or-set_other (tabulate n f) k a v a m ∙ image_tabulate n f a j))
    ∙ sym (image_tabulate n (λ b. cond (eqb b k) v (f b)) a j)

pub store_at : (n k v : ℕ) (f : ℕ → ℕ) → k < n → set (padded (tabulate n f)) k v ≡ padded (tabulate n (λ a. cond (eqb a k) v (f a)))
unfolding padded
store_at n k v f h =
    set-append_left (tabulate n f) (drop (length (tabulate n f)) (identity 32)) k v (rw length_tabulate h)
    ∙ ap (λ (l : ℕ). set (tabulate n f) k v ++ drop l (identity 32)) (length_tabulate n f ∙ sym (length_tabulate n (λ a. cond (eqb a k) v (f a))))
    ∙ ap (λ (P : Table). P ++ drop (length (tabulate n (λ a. cond (eqb a k) v (f a)))) (identity 32)) (set_tabulate n k v f h)

-- ---- inverting: the loop runs down, so that the first place is stored last

abbrev pub inverted_from : ℕ → Table → ℕ → List ℕ
inverted_from n P i = padded (tabulate n (λ a. place_from i a (drop i P)))

pub invert_none : (n : ℕ) (P : Table) → length P ≡ n → padded (tabulate n (λ a. 0)) ≡ inverted_from n P n
invert_none n P l =
    ap (λ (t : Table). padded (tabulate n (λ a. place_from n a t))) (sym (drop_of_length-le P {i = n} (omega arith)))

module _ (n : ℕ) (P : Table) (l : length P ≡ n) (i : ℕ) (h : 0 < i) (k : i ≤ n) where
  invert_turn : (a : ℕ) → place_from (i - 1) a (drop (i - 1) P) ≡ cond (eqb a (image P (i - 1))) (i - 1) (place_from i a (drop i P))
  invert_turn a =
      let e : suc (i - 1) ≡ i = omega arith in
      ap (place_from (i - 1) a) (drop-cons P (i - 1) (i - 1) (omega arith))
      ∙ ap (λ (j : ℕ). cond (eqb a (image P (i - 1))) (i - 1) (place_from j a (drop j P))) e

  pub invert_store : image P (i - 1) < n → set (inverted_from n P i) (image P (i - 1)) (i - 1) ≡ inverted_from n P (i - 1)
  invert_store m =
      store_at n (image P (i - 1)) (i - 1) (λ a. place_from i a (drop i P)) m
      ∙ ap padded (sym
      (tabulate_same n (λ a. place_from (i - 1) a (drop (i - 1) P)) (λ a. cond (eqb a (image P (i - 1))) (i - 1) (place_from i a (drop i P)))
      (λ a j. invert_turn a)))

  pub invert_skip : n ≤ image P (i - 1) → inverted_from n P i ≡ inverted_from n P (i - 1)
  invert_skip m =
      ap padded (tabulate_same n (λ a. place_from i a (drop i P)) (λ a. place_from (i - 1) a (drop (i - 1) P)) λ a j.
      sym (invert_turn a ∙ rw (ne_eqb a (image P (i - 1)) (λ e. omega arith))))

pub invert_all : (n : ℕ) (P : Table) → length P ≡ n → inverted_from n P 0 ≡ padded (inverted P)
unfolding inverted
invert_all n P l = rw l

-- ---- a list of swaps from the left: one more swap on the right exchanges two images

get_d_padded : (P : Table) (a : ℕ) → a < length P → get_or (padded P) a 0 ≡ image P a
unfolding padded
get_d_padded P a h = get_or-append P (drop (length P) (identity 32)) 0 a h ∙ get_d_default P a 0 a h

exchanged : (n : ℕ) (π : Swaps) (a b : ℕ) → a < n → b < n → set (set (padded (of_swaps n π)) a (act π b)) b (act π a) ≡ padded (of_swaps n (π ++ ((a, b) ∷ [])))
unfolding of_swaps
exchanged n π a b h k =
    ap (λ (l : List ℕ). set l b (act π a)) (store_at n a (act π b) (act π) h)
    ∙ store_at n b (act π a) (λ c. cond (eqb c a) (act π b) (act π c)) k
    ∙ ap padded (tabulate_same n (λ c. cond (eqb c b) (act π a) (cond (eqb c a) (act π b) (act π c))) (act (π ++ ((a, b) ∷ []))) λ c m.
    by_eq c b (λ e. rw (eq-eqb c b e, act_append π ((a, b) ∷ []) c, e, swapped_right)) λ x.
    by_eq c a (λ e. rw (ne_eqb c b x, eq-eqb c a e, act_append π ((a, b) ∷ []) c, e, swapped_left)) λ y.
    rw (ne_eqb c b x, ne_eqb c a y, act_append π ((a, b) ∷ []) c, swapped_other a b c y x))

-- Some bytes are left to read: the store holds the swaps before them, and those in them are swaps of the n atoms too.
pub record Passed (n : ℕ) (s left r : List ℕ) : Type 0 where
  pub done : Swaps
  pub all : done ++ swaps_in left ≡ swaps_in s
  pub within : Within n (swaps_in left)
  pub held : r ≡ padded (of_swaps n done)

pub passed_none : (n : ℕ) (s : List ℕ) → Within n (swaps_in s) → Passed n s s (padded (identity n))
passed_none n s w = record { done = []; all = refl; within = w; held = ap padded (sym (of_swaps_none n)) }

two_of : (x : List ℕ) → length x ≡ 2 → x ≡ get_or x 0 0 ∷ get_or x 1 0 ∷ []
two_of [] h = absurd (omega arith)
two_of (a ∷ []) h = absurd (omega arith)
two_of (a ∷ b ∷ []) h = refl
two_of (a ∷ b ∷ c ∷ x) h = absurd (omega arith)

pub passed_next : (n : ℕ) (s x : List ℕ) {left more r : List ℕ} → Passed n s left r → left ≡ x ++ more → length x ≡ 2
    → Passed n s (get_or x 0 0 ∷ get_or x 1 0 ∷ more) r
passed_next n s x {more = more} {r = r} d e h = subst (λ (l : List ℕ). Passed n s l r) (e ∙ ap (λ (l : List ℕ). l ++ more) (two_of x h)) d

module _ (n : ℕ) (s : List ℕ) (a b : ℕ) (more r : List ℕ) (d : Passed n s (a ∷ b ∷ more) r) where
  passed_left : a < n
  passed_left = d.within.0.0

  passed_right : b < n
  passed_right = d.within.0.1

  passed_image : (c : ℕ) → c < n → get_or r c 0 ≡ act d.done c
  passed_image c k = rw d.held (get_d_padded (of_swaps n d.done) c (rw length_of_swaps k) ∙ image_of_swaps n d.done c k)

  pub passed_more : Passed n s more (set (set r a (get_or r b 0)) b (get_or r a 0))
  passed_more =
      record {
        done = d.done ++ ((a, b) ∷ []);
        all = append_assoc d.done ((a, b) ∷ []) (swaps_in more) ∙ d.all;
        within = d.within.1;
        held = rw (passed_image a passed_left, passed_image b passed_right, d.held) (exchanged n d.done a b passed_left passed_right);
      }

swaps_in_none : (s : List ℕ) → length s ≤ 1 → swaps_in s ≡ []
swaps_in_none [] h = refl
swaps_in_none (a ∷ []) h = refl
swaps_in_none (a ∷ b ∷ s) h = absurd (omega arith)

pub passed_all : (n : ℕ) (s left r : List ℕ) → Passed n s left r → length left ≤ 1 → r ≡ padded (of_swaps n (swaps_in s))
passed_all n s left r d h =
    d.held ∙ ap (λ (π : Swaps). padded (of_swaps n π)) (sym (append-nil d.done) ∙ ap (λ (π : Swaps). d.done ++ π) (sym (swaps_in_none left h)) ∙ d.all)

-- ---- the disagreement set

kept_append : (f : ℕ → Bool) (l m : List ℕ) → kept f (l ++ m) ≡ kept f l ++ kept f m
kept_append f [] m = refl
kept_append f (a ∷ l) m = go (kept_append f l m) (f a)
  where
    go : kept f (l ++ m) ≡ kept f l ++ kept f m → (c : Bool) → cond c (a ∷ kept f (l ++ m)) (kept f (l ++ m)) ≡ cond c (a ∷ kept f l) (kept f l) ++ kept f m
    go e true = ap (λ (k : List ℕ). a ∷ k) e
    go e false = e

kept_end : (f : ℕ → Bool) (i : ℕ) → kept f (upto (i + 1)) ≡ kept f (upto i) ++ kept f (i ∷ [])
kept_end f i =
    ap (λ (k : ℕ). kept f (upto k)) (add-one i)
    ∙ ap (kept f) (from_suc 0 i ∙ ap (λ (a : ℕ). upto i ++ (a ∷ [])) (zero-add i))
    ∙ kept_append f (upto i) (i ∷ [])

-- The disagreeing atoms below i, as a set.
abbrev pub disagreement_below : ℕ → Permutation → Permutation → ℕ → ℕ
disagreement_below n p q i = of_list 32 (kept (disagree_at (table n p) (table n q)) (upto i))

module _ (n : ℕ) (p q : Permutation) (i : ℕ) (h : i < n) (k : n ≤ length p.images) (l : n ≤ length q.images) where
  pub disagreement_more : get_or p.images i 0 ≢ get_or q.images i 0 → inserted 32 (disagreement_below n p q i) i ≡ disagreement_below n p q (i + 1)
  disagreement_more m =
      let f : ℕ → Bool = disagree_at (table n p) (table n q) in
      let e : f i ≡ true = rw (image_table n p i h k, image_table n q i h l, ne_eqb (get_or p.images i 0) (get_or q.images i 0) m) in
      sym (ap (of_list 32) (kept_end f i ∙ ap (λ (c : Bool). kept f (upto i) ++ cond c (i ∷ []) []) e) ∙ of_list_append 32 (kept f (upto i)) i)

  pub disagreement_skip : get_or p.images i 0 ≡ get_or q.images i 0 → disagreement_below n p q i ≡ disagreement_below n p q (i + 1)
  disagreement_skip m =
      let f : ℕ → Bool = disagree_at (table n p) (table n q) in
      let e : f i ≡ false = rw (image_table n p i h k, image_table n q i h l, eq-eqb (get_or p.images i 0) (get_or q.images i 0) m) in
      sym (ap (of_list 32) (kept_end f i ∙ ap (λ (c : Bool). kept f (upto i) ++ cond c (i ∷ []) []) e ∙ append-nil (kept f (upto i))))

pub disagreement_all : (n : ℕ) (p q : Permutation) → n ≤ length p.images → disagreement_below n p q n ≡ of_list 32 (disagreement (table n p) (table n q))
unfolding disagreement
disagreement_all n p q k = rw (length_table n p k)

-- ---- the members of the disagreement set, from the lowest up, are the disagreement

kept_same : (f g : ℕ → Bool) (i n : ℕ) → ((a : ℕ) → i ≤ a → a < i + n → f a ≡ g a) → kept f (from i n) ≡ kept g (from i n)
kept_same f g i zero h = refl
kept_same f g i (suc n) h =
    let e : kept f (from (suc i) n) ≡ kept g (from (suc i) n) = kept_same f g (suc i) n (λ a l k. h a (omega arith) (omega arith)) in
    rw (h i (omega arith) (omega arith), e)

kept_nothing : (f : ℕ → Bool) (i n : ℕ) → ((a : ℕ) → i ≤ a → a < i + n → f a ≡ false) → kept f (from i n) ≡ []
kept_nothing f i zero h = refl
kept_nothing f i (suc n) h = rw (h i (omega arith) (omega arith)) (kept_nothing f (suc i) n (λ a l k. h a (omega arith) (omega arith)))

members_kept : (i n w : ℕ) → members_from i n w ≡ kept (member w) (from i n)
members_kept i zero w = refl
members_kept i (suc n) w = rw (members_kept (suc i) n w)

among_mem : (a : ℕ) (l : List ℕ) → Memᴰ a l → among a l ≡ true
among_mem a [] k = elim k [ ]
among_mem a (b ∷ l) (Memᴰ.head e) = rw (eq-eqb a b e)
among_mem a (b ∷ l) (Memᴰ.tail k) = by_eq a b (λ e. rw (eq-eqb a b e)) (λ n. rw (ne_eqb a b n) (among_mem a l k))

among_no_mem : (a : ℕ) (l : List ℕ) → (Memᴰ a l → ⊥) → among a l ≡ false
among_no_mem a [] h = refl
among_no_mem a (b ∷ l) h = rw (ne_eqb a b (λ e. h (Memᴰ.head e))) (among_no_mem a l (λ k. h (Memᴰ.tail k)))

-- What `has` says of the disagreement set.
pub member_disagreement : (P Q : Table) (a : ℕ) → a < length P → length P ≤ 32 → member (of_list 32 (disagreement P Q)) a ≡ disagree_at P Q a
member_disagreement P Q a h k =
    member_of_list 32 (disagreement P Q) a (omega arith)
    ∙ by_eq (image P a) (image Q a) (λ e.
    among_no_mem a (disagreement P Q) (λ m. ((mem_disagreement P Q a).0 m).1 e) ∙ sym (rw (eq-eqb (image P a) (image Q a) e))) λ n.
    among_mem a (disagreement P Q) ((mem_disagreement P Q a).1 (h, n)) ∙ sym (rw (ne_eqb (image P a) (image Q a) n))

pub member_disagreement_out : (P Q : Table) (a : ℕ) → length P ≤ a → member (of_list 32 (disagreement P Q)) a ≡ false
member_disagreement_out P Q a h =
    by_lt a 32 (λ k. member_of_list 32 (disagreement P Q) a k
    ∙ among_no_mem a (disagreement P Q) (λ m. let l = ((mem_disagreement P Q a).0 m).0 in omega arith)) λ k.
    member_past 32 (of_list 32 (disagreement P Q)) a (of_list_lt 32 (disagreement P Q)) k

disagreement_kept : (P Q : Table) → kept (disagree_at P Q) (upto (length P)) ≡ disagreement P Q
unfolding disagreement
disagreement_kept P Q = refl

pub members_disagreement : (P Q : Table) → length P ≤ 32 → members 32 (of_list 32 (disagreement P Q)) ≡ disagreement P Q
unfolding members
members_disagreement P Q h =
    let n : ℕ = length P in
    let w : ℕ = of_list 32 (disagreement P Q) in
    let e : n + (32 - n) ≡ 32 = omega arith in
    members_kept 0 32 w
    ∙ ap (λ (k : ℕ). kept (member w) (from 0 k)) (sym e)
    ∙ ap (kept (member w)) (from_append 0 n (32 - n))
    ∙ kept_append (member w) (from 0 n) (from (0 + n) (32 - n))
    ∙ ap (λ (l : List ℕ). kept (member w) (from 0 n) ++ l) (kept_nothing (member w) (0 + n) (32 - n) (λ a l k. member_disagreement_out P Q a (omega arith)))
    ∙ append-nil (kept (member w) (from 0 n))
    ∙ kept_same (member w) (disagree_at P Q) 0 n (λ a l k. member_disagreement P Q a (omega arith) h)
    ∙ disagreement_kept P Q
