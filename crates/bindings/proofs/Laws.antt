-- The laws of the bindings in tables: a binding added after k others is the definition's last, those before it stay, the set of bound variables goes
-- on belonging to the order, there is room for every unbound variable, and what the code finds of a variable is the definition's value.
use Prim.Native.Nat.{ℕ, zero, suc, ◌+◌, ◌≤◌, ◌<◌}
use native.Mathlib.Numerals.{add-one}
use native.Mathlib.Omega.{arith}
use mathlib.Core.Path.{◌≡◌, refl, sym, ◌∙◌, ap, ap₂}
use mathlib.Core.Logic.{◌≢◌}
use mathlib.Core.Bool.{Bool, true, false, cond, ◌||◌}
use mathlib.Core.List.{List, [], ◌∷◌, ◌++◌, map, map-append}
use mathlib.Core.Option.{none, some}
use lib.ListN.{length, get_or, take, drop, set, length-map, length-set}
use lib.Seq.{get_or-set_same, get_or-set_other, take-suc-set, length-take-le, get_or-take}
use lib.Dec.{eqb}
use borrow.Author.Tests.{eq-eqb, ne_eqb}
use Rattle.permutation.specs.declared.Permutation.{Permutation}
use Rattle.permutation.specs.Table.{Table, image, tabulate, identity}
use Rattle.permutation.specs.Store.{table}
use Rattle.names.proofs.Equal.{by_eq, by_lt}
use Rattle.permutation.proofs.Table.{image_out, table_extensional, length_tabulate, image_tabulate, image_identity}
use Rattle.permutation.proofs.Store.{length_table, image_table_out, tabulate_same, identity_tabulate}
use Rattle.sets.specs.Bits.{member, inserted, among}
use Rattle.sets.proofs.Bits.{or_true, member_empty, member_inserted, inserted_lt, count_empty, count_le, count_inserted, member_within}
use Rattle.rows.specs.Rows.{images_in, row_kept, row_held}
use Rattle.rows.proofs.Rows.{images_in_kept, table_held}
use Rattle.run.specs.Meaning.{Binding}
use Rattle.run.specs.Run.{value_of}
use Rattle.bindings.specs.declared.Value.{Value}
use Rattle.bindings.specs.Bindings.{order_in, variable_at, node_of, made_by, images_of, Bindings, binding_tables, binding_at, bindings_of, Keeps, side_of}
use Rattle.bindings.specs.Bindings.{binding_of, put_in, with_binding, Added, found_at, value_in, LookedUp}
use Rattle.std.specs.Prelude.{Some, None}

-- ---- the set of bound variables

among_append : (X : ℕ) (l : List ℕ) (Y : ℕ) → among X (l ++ (Y ∷ [])) ≡ (eqb X Y || among X l)
among_append X [] Y = refl
among_append X (Z ∷ l) Y = ap (λ (b : Bool). eqb X Z || b) (among_append X l Y) ∙ go (eqb X Z) (eqb X Y)
  where
    go : (b c : Bool) → (b || (c || among X l)) ≡ (c || (b || among X l))
    go true true = refl
    go true false = refl
    go false true = refl
    go false false = refl

take_more : (order : List ℕ) (k X : ℕ) → k < length order → take (k + 1) (set order k X) ≡ take k order ++ (X ∷ [])
take_more order k X h = rw add-one (take-suc-set order k X h)

among_at : (l : List ℕ) (i : ℕ) → i < length l → among (get_or l i 0) l ≡ true
among_at [] i h = absurd (omega arith)
among_at (X ∷ l) zero h = rw (eq-eqb X X refl)
among_at (X ∷ l) (suc i) h = rw (among_at l i (omega arith)) (or_true (eqb (get_or l i 0) X))

-- Nothing is bound at the start.
pub keeps_none : (made : List (List ℕ)) → Keeps made 0 0
keeps_none made = record { holds = λ X. member_empty X; number = count_empty; within = omega arith; placed = omega arith }

module _ (made : List (List ℕ)) (k bound : ℕ) (h : Keeps made k bound) where
  pub keeps_few : k ≤ 64
  keeps_few = omega (arith, count_le 64 bound h.within, h.number)

  -- While a variable is not bound there is room for one more.
  pub keeps_room : (X : ℕ) → X < 64 → member bound X ≡ false → k < 64
  keeps_room X l m =
      let one_more = count_inserted 64 bound X h.within l m in
      let at_most_all = count_le 64 (inserted 64 bound X) (inserted_lt 64 bound X h.within) in
      omega (arith, one_more, at_most_all, h.number)

  keeps_more : (X : ℕ) → X < 64 → member bound X ≡ false → k < length (order_in made)
      → (after : List (List ℕ)) → order_in after ≡ set (order_in made) k X → Keeps after (k + 1) (inserted 64 bound X)
  keeps_more X l m s after e =
      let order_grows : take (k + 1) (order_in after) ≡ take k (order_in made) ++ (X ∷ []) = rw e (take_more (order_in made) k X s) in
      record {
        holds = λ Y. member_inserted 64 bound X Y l ∙ ap (λ (b : Bool). eqb Y X || b) (h.holds Y)
            ∙ sym (ap (among Y) order_grows ∙ among_append Y (take k (order_in made)) X);
        number = count_inserted 64 bound X h.within l m ∙ omega (arith, h.number);
        within = inserted_lt 64 bound X h.within;
        placed = rw (e, length-set) (omega arith);
      }

  -- Each variable of the order is bound, so it is one of the 64.
  keeps_bound : (i : ℕ) → i < k → member bound (variable_at made i) ≡ true
  keeps_bound i l =
      let stays : get_or (take k (order_in made)) i 0 ≡ variable_at made i = get_or-take k (order_in made) i 0 l in
      let short : i < length (take k (order_in made)) = rw (length-take-le k (order_in made) h.placed) l in
      h.holds (variable_at made i) ∙ ap (λ (X : ℕ). among X (take k (order_in made))) (sym stays) ∙ among_at (take k (order_in made)) i short

  pub keeps_variable : (i : ℕ) → i < k → variable_at made i < 64
  keeps_variable i l = member_within 64 bound (variable_at made i) h.within (keeps_bound i l)

-- ---- a value's images

-- The images of a row are those of the permutation that it keeps, atom by atom.
image_row : (A : ℕ) (row : List ℕ) (a : ℕ) → image (tabulate A (image (images_in A row))) a ≡ image (images_in A row) a
image_row A row a =
    let P = images_in A row in
    let past : A ≤ a → image P a ≡ a = λ l. ap (λ (Q : Table). image Q a) (sym (table_held A row)) ∙ image_table_out A (row_held row) a l in
    by_lt a A (image_tabulate A (image P) a) (λ l. image_out (tabulate A (image P)) a (rw (length_tabulate A (image P)) l) ∙ sym (past l))

-- Of a permutation with an image for each atom they are its table.
row_images : (A : ℕ) (p : Permutation) → A ≤ length p.images → tabulate A (image (table A p)) ≡ table A p
row_images A p l =
    let P = table A p in
    let all : length (tabulate A (image P)) ≡ A = length_tabulate A (image P) in
    table_extensional (tabulate A (image P)) P (all ∙ sym (length_table A p l)) (λ a k. image_tabulate A (image P) a (rw all at k))

pub length_images_of : (A : ℕ) (values : List (List ℕ)) (X : ℕ) → length (images_of A values X) ≡ A
unfolding images_of
length_images_of A values X = length_tabulate A (image (images_in A (get_or values X [])))

pub image_images_of : (A : ℕ) (values : List (List ℕ)) (X a : ℕ) → image (images_of A values X) a ≡ image (images_in A (get_or values X [])) a
unfolding images_of
image_images_of A values X = image_row A (get_or values X [])

pub images_of_plain : (A : ℕ) (values : List (List ℕ)) (X : ℕ) → images_in A (get_or values X []) ≡ identity A → images_of A values X ≡ identity A
unfolding images_of
images_of_plain A values X e =
    ap (λ (P : Table). tabulate A (image P)) e ∙ tabulate_same A (image (identity A)) (λ a. a) (λ a h. image_identity A a) ∙ sym (identity_tabulate A)

-- ---- the bindings as a list

drop_map : (f : ℕ → Binding) (l : List ℕ) (i : ℕ) → i < length l → drop i (map f l) ≡ f (get_or l i 0) ∷ drop (suc i) (map f l)
drop_map f [] i h = absurd (omega arith)
drop_map f (X ∷ l) zero h = refl
drop_map f (X ∷ l) (suc i) h = drop_map f l i (omega arith)

map_same : (f g : ℕ → Binding) (l : List ℕ) → ((X : ℕ) → among X l ≡ true → f X ≡ g X) → map f l ≡ map g l
map_same f g [] h = refl
map_same f g (X ∷ l) h =
    ap₂ (λ (x : Binding) (y : List Binding). x ∷ y) (h X (rw (eq-eqb X X refl))) (map_same f g l (λ Y a. h Y (rw a (or_true (eqb Y X)))))

-- The bindings are as many as were made, and each stands where it was made.
module _ (A : ℕ) (t : Bindings) (k bound : ℕ) (h : Keeps t.made k bound) where
  abbrev first : List ℕ
  first = take k (order_in t.made)

  first_length : length first ≡ k
  first_length = length-take-le k (order_in t.made) h.placed

  pub length_bindings_of : length (bindings_of A t k) ≡ k
  unfolding bindings_of
  length_bindings_of = length-map first (binding_at A t) ∙ first_length

  pub bindings_of_at : (i : ℕ) → i < k → drop i (bindings_of A t k) ≡ binding_at A t (variable_at t.made i) ∷ drop (i + 1) (bindings_of A t k)
  unfolding bindings_of
  bindings_of_at i l =
      rw add-one (drop_map (binding_at A t) first i (rw first_length l)
      ∙ ap (λ (X : ℕ). binding_at A t X ∷ drop (suc i) (map (binding_at A t) first)) (get_or-take k (order_in t.made) i 0 l))

-- ---- one more binding

module _ (column i v : ℕ) (made : List (List ℕ)) where
  column_written : column < length made → get_or (put_in column i v made) column [] ≡ set (get_or made column []) i v
  unfolding put_in
  column_written = get_or-set_same made column (set (get_or made column []) i v) []

  column_stays : (other : ℕ) → other ≢ column → get_or (put_in column i v made) other [] ≡ get_or made other []
  unfolding put_in
  column_stays other = get_or-set_other made column other (set (get_or made column []) i v) []

  length_written : length (put_in column i v made) ≡ length made
  unfolding put_in
  length_written = rw length-set

-- A column that has a place is one of the columns.
column_there : (made : List (List ℕ)) (column i : ℕ) → i < length (get_or made column []) → column < length made
column_there [] column i h = absurd (omega arith)
column_there (c ∷ made) zero i h = omega arith
column_there (c ∷ made) (suc column) i h = let there = column_there made column i h in omega arith

-- Each table has a place for one more binding.
pub record Room (k X : ℕ) (t : Bindings) : Type 0 where
  pub order : k < length (order_in t.made)
  pub node : X < length (get_or t.made 1 [])
  pub number : X < length (get_or t.made 2 [])
  pub row : X < length t.values

-- The columns' lengths as the code of `add` comes to know them: each where it is about to write it.
pub room : (k X : ℕ) (made : List (List ℕ)) (order nodes : List ℕ) (values : List (List ℕ)) → k < 64 → X < 64
    → length (get_or made 0 []) ≡ 64 → length (get_or (set made 0 order) 1 []) ≡ 64 → length (get_or (set (set made 0 order) 1 nodes) 2 []) ≡ 64
    → length values ≡ 64 → Room k X (binding_tables made values)
unfolding order_in
room k X made order nodes values k_few X_few o n m v =
    let n_stays : get_or (set made 0 order) 1 [] ≡ get_or made 1 [] = get_or-set_other made 0 1 order [] (λ e. omega arith) in
    let m_stays : get_or (set (set made 0 order) 1 nodes) 2 [] ≡ get_or made 2 [] =
    get_or-set_other (set made 0 order) 1 2 nodes [] (λ e. omega arith) ∙ get_or-set_other made 0 2 order [] (λ e. omega arith) in
    record {
      order = omega arith;
      node = let l : length (get_or made 1 []) ≡ 64 = rw n_stays at n in omega arith;
      number = let l : length (get_or made 2 []) ≡ 64 = rw m_stays at m in omega arith;
      row = omega arith;
    }

-- A binding that was added: at its variable it is read for any number of atoms, and every other variable's stays.
module _ (k X : ℕ) (v : Value) (number : ℕ) (t : Bindings) (r : Room k X t) (whole : length v.images.images ≡ 32) where
  abbrev after : Bindings
  after = with_binding k X v number t

  abbrev ordered : List (List ℕ)
  ordered = put_in 0 k X t.made

  abbrev rooted : List (List ℕ)
  rooted = put_in 1 X v.node.0 ordered

  order_after : order_in after.made ≡ set (order_in t.made) k X
  unfolding with_binding order_in
  order_after =
      column_stays 2 X number rooted 0 (λ e. omega arith)
      ∙ column_stays 1 X v.node.0 ordered 0 (λ e. omega arith)
      ∙ column_written 0 k X t.made (column_there t.made 0 k r.order)

  nodes_after : get_or after.made 1 [] ≡ set (get_or t.made 1 []) X v.node.0
  unfolding with_binding
  nodes_after =
      let there = column_there t.made 1 X r.node in
      column_stays 2 X number rooted 1 (λ e. omega arith)
      ∙ column_written 1 X v.node.0 ordered (rw length_written there)
      ∙ ap (λ (c : List ℕ). set c X v.node.0) (column_stays 0 k X t.made 1 (λ e. omega arith))

  numbers_after : get_or after.made 2 [] ≡ set (get_or t.made 2 []) X number
  unfolding with_binding
  numbers_after =
      let there = column_there t.made 2 X r.number in
      column_written 2 X number rooted (rw (length_written, length_written) there)
      ∙ ap (λ (c : List ℕ). set c X number)
      (column_stays 1 X v.node.0 ordered 2 (λ e. omega arith) ∙ column_stays 0 k X t.made 2 (λ e. omega arith))

  images_new : (A : ℕ) → A ≤ 32 → images_of A after.values X ≡ table A v.images
  unfolding with_binding images_of
  images_new A few =
      let row : images_in A (get_or after.values X []) ≡ table A v.images =
      ap (images_in A) (get_or-set_same t.values X (row_kept v.images) [] r.row) ∙ images_in_kept A v.images in
      ap (λ (P : Table). tabulate A (image P)) row ∙ row_images A v.images (omega arith)

  node_new : node_of after.made X ≡ v.node.0
  unfolding node_of
  node_new = rw nodes_after (get_or-set_same (get_or t.made 1 []) X v.node.0 0 r.node)

  number_new : made_by after.made X ≡ number
  unfolding made_by
  number_new = rw numbers_after (get_or-set_same (get_or t.made 2 []) X number 0 r.number)

  binding_at_new : (A : ℕ) → A ≤ 32 → binding_at A after X ≡ binding_of A X v number
  unfolding binding_at binding_of side_of
  binding_at_new A few = rw (images_new A few, node_new, number_new)

  module _ (Y : ℕ) (n : Y ≢ X) where
    images_other : (A : ℕ) → images_of A after.values Y ≡ images_of A t.values Y
    unfolding with_binding images_of
    images_other A = ap (λ (row : List ℕ). tabulate A (image (images_in A row))) (get_or-set_other t.values X Y (row_kept v.images) [] n)

    node_other : node_of after.made Y ≡ node_of t.made Y
    unfolding node_of
    node_other = rw nodes_after (get_or-set_other (get_or t.made 1 []) X Y v.node.0 0 n)

    number_other : made_by after.made Y ≡ made_by t.made Y
    unfolding made_by
    number_other = rw numbers_after (get_or-set_other (get_or t.made 2 []) X Y number 0 n)

    binding_at_other : (A : ℕ) → binding_at A after Y ≡ binding_at A t Y
    unfolding binding_at
    binding_at_other A = rw (images_other A, node_other, number_other)

  module _ (bound : ℕ) (h : Keeps t.made k bound) (u : member bound X ≡ false) where
    earlier : (Y : ℕ) → among Y (take k (order_in t.made)) ≡ true → Y ≢ X
    earlier Y a e =
        let z : true ≡ false = sym a ∙ sym (h.holds Y) ∙ ap (member bound) e ∙ u in
        let y : ◌≡◌ {A = ℕ} 0 1 = cc in omega arith

    bindings_of_added : (A : ℕ) → A ≤ 32 → bindings_of A after (k + 1) ≡ bindings_of A t k ++ (binding_of A X v number ∷ [])
    unfolding bindings_of
    bindings_of_added A few =
        let first = take k (order_in t.made) in
        ap (map (binding_at A after)) (ap (take (k + 1)) order_after ∙ take_more (order_in t.made) k X r.order)
        ∙ map-append (binding_at A after) first (X ∷ [])
        ∙ ap₂ (λ (x : List Binding) (y : Binding). x ++ (y ∷ []))
        (map_same (binding_at A after) (binding_at A t) first (λ Y a. binding_at_other Y (earlier Y a) A))
        (binding_at_new A few)

    -- What the code of `add` leaves.
    pub added : X < 64 → (end : Bindings) (w : ℕ) → end ≡ after → w ≡ inserted 64 bound X → Added t k bound X v number end w
    added x end w c e =
        record {
          content = c;
          set = e;
          bindings = λ A few. ap (λ (z : Bindings). bindings_of A z (k + 1)) c ∙ bindings_of_added A few;
          keeps = rw (c, e) (keeps_more t.made k bound h X x u r.order after.made order_after);
        }

-- ---- looking a variable up

value_of_at : (A : ℕ) (t : Bindings) (l : List ℕ) (X : ℕ) → value_of (map (binding_at A t) l) X ≡ cond (among X l) (some (binding_at A t X).value) none
unfolding binding_at
value_of_at A t [] X = refl
value_of_at A t (Y ∷ l) X =
    by_eq X Y (λ e. rw (eq-eqb X Y e, e)) (λ n. rw (ne_eqb X Y n) (value_of_at A t l X))

-- The definition's value of a variable, by the set of bound variables.
pub value_of_set : (A : ℕ) (t : Bindings) (k bound : ℕ) → Keeps t.made k bound → (X : ℕ)
    → value_of (bindings_of A t k) X ≡ cond (member bound X) (some (binding_at A t X).value) none
unfolding bindings_of
value_of_set A t k bound h X =
    value_of_at A t (take k (order_in t.made)) X ∙ ap (λ (b : Bool). cond b (some (binding_at A t X).value) none) (sym (h.holds X))

-- What the code of `look_up` makes, of a bound variable and of another.
module _ (t : Bindings) (bound X : ℕ) where
  abbrev value_here : Value
  value_here = record { images = row_held (get_or t.values X []); node = record { 0 = node_of t.made X } }

  found_bound : member bound X ≡ true → found_at t bound X ≡ Some value_here
  unfolding found_at
  found_bound m = rw m

  found_unbound : member bound X ≡ false → found_at t bound X ≡ None
  unfolding found_at
  found_unbound m = rw m

  pub looked_up_bound : (v : Value) → member bound X ≡ true → v ≡ value_here → length v.images.images ≡ 32 → LookedUp t bound X (Some v)
  unfolding binding_at value_in side_of images_of
  looked_up_bound v m e whole =
      let row = get_or t.values X [] in
      let whole_row : length (row_held row).images ≡ 32 = rw e at whole in
      let images : (A : ℕ) → A ≤ 32 → images_of A t.values X ≡ table A (row_held row) =
      λ A few. ap (λ (P : Table). tabulate A (image P)) (sym (table_held A row)) ∙ row_images A (row_held row) (omega arith) in
      record {
        content = rw e (sym (found_bound m));
        value = λ A few k h.
            value_of_set A t k bound h X ∙ rw (m, e) (ap (λ (P : Table). some (record { images = P; node = node_of t.made X })) (images A few));
      }

  pub looked_up_unbound : member bound X ≡ false → LookedUp t bound X None
  unfolding value_in
  looked_up_unbound m =
      record { content = sym (found_unbound m); value = λ A s k h. value_of_set A t k bound h X ∙ rw m }
