-- What is kept of a field says what the field says: the laws that the look-ups cite.
use Rattle.std.specs.Prelude.{Some, None}
use Prim.Native.Nat.{ℕ, zero, suc, ◌+◌, ◌*◌, ◌-◌, ◌/◌, ◌%◌, ◌≤◌, ◌<◌}
use native.Mathlib.Omega.{arith}
use mathlib.Core.Path.{◌≡◌, refl, sym, ◌∙◌, ap, subst}
use mathlib.Core.Bool.{Bool, true, false, cond}
use mathlib.Core.List.{List, [], ◌∷◌}
use lib.ListN.{length, take, drop, length-drop}
use lib.Seq.{drop-drop, take-nil}
use lib.Dec.{eqb}
use borrow.Author.Tests.{eqb-true, ne_eqb}
use Rattle.names.proofs.Equal.{by_eq}
use Rattle.sets.proofs.Bits.{by_test}
use Rattle.permutation.specs.Swaps.{swaps_in}
use Rattle.field.specs.Field.{byte, Bytes, word}
use Rattle.field.specs.Word.{eight, tag_in, length_in, key_in, first_byte_in, first_two_in, middle_two_in, last_two_in}
use Rattle.field.proofs.Standing.{stands, bytes_drop}
use Rattle.field.proofs.Words.{field_tag, field_length, field_key, field_first_byte, field_first_two, field_middle_two, field_last_two}
use Rattle.problem.specs.Problem.{Node, suspension_form, Equal}
use Rattle.problem.specs.Reader.{Item, node, equation, freshness, assumption, protection, length_fits, item}
use Rattle.problem.specs.Held.{ItemStands, with_place, kept_word, ItemKept}
use Rattle.problem.specs.Look.{form_told, form_in, Suspended, bare_of, own_swaps}
use Rattle.problem.specs.declared.Form.TheVariants.{Atom, Abstraction, Pair, Application, Suspension}

-- ---- the number that is kept, and the number that stands in the input: all but the last two bytes are the same

kept_high : (o w : ℕ) → o < 65536 → kept_word o w / 65536 ≡ w / 65536
kept_high o w h = by_test (eqb (tag_in w) 0x15) (λ q. rw q (omega arith)) (λ q. rw q)

module _ (k w : ℕ) (e : k / 65536 ≡ w / 65536) where
  same_tag : tag_in k ≡ tag_in w
  same_tag = omega arith

  same_key : key_in k ≡ key_in w
  same_key = omega arith

  same_length : length_in k ≡ length_in w
  same_length = omega arith

  same_first_byte : first_byte_in k ≡ first_byte_in w
  same_first_byte = omega arith

  same_first_two : first_two_in k ≡ first_two_in w
  same_first_two = omega arith

  same_middle_two : middle_two_in k ≡ middle_two_in w
  same_middle_two = omega arith

-- ---- any field

module _ {s : List ℕ} {k : ℕ} {i : Item} (b : Bytes s) (w : ItemKept s k i) where
  from_here : Bytes (drop w.place s)
  from_here = bytes_drop w.place s b

  high : k / 65536 ≡ eight (drop w.place s) / 65536
  high = ap (λ (x : ℕ). x / 65536) w.word ∙ kept_high w.place (eight (drop w.place s)) w.small

  kept_tag : tag_in k ≡ w.stands.tag
  kept_tag = same_tag k _ high ∙ field_tag (drop w.place s) from_here w.stands.stands

  kept_key : key_in k ≡ w.stands.tag * 65536 + length w.stands.body
  kept_key = same_key k _ high ∙ field_key (drop w.place s) from_here w.stands.stands

  kept_length : length_in k ≡ length w.stands.body
  kept_length = same_length k _ high ∙ field_length (drop w.place s) from_here w.stands.stands

  kept_first_byte : 1 ≤ length w.stands.body → first_byte_in k ≡ byte w.stands.body 0
  kept_first_byte h = same_first_byte k _ high ∙ field_first_byte (drop w.place s) from_here w.stands.stands h

  kept_first_two : 2 ≤ length w.stands.body → first_two_in k ≡ word w.stands.body 0
  kept_first_two h = same_first_two k _ high ∙ field_first_two (drop w.place s) from_here w.stands.stands h

  kept_middle_two : 3 ≤ length w.stands.body → middle_two_in k ≡ word w.stands.body 1
  kept_middle_two h = same_middle_two k _ high ∙ field_middle_two (drop w.place s) from_here w.stands.stands h

  -- The last two: of a suspension its offset, of another field what stands in the input.
  tag_here : (tag : ℕ) → w.stands.tag ≡ tag → tag_in (eight (drop w.place s)) ≡ tag
  tag_here tag e = field_tag (drop w.place s) from_here w.stands.stands ∙ e

  kept_last_two : (tag : ℕ) → w.stands.tag ≡ tag → eqb tag 0x15 ≡ false → 4 ≤ length w.stands.body
      → last_two_in k ≡ word w.stands.body 2
  kept_last_two tag e n h =
      let k_is : k ≡ eight (drop w.place s) = w.word ∙ rw (tag_here tag e, n) in
      ap last_two_in k_is ∙ field_last_two (drop w.place s) from_here w.stands.stands h

  kept_place : w.stands.tag ≡ 0x15 → k % 65536 ≡ w.place
  kept_place e =
      let small = w.small in
      let k_is : k ≡ with_place w.place (eight (drop w.place s)) = w.word ∙ rw (tag_here 0x15 e) in
      omega arith

-- Of a tag with one length only, that length.
pub one_length : (tag n m : ℕ) → (eqb m n ≡ false → length_fits tag m ≡ false) → length_fits tag m ≡ true → m ≡ n
one_length tag n m f e = by_test (eqb m n) (eqb-true m n) (λ q. let x = f q in let y : ◌≡◌ {A = ℕ} 0 1 = cc in absurd (omega arith))

module _ {s : List ℕ} {o : ℕ} {i : Item} (w : ItemStands s o i) where
  said : (tag : ℕ) → w.tag ≡ tag → item tag w.body ≡ i
  said tag e = rw e at w.says

  fitting : (tag : ℕ) → w.tag ≡ tag → length_fits tag (length w.body) ≡ true
  fitting tag e = rw e at w.fits

  its_length : (tag n : ℕ) → w.tag ≡ tag → (eqb (length w.body) n ≡ false → length_fits tag (length w.body) ≡ false)
      → length w.body ≡ n
  its_length tag n e f = one_length tag n (length w.body) f (fitting tag e)

-- ---- the kinds of node

data Kind (tag : ℕ) : Type 0 where
  unit_kind : tag ≡ 0x10 → Kind tag
  atom_kind : tag ≡ 0x11 → Kind tag
  abstraction_kind : tag ≡ 0x12 → Kind tag
  pair_kind : tag ≡ 0x13 → Kind tag
  application_kind : tag ≡ 0x14 → Kind tag
  suspension_kind : tag ≡ 0x15 → Kind tag

last_kind : (t a b c : Bool) (f g : Node) (e : Equal) (x y u v X : ℕ)
    → cond t (node g) (cond a (equation e) (cond b (freshness x y) (cond c (assumption u v) (protection X)))) ≡ node f
    → t ≡ true
last_kind true a b c f g e x y u v X h = refl
last_kind false true b c f g e x y u v X h = let z : ◌≡◌ {A = ℕ} 0 1 = cc in absurd (omega arith)
last_kind false false true c f g e x y u v X h = let z : ◌≡◌ {A = ℕ} 0 1 = cc in absurd (omega arith)
last_kind false false false true f g e x y u v X h = let z : ◌≡◌ {A = ℕ} 0 1 = cc in absurd (omega arith)
last_kind false false false false f g e x y u v X h = let z : ◌≡◌ {A = ℕ} 0 1 = cc in absurd (omega arith)

kind : (tag : ℕ) (body : List ℕ) (f : Node) → item tag body ≡ node f → Kind tag
unfolding item
kind tag body f e =
    by_eq tag 0x10 unit_kind (λ u.
    by_eq tag 0x11 atom_kind (λ a.
    by_eq tag 0x12 abstraction_kind (λ b.
    by_eq tag 0x13 pair_kind (λ p.
    by_eq tag 0x14 application_kind (λ g.
    let others = rw (ne_eqb tag 0x10 u, ne_eqb tag 0x11 a, ne_eqb tag 0x12 b, ne_eqb tag 0x13 p, ne_eqb tag 0x14 g) at e in
    suspension_kind (eqb-true tag 0x15 (last_kind (eqb tag 0x15) (eqb tag 0x20) (eqb tag 0x21) (eqb tag 0x22) f _ _ _ _ _ _ _ others)))))))

same_form : {f g : Node} → node f ≡ node g → f ≡ g
same_form e = cc

-- ---- a node's form

odd_length : (n : ℕ) → length_fits 0x15 n ≡ true → n % 2 ≡ 1
unfolding length_fits
odd_length n e =
    by_test (eqb (n % 2) 1) (eqb-true (n % 2) 1)
    (λ q. let f : length_fits 0x15 n ≡ false = rw q in let z : true ≡ false = cc in let y : ◌≡◌ {A = ℕ} 0 1 = cc in absurd (omega arith))

suspension_body : {s : List ℕ} {o : ℕ} {f : Node} (w : ItemStands s o (node f)) → w.tag ≡ 0x15
    → (1 ≤ length w.body) × (suspension_form (swaps_in (drop 1 w.body)) (byte w.body 0) ≡ f)
unfolding item
suspension_body w e = (omega (arith, odd_length (length w.body) (fitting w 0x15 e)), same_form (said w 0x15 e))

module _ {s : List ℕ} {k : ℕ} {f : Node} (b : Bytes s) (w : ItemKept s k (node f)) where
  pub told_kept : form_in k ≡ form_told f
  unfolding item length_fits form_in
  told_kept = go (kind w.stands.tag w.stands.body f w.stands.says)
    where
      go : Kind w.stands.tag → form_in k ≡ form_told f
      go (unit_kind e) = rw (kept_tag b w ∙ e) (ap form_told (same_form (said w.stands 0x10 e)))
      go (atom_kind e) =
          let n = its_length w.stands 0x11 1 e (λ q. rw q) in
          let a = kept_first_byte b w (omega arith) in
          rw (kept_tag b w ∙ e) ((λ i. Atom (record { 0 = a i })) ∙ ap form_told (same_form (said w.stands 0x11 e)))
      go (abstraction_kind e) =
          let n = its_length w.stands 0x12 3 e (λ q. rw q) in
          let a = kept_first_byte b w (omega arith) in
          let m = kept_middle_two b w (omega arith) in
          rw (kept_tag b w ∙ e) ((λ i. Abstraction (record { 0 = a i }) (record { 0 = m i })) ∙ ap form_told (same_form (said w.stands 0x12 e)))
      go (pair_kind e) =
          let n = its_length w.stands 0x13 4 e (λ q. rw q) in
          let l = kept_first_two b w (omega arith) in
          let r = kept_last_two b w 0x13 e refl (omega arith) in
          rw (kept_tag b w ∙ e) ((λ i. Pair (record { 0 = l i }) (record { 0 = r i })) ∙ ap form_told (same_form (said w.stands 0x13 e)))
      go (application_kind e) =
          let n = its_length w.stands 0x14 4 e (λ q. rw q) in
          let g = kept_first_two b w (omega arith) in
          let m = kept_last_two b w 0x14 e refl (omega arith) in
          rw (kept_tag b w ∙ e) ((λ i. Application (g i) (record { 0 = m i })) ∙ ap form_told (same_form (said w.stands 0x14 e)))
      go (suspension_kind e) =
          let h = suspension_body w.stands e in
          let X = kept_first_byte b w h.0 in
          rw (kept_tag b w ∙ e) ((λ i. Suspension (record { 0 = X i })) ∙ ap form_told h.1)

-- ---- a suspension without swaps

no_swaps : (body : List ℕ) → length body ≡ 1 → swaps_in (drop 1 body) ≡ []
no_swaps [] e = absurd (omega arith)
no_swaps (X ∷ []) e = refl
no_swaps (X ∷ a ∷ body) e = absurd (omega arith)

some_swaps : (body : List ℕ) (X : ℕ) → 3 ≤ length body → bare_of (suspension_form (swaps_in (drop 1 body)) X) ≡ None
some_swaps [] X h = absurd (omega arith)
some_swaps (Y ∷ []) X h = absurd (omega arith)
some_swaps (Y ∷ a ∷ []) X h = absurd (omega arith)
some_swaps (Y ∷ a ∷ b ∷ body) X h = refl

module _ {s : List ℕ} {k : ℕ} {f : Node} (b : Bytes s) (w : ItemKept s k (node f)) where
  pub bare_kept : key_in k ≡ 0x150001 → Some (record { 0 = first_byte_in k }) ≡ bare_of f
  bare_kept h =
      let key = kept_key b w in
      let size = kept_length b w in
      let e : w.stands.tag ≡ 0x15 = omega arith in
      let one : length w.stands.body ≡ 1 = omega arith in
      let X = byte w.stands.body 0 in
      ap (λ (x : ℕ). bare_of (suspension_form [] x)) (kept_first_byte b w (omega arith))
      ∙ (ap (λ π. bare_of (suspension_form π X)) (sym (no_swaps w.stands.body one)) ∙ ap bare_of (suspension_body w.stands e).1)

  pub not_bare : (key_in k ≡ 0x150001 → ⊥) → None ≡ bare_of f
  unfolding item
  not_bare h = go (kind w.stands.tag w.stands.body f w.stands.says)
    where
      go : Kind w.stands.tag → None ≡ bare_of f
      go (unit_kind e) = ap bare_of (same_form (said w.stands 0x10 e))
      go (atom_kind e) = ap bare_of (same_form (said w.stands 0x11 e))
      go (abstraction_kind e) = ap bare_of (same_form (said w.stands 0x12 e))
      go (pair_kind e) = ap bare_of (same_form (said w.stands 0x13 e))
      go (application_kind e) = ap bare_of (same_form (said w.stands 0x14 e))
      go (suspension_kind e) =
          let key = kept_key b w in
          let odd = odd_length (length w.stands.body) (fitting w.stands 0x15 e) in
          let several : 3 ≤ length w.stands.body = omega arith in
          sym (some_swaps w.stands.body (byte w.stands.body 0) several) ∙ ap bare_of (suspension_body w.stands e).1

-- ---- a suspension's swaps: they are behind the variable, to the body's end

pub behind_first : (n : ℕ) (l : List ℕ) → 1 ≤ n → drop 1 (take n l) ≡ take (n - 1) (drop 1 l)
behind_first zero l h = absurd (omega arith)
behind_first (suc m) [] h = sym (take-nil (suc m - 1))
behind_first (suc m) (a ∷ l) h = let e : suc m - 1 ≡ m = omega arith in rw e

-- At offset o stands a suspension of form f with a body of n bytes.
pub record SwapsStand (s : List ℕ) (o n : ℕ) (f : Node) : Type 0 where
  pub some : 1 ≤ n
  pub inside : o + (3 + n) ≤ length s
  pub swaps : swaps_in (take (n - 1) (drop (o + 4) s)) ≡ own_swaps f

suspended_tag : {s : List ℕ} {o : ℕ} {f : Node} (w : ItemStands s o (node f)) → Suspended f → w.tag ≡ 0x15
unfolding item
suspended_tag {s} {o} {f} w h = go (kind w.tag w.body f w.says)
  where
    go : Kind w.tag → w.tag ≡ 0x15
    go (unit_kind e) = absurd (subst Suspended (sym (same_form (said w 0x10 e))) h)
    go (atom_kind e) = absurd (subst Suspended (sym (same_form (said w 0x11 e))) h)
    go (abstraction_kind e) = absurd (subst Suspended (sym (same_form (said w 0x12 e))) h)
    go (pair_kind e) = absurd (subst Suspended (sym (same_form (said w 0x13 e))) h)
    go (application_kind e) = absurd (subst Suspended (sym (same_form (said w 0x14 e))) h)
    go (suspension_kind e) = e

swaps_stand : {s : List ℕ} {o : ℕ} {f : Node} (w : ItemStands s o (node f)) → w.tag ≡ 0x15 → SwapsStand s o (length w.body) f
swaps_stand {s} {o} w e =
    let body = w.body in
    let n = length body in
    let h = stands (drop o s) w.tag body w.rest w.stands in
    let there = suspension_body w e in
    let bytes : drop 1 body ≡ take (n - 1) (drop (o + 4) s) =
    ap (drop 1) h.the_body ∙ (behind_first n (drop 3 (drop o s)) there.0 ∙ ap (take (n - 1)) (drop-drop 1 3 (drop o s) ∙ drop-drop 4 o s)) in
    record {
      some = there.0;
      inside = omega (arith, h.fits, length-drop o s);
      swaps = ap swaps_in (sym bytes) ∙ ap own_swaps there.1;
    }

pub swaps_kept : {s : List ℕ} {k : ℕ} {f : Node} → Bytes s → ItemKept s k (node f) → Suspended f → SwapsStand s (k % 65536) (length_in k) f
swaps_kept b w h = let e = suspended_tag w.stands h in rw (kept_place b w e, kept_length b w) (swaps_stand w.stands e)

-- ---- what is no node is said behind the six kinds of node

behind_nodes :
    (a b c d e f : Bool) (n₁ n₂ n₃ n₄ n₅ n₆ : Node) (rest i : Item)
    → cond a (node n₁) (cond b (node n₂) (cond c (node n₃) (cond d (node n₄) (cond e (node n₅) (cond f (node n₆) rest))))) ≡ i
    → ((n : Node) → node n ≡ i → ⊥)
    → rest ≡ i
behind_nodes true b c d e f n₁ n₂ n₃ n₄ n₅ n₆ rest i w other = absurd (other n₁ w)
behind_nodes false true c d e f n₁ n₂ n₃ n₄ n₅ n₆ rest i w other = absurd (other n₂ w)
behind_nodes false false true d e f n₁ n₂ n₃ n₄ n₅ n₆ rest i w other = absurd (other n₃ w)
behind_nodes false false false true e f n₁ n₂ n₃ n₄ n₅ n₆ rest i w other = absurd (other n₄ w)
behind_nodes false false false false true f n₁ n₂ n₃ n₄ n₅ n₆ rest i w other = absurd (other n₅ w)
behind_nodes false false false false false true n₁ n₂ n₃ n₄ n₅ n₆ rest i w other = absurd (other n₆ w)
behind_nodes false false false false false false n₁ n₂ n₃ n₄ n₅ n₆ rest i w other = w

an_equation : (a b c : Bool) (e x : Equal) (y z u v X : ℕ)
    → cond a (equation x) (cond b (freshness y z) (cond c (assumption u v) (protection X))) ≡ equation e
    → (a ≡ true) × (x ≡ e)
an_equation true b c e x y z u v X w = (refl, cc)
an_equation false true c e x y z u v X w = let k : ◌≡◌ {A = ℕ} 0 1 = cc in absurd (omega arith)
an_equation false false true e x y z u v X w = let k : ◌≡◌ {A = ℕ} 0 1 = cc in absurd (omega arith)
an_equation false false false e x y z u v X w = let k : ◌≡◌ {A = ℕ} 0 1 = cc in absurd (omega arith)

a_freshness : (a b c : Bool) (p q : ℕ) (x : Equal) (y z u v X : ℕ)
    → cond a (equation x) (cond b (freshness y z) (cond c (assumption u v) (protection X))) ≡ freshness p q
    → (b ≡ true) × (y ≡ p) × (z ≡ q)
a_freshness true b c p q x y z u v X w = let k : ◌≡◌ {A = ℕ} 0 1 = cc in absurd (omega arith)
a_freshness false true c p q x y z u v X w = (refl, cc, cc)
a_freshness false false true p q x y z u v X w = let k : ◌≡◌ {A = ℕ} 0 1 = cc in absurd (omega arith)
a_freshness false false false p q x y z u v X w = let k : ◌≡◌ {A = ℕ} 0 1 = cc in absurd (omega arith)

no_node_equation : (e : Equal) (n : Node) → node n ≡ equation e → ⊥
no_node_equation e n w = let k : ◌≡◌ {A = ℕ} 0 1 = cc in omega arith

no_node_freshness : (a m : ℕ) (n : Node) → node n ≡ freshness a m → ⊥
no_node_freshness a m n w = let k : ◌≡◌ {A = ℕ} 0 1 = cc in omega arith

-- The item is said behind the nodes.
abbrev later_item : ℕ → List ℕ → Item
later_item tag s =
    cond (eqb tag 0x20) (equation (record { left = word s 0; right = word s 2 }))
    (cond (eqb tag 0x21) (freshness (byte s 0) (word s 1))
    (cond (eqb tag 0x22) (assumption (byte s 0) (byte s 1))
    (protection (byte s 0))))

later_item_lem : (tag : ℕ) (s : List ℕ) (i : Item) → item tag s ≡ i → ((n : Node) → node n ≡ i → ⊥) → later_item tag s ≡ i
unfolding item
later_item_lem tag s i =
    behind_nodes (eqb tag 0x10) (eqb tag 0x11) (eqb tag 0x12) (eqb tag 0x13) (eqb tag 0x14) (eqb tag 0x15) _ _ _ _ _ _ (later_item tag s) i

pub equation_kept : {s : List ℕ} {k : ℕ} {e : Equal} → Bytes s → ItemKept s k (equation e) → (first_two_in k ≡ e.left) × (last_two_in k ≡ e.right)
unfolding length_fits
equation_kept {s} {k} {e} b w =
    let tag = w.stands.tag in
    let here = an_equation (eqb tag 0x20) (eqb tag 0x21) (eqb tag 0x22) e _ _ _ _ _ _
    (later_item_lem tag w.stands.body (equation e) w.stands.says (no_node_equation e)) in
    let is_equation = eqb-true tag 0x20 here.0 in
    let n = its_length w.stands 0x20 4 is_equation (λ q. rw q) in (
      kept_first_two b w (omega arith) ∙ ap (λ (x : Equal). x.left) here.1,
      kept_last_two b w 0x20 is_equation refl (omega arith) ∙ ap (λ (x : Equal). x.right) here.1,
    )

pub freshness_kept : {s : List ℕ} {k a m : ℕ} → Bytes s → ItemKept s k (freshness a m) → (first_byte_in k ≡ a) × (middle_two_in k ≡ m)
unfolding length_fits
freshness_kept {s} {k} {a} {m} b w =
    let tag = w.stands.tag in
    let here = a_freshness (eqb tag 0x20) (eqb tag 0x21) (eqb tag 0x22) a m _ _ _ _ _ _
    (later_item_lem tag w.stands.body (freshness a m) w.stands.says (no_node_freshness a m)) in
    let n = its_length w.stands 0x21 3 (eqb-true tag 0x21 here.0) (λ q. rw q) in
    (kept_first_byte b w (omega arith) ∙ here.1, kept_middle_two b w (omega arith) ∙ here.2)
