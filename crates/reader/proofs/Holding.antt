-- The tables that the reader leaves hold the problem that it read: after the head they hold nothing, and each field that is noted is held.
use Prim.Native.Nat.{ℕ, ◌+◌, ◌≤◌, ◌<◌}
use native.Mathlib.Omega.{arith}
use mathlib.Core.Path.{◌≡◌, refl, sym, ◌∙◌, ap}
use mathlib.Core.Bool.{true, ◌&&◌, ◌||◌, or_comm, or-false, and-true, and-false}
use mathlib.Core.List.{List, [], ◌∷◌, ◌++◌}
use lib.ListN.{length, get_or, set, drop, replicate, length-replicate, get_or-append, get_or-replicate}
use lib.Seq.{get_or-set_same, get_or-set_other}
use lib.Dec.{ltb, eqb}
use borrow.Author.Tests.{ltb-true, eqb-true, eq-eqb, ne_eqb}
use Rattle.names.proofs.Equal.{by_eq}
use Rattle.sets.specs.Bits.{member, inserted, among}
use Rattle.sets.proofs.Bits.{by_test, member_empty, member_inserted}
use Rattle.field.specs.Field.{Bytes}
use Rattle.field.specs.Word.{eight, tag_in, first_byte_in}
use Rattle.field.proofs.Standing.{bytes_drop}
use Rattle.field.proofs.Words.{field_tag}
use Rattle.problem.specs.Problem.{Node, unit_form, atom_form, abstraction_form, pair_form, application_form, suspension_form, form_at}
use Rattle.problem.specs.Problem.{Fresh, Assumed, Problem}
use Rattle.problem.specs.Reader.{Item, node, equation, freshness, assumption, protection, sizes, item, there, add, started}
use Rattle.problem.specs.Readable.{Named, Readable}
use Rattle.problem.specs.Held.{ItemStands, ItemKept, with_place, kept_word, assumes}
use Rattle.problem.specs.Look.{form_told, form_in}
use Rattle.variables.specs.Variables.{variables_of, VariablesKept}
use Rattle.says.specs.Told.{said_by}
use Rattle.problem.specs.Told.{all_in, counts_of}
use Rattle.reader.specs.Tables.{ReaderTables, noted, sets_cleared}
use Rattle.reader.specs.Noting.{RowFor}
use Rattle.reader.specs.Told.{HeldIn}
use Rattle.problem.proofs.Readable.{both, one_more, at_end}
use Rattle.problem.proofs.Kept.{told_kept}
use Rattle.problem.proofs.Repeated.{assumes_more, among_more}

-- ---- one more field that is kept

-- Behind those that are kept: what is kept of the one more is what it says. Each has its own row.
module _ {A : Type 0} (d : A) (s : List ℕ) (say : A → Item) (xs : List A) (x : A) (row : ℕ → ℕ) (apart : (n m : ℕ) → row n ≡ row m → n ≡ m)
    (l : List ℕ) (w : ℕ) where
  one_more_kept : row (length xs) < length l → ItemKept s w (say x) → ((n : ℕ) → n < length xs → ItemKept s (get_or l (row n) 0) (say (get_or xs n d)))
      → (n : ℕ) → n < length (xs ++ (x ∷ [])) → ItemKept s (get_or (set l (row (length xs)) w) (row n) 0) (say (get_or (xs ++ (x ∷ [])) n d))
  one_more_kept r k h n m =
      by_eq n (length xs)
      (λ e. rw (e, get_or-set_same l (row (length xs)) w 0 r, at_end d xs x (length xs) refl) k)
      (λ e.
      let o : n < length xs = omega (arith, one_more xs x) in
      rw (get_or-set_other l (row (length xs)) (row n) w 0 (λ q. e (apart n (length xs) q)), get_or-append xs (x ∷ []) d n o) (h n o))

-- Rows elsewhere stay.
module _ {A : Type 0} (s : List ℕ) (say : A → Item) (row : ℕ → ℕ) (count : ℕ) (at : ℕ → A) (l : List ℕ) (w : ℕ) (other : ℕ) where
  others_kept : ((n : ℕ) → n < count → row n ≡ other → ⊥) → ((n : ℕ) → n < count → ItemKept s (get_or l (row n) 0) (say (at n)))
      → (n : ℕ) → n < count → ItemKept s (get_or (set l other w) (row n) 0) (say (at n))
  others_kept f h n k = rw (get_or-set_other l other (row n) w 0 (f n k)) (h n k)

-- The rows of nodes, equations and freshness fields.
abbrev node_row : ℕ → ℕ
node_row n = n

abbrev equation_row : ℕ → ℕ
equation_row k = 512 + k

abbrev freshness_row : ℕ → ℕ
freshness_row k = 576 + k

-- ---- one more node's variables

module _ (table : List ℕ) (n : ℕ) where
  -- The sets of parts stay, which are below the node.
  parts_stay : (atoms variables m x : ℕ) (f : Node) → m ≤ n → Named atoms variables m f
      → variables_of (set table n x) (form_told f) ≡ variables_of table (form_told f)
  parts_stay atoms variables m x unit_form h k = refl
  parts_stay atoms variables m x (atom_form a) h k = refl
  parts_stay atoms variables m x (abstraction_form a p) h k = get_or-set_other table n p x 0 (λ e. omega (arith, k.1))
  parts_stay atoms variables m x (pair_form p q) h k =
      rw (get_or-set_other table n p x 0 (λ e. omega (arith, k.0)), get_or-set_other table n q x 0 (λ e. omega (arith, k.1)))
  parts_stay atoms variables m x (application_form g p) h k = get_or-set_other table n p x 0 (λ e. omega arith)
  parts_stay atoms variables m x (suspension_form π X) h k = refl

one_more_set : (p : Problem) (o : ℕ) (f : Node) (table : List ℕ) → Readable (add p o (node f)) → length p.nodes < length table
    → VariablesKept p.nodes table
    → VariablesKept (p.nodes ++ (f ∷ [])) (set table (length p.nodes) (variables_of table (form_told f)))
unfolding add
one_more_set p o f table r row h n k =
    let m = length p.nodes in
    let x = variables_of table (form_told f) in
    let nodes = p.nodes ++ (f ∷ []) in
    let stay = parts_stay table m p.atoms p.variables n x (form_at nodes n) (omega (arith, one_more p.nodes f)) (r.named_nodes n) in
    by_eq n m
    (λ e. let y = at_end unit_form p.nodes f n e in rw e (get_or-set_same table m x 0 row) ∙
    (ap (λ g. variables_of table (form_told g)) (sym y) ∙ sym stay))
    (λ e.
    let l : n < m = omega (arith, one_more p.nodes f) in
    let y = get_or-append p.nodes (f ∷ []) unit_form n l in
    get_or-set_other table m n x 0 e ∙ (h n l ∙ (ap (λ g. variables_of table (form_told g)) (sym y) ∙ sym stay)))

-- ---- one more assumption, and one more protected variable

eqb_sym : (a b : ℕ) → eqb a b ≡ eqb b a
eqb_sym a b = by_eq a b (λ e. rw (eq-eqb a b e, eq-eqb b a (sym e))) (λ n. rw (ne_eqb a b n, ne_eqb b a (λ e. n (sym e))))

module _ (sets : List ℕ) (ds : List Assumed) (b Y a : ℕ) where
  -- The sets, with atom b in that of variable Y.
  abbrev sets_with_atom : List ℕ
  sets_with_atom = set sets Y (inserted 32 (get_or sets Y 0) b)

  same_set : b < 32 → Y < length sets → member (get_or sets Y 0) a ≡ assumes ds a Y
      → member (get_or sets_with_atom Y 0) a ≡ assumes ds a Y || (eqb b a && eqb Y Y)
  same_set h k e =
      rw (get_or-set_same sets Y (inserted 32 (get_or sets Y 0) b) 0 k, member_inserted 32 (get_or sets Y 0) b a h, eq-eqb Y Y refl, e, eqb_sym a b)
      (or_comm (eqb b a) (assumes ds a Y) ∙ ap (λ c. assumes ds a Y || c) (sym (and-true (eqb b a))))

  other_set : (X : ℕ) → (X ≡ Y → ⊥) → member (get_or sets X 0) a ≡ assumes ds a X
      → member (get_or sets_with_atom X 0) a ≡ assumes ds a X || (eqb b a && eqb Y X)
  other_set X n e =
      rw (get_or-set_other sets Y X (inserted 32 (get_or sets Y 0) b) 0 n, ne_eqb Y X (λ q. n (sym q)), e)
      (sym (or-false (assumes ds a X)) ∙ ap (λ c. assumes ds a X || c) (sym (and-false (eqb b a))))

assumption_more : (sets : List ℕ) (ds : List Assumed) (d : Assumed) (a X : ℕ) → d.atom < 32 → d.variable < length sets
    → member (get_or sets X 0) a ≡ assumes ds a X
    → member (get_or (set sets d.variable (inserted 32 (get_or sets d.variable 0) d.atom)) X 0) a ≡ assumes (ds ++ (d ∷ [])) a X
assumption_more sets ds d a X h k e =
    by_eq X d.variable
    (λ q. rw q (same_set sets ds d.atom d.variable a h k (rw q at e)) ∙ sym (assumes_more ds d a X))
    (λ n. other_set sets ds d.atom d.variable a X n e ∙ sym (assumes_more ds d a X))

pub all_in_more : (w : ℕ) (l : List ℕ) (X : ℕ) → all_in w (l ++ (X ∷ [])) ≡ inserted 64 (all_in w l) X
all_in_more w [] X = refl
all_in_more w (Y ∷ l) X = all_in_more (inserted 64 w Y) l X

protection_more : (l : List ℕ) (X Y : ℕ) → X < 64 → member (all_in 0 l) Y ≡ among Y l → member (all_in 0 (l ++ (X ∷ []))) Y ≡ among Y (l ++ (X ∷ []))
protection_more l X Y h e =
    rw (all_in_more 0 l X, member_inserted 64 (all_in 0 l) X Y h, e) (or_comm (eqb Y X) (among Y l) ∙ sym (among_more l X Y))

-- ---- one more field: what it says is noted, and held

-- What is kept of a field that stands at offset o: its first eight bytes, where it is no node; of a node the form that they show is its own.
module _ {s : List ℕ} {o : ℕ} {i : Item} (b : Bytes s) (small : o < 65536) (stands : ItemStands s o i) where
  kept_here : ItemKept s (kept_word o (eight (drop o s))) i
  kept_here = record { place = o; small = small; stands = stands; word = refl }

  tag_here : tag_in (eight (drop o s)) ≡ stands.tag
  tag_here = field_tag (drop o s) (bytes_drop o s b) stands.stands

  word_kept : ((f : Node) → node f ≡ i → ⊥) → ItemKept s (eight (drop o s)) i
  unfolding item
  word_kept n =
      by_eq stands.tag 0x15
      (λ e. absurd (n _ (rw e at stands.says)))
      (λ e. rw (ne_eqb (tag_in (eight (drop o s))) 0x15 (λ q. e (sym tag_here ∙ q))) at kept_here)

-- The form does not change with the last two bytes of a suspension.
form_kept : (o w : ℕ) → o < 65536 → form_in (kept_word o w) ≡ form_in w
unfolding form_in
form_kept o w h =
    by_test (eqb (tag_in w) 0x15)
    (λ q.
    let t = eqb-true (tag_in w) 0x15 q in
    let u : tag_in (with_place o w) ≡ 0x15 = omega arith in
    let v : first_byte_in (with_place o w) ≡ first_byte_in w = omega arith in
    rw (t, u, v))
    (λ q. rw q)

form_here : {s : List ℕ} {o : ℕ} {f : Node} → Bytes s → o < 65536 → ItemStands s o (node f) → form_in (eight (drop o s)) ≡ form_told f
form_here {s} {o} b small stands = sym (form_kept o (eight (drop o s)) small) ∙ told_kept b (kept_here b small stands)

pub noted_held : (s : List ℕ) (b : Bytes s) (p : Problem) (o : ℕ) (i : Item) (t : ReaderTables) → o < 65536 → Readable p → Readable (add p o i)
    → RowFor (said_by 0 i) (counts_of p) t → there (sizes p) i ≡ true → ItemStands s o i → HeldIn s t p
    → HeldIn s (noted (said_by 0 i) (eight (drop o s)) o (counts_of p) t) (add p o i)
unfolding add sizes there counts_of
noted_held s b p o (node f) t small r r' m g k h =
    let n = length p.nodes in
    let x = kept_word o (eight (drop o s)) in (
      record {
        nodes = one_more_kept unit_form s node p.nodes f node_row (λ i j q. q) t.places x m.0 (kept_here b small k) h.0.nodes;
        equations = λ j e. others_kept s equation equation_row (length p.equations) (λ i. get_or p.equations i e) t.places x n
            (λ i l q. omega (arith, r'.few_nodes, one_more p.nodes f)) (λ i. h.0.equations i e) j;
        freshness = λ j d.
            others_kept s (λ (y : Fresh). freshness y.atom y.node) freshness_row (length p.freshness) (λ i. get_or p.freshness i d) t.places x n
            (λ i l q. omega (arith, r'.few_nodes, one_more p.nodes f)) (λ i. h.0.freshness i d) j;
        assumptions = h.0.assumptions;
        protection = h.0.protection;
      },
      rw (form_here b small k) (one_more_set p o f t.variables r' m.1 h.1),
    )
noted_held s b p o (equation d) t small r r' m g k h =
    let n = length p.equations in
    let w = eight (drop o s) in
    let kept = word_kept b small k (λ f q. let z : ◌≡◌ {A = ℕ} 0 1 = cc in omega arith) in (
      record {
        nodes =
            others_kept s node node_row (length p.nodes) (form_at p.nodes) t.places w (512 + n) (λ i l q. omega (arith, r.few_nodes)) h.0.nodes;
        equations = λ j x. one_more_kept x s equation p.equations d equation_row (λ i j q. omega arith) t.places w m kept (λ i. h.0.equations i x) j;
        freshness = λ j x.
            others_kept s (λ (y : Fresh). freshness y.atom y.node) freshness_row (length p.freshness) (λ i. get_or p.freshness i x) t.places w
            (512 + n)
            (λ i l q. omega (arith, r'.few_equations, one_more p.equations d)) (λ i. h.0.freshness i x) j;
        assumptions = h.0.assumptions;
        protection = h.0.protection;
      },
      h.1,
    )
noted_held s b p o (freshness a c) t small r r' m g k h =
    let n = length p.freshness in
    let d : Fresh = record { atom = a; node = c; offset = o } in
    let say : Fresh → Item = λ x. freshness x.atom x.node in
    let w = eight (drop o s) in
    let kept = word_kept b small k (λ f q. let z : ◌≡◌ {A = ℕ} 0 1 = cc in omega arith) in (
      record {
        nodes =
            others_kept s node node_row (length p.nodes) (form_at p.nodes) t.places w (576 + n) (λ i l q. omega (arith, r.few_nodes)) h.0.nodes;
        equations = λ j x. others_kept s equation equation_row (length p.equations) (λ i. get_or p.equations i x) t.places w (576 + n)
            (λ i l q. omega (arith, r.few_equations)) (λ i. h.0.equations i x) j;
        freshness = λ j x. one_more_kept x s say p.freshness d freshness_row (λ i j q. omega arith) t.places w m kept (λ i. h.0.freshness i x) j;
        assumptions = h.0.assumptions;
        protection = h.0.protection;
      },
      h.1,
    )
noted_held s b p o (assumption a X) t small r r' m g k h =
    let l = ltb-true a p.atoms (both (ltb a p.atoms) (ltb X p.variables) g).0 in
    let d : Assumed = record { atom = a; variable = X; offset = o } in (
      record {
        nodes = h.0.nodes;
        equations = h.0.equations;
        freshness = h.0.freshness;
        assumptions = λ c Y q. assumption_more t.assumed p.assumptions d c Y (omega (arith, r.few_atoms)) m (h.0.assumptions c Y q);
        protection = h.0.protection;
      },
      h.1,
    )
noted_held s b p o (protection X) t small r r' m g k h =
    let l = ltb-true X p.variables g in (
      record {
        nodes = h.0.nodes;
        equations = h.0.equations;
        freshness = h.0.freshness;
        assumptions = h.0.assumptions;
        protection = λ Y. protection_more p.protected X Y (omega (arith, r.few_variables)) (h.0.protection Y);
      },
      h.1,
    )

-- ---- after the head nothing is noted and nothing is there

pub cleared_held : (s : List ℕ) (atoms variables limit : ℕ) (t : ReaderTables) → HeldIn s (sets_cleared variables t) (started atoms variables limit)
unfolding sets_cleared started
cleared_held s atoms variables limit t = (
  record {
    nodes = λ n k. absurd (omega arith);
    equations = λ n e k. absurd (omega arith);
    freshness = λ n d k. absurd (omega arith);
    assumptions = λ a X k.
        let l : X < length (replicate {A = ℕ} variables 0) = rw (length-replicate {A = ℕ} variables 0) k in
        rw (get_or-append (replicate variables 0) (drop variables t.assumed) 0 X l, get_or-replicate {A = ℕ} variables X 0 0 k) (member_empty a);
    protection = λ X. member_empty X;
  },
  λ n k. absurd (omega arith),
)
