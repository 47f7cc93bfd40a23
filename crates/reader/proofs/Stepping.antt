-- Which fields have a size, as a node or as none: what follows where one has it, and why one has none.
use Prim.Native.Nat.{ℕ, ◌+◌, ◌≤◌, ◌<◌}
use native.Mathlib.Omega.{arith}
use mathlib.Core.Path.{◌≡◌, refl, sym, ◌∙◌, ap, subst}
use mathlib.Core.Bool.{true, false}
use mathlib.Core.List.{List}
use lib.ListN.{length}
use lib.Dec.{eqb, leb, ltb}
use Rattle.std.specs.Prelude.{Option, Some, None, Ok, IsSome}
use Rattle.numbers.specs.declared.Given.{Given}
use Rattle.numbers.specs.declared.Refusal.{Refusal}
use borrow.Author.Tests.{eq-eqb, eqb-true, ltb-true, leb-true}
use Rattle.names.proofs.Equal.{by_eq}
use Rattle.sets.proofs.Bits.{by_test}
use Rattle.problem.proofs.Kept.{one_length}
use Rattle.field.specs.Field.{Field, cut, whole, front, byte, Bytes}
use Rattle.field.specs.Word.{eight, tag_in, length_in}
use Rattle.field.proofs.Standing.{stands}
use Rattle.field.proofs.Words.{eight_tag, field_tag, field_length, field_first_byte}
use Rattle.problem.specs.Reader.{Sizes, base_tags, length_fits, item, room, fault}
use Rattle.problem.specs.declared.Counts.{Counts}
use Rattle.problem.proofs.Readable.{both, Faultless, faultless}
use Rattle.says.specs.Told.{said_by}
use Rattle.says.specs.declared.Said.TheVariants.{Node}
use Rattle.says.proofs.Saying.{NoNode, no_base_tag}
use Rattle.reader.specs.Noting.{counted}
use Rattle.reader.specs.Found.{size_if_good, good_size, node_tag, node_size, other_size, said_at, refusal_in, refusal_at, counted_in}
use Rattle.reader.specs.Told.{refused_by}
use Rattle.reader.proofs.Keeping.{by_size, none_some}

-- ---- a field that has a size: it is whole and has no fault

pub record GoodField (z : Sizes) (t : List ℕ) : Type 0 where
  pub tag : ℕ
  pub body : List ℕ
  pub rest : List ℕ
  pub stands_there : front t ≡ whole tag body rest
  pub no_fault : fault base_tags z tag body ≡ 0
  pub the_size : good_size z t ≡ Some (3 + length body)
  pub says : said_at t ≡ said_by 0 (item tag body)

pub good_field : (z : Sizes) (t : List ℕ) {n : ℕ} → good_size z t ≡ Some n → GoodField z t
unfolding good_size said_at
good_field z t {n} h = go (front t) refl
  where
    go : (x : Field) → front t ≡ x → GoodField z t
    go cut e = absurd (none_some (rw e) h)
    go (whole tag body rest) e =
        by_test (eqb (fault base_tags z tag body) 0)
        (λ q.
        record {
          tag = tag;
          body = body;
          rest = rest;
          stands_there = e;
          no_fault = eqb-true (fault base_tags z tag body) 0 q;
          the_size = rw (e, q);
          says = rw e;
        })
        (λ q. absurd (none_some (rw (e, q)) h))

-- One that has none has a fault.
has_fault : (z : Sizes) (o : ℕ) (t : List ℕ) → good_size z t ≡ None → (refusal_at z o t).number ≡ 0 → ⊥
unfolding good_size refusal_at
has_fault z o t = go (front t)
  where
    go : (x : Field) → size_if_good z x ≡ None → (refusal_in z o x).number ≡ 0 → ⊥
    go cut e q = omega arith
    go (whole tag body rest) e q = none_some refl (sym (rw (eq-eqb (fault base_tags z tag body) 0 q) at e))

pub has_refusal : (z : Sizes) (o : ℕ) (t : List ℕ) (r : Option Refusal) → good_size z t ≡ None → refused_by o r ≡ refusal_at z o t → IsSome r
has_refusal z o t None e g = absurd (has_fault z o t e (ap (λ (x : Given). x.number) (sym g)))
has_refusal z o t (Some f) e g = refl

-- ---- tags

-- The six tags of nodes, and the four others that are known.
by_node_tag : (P : ℕ → Type 0) (tag : ℕ) → node_tag tag ≡ true → P 0x10 → P 0x11 → P 0x12 → P 0x13 → P 0x14 → P 0x15 → P tag
by_node_tag P tag e unit atom abstraction pair application suspension =
    let h = both (leb 0x10 tag) (leb tag 0x15) e in
    let low = leb-true 0x10 tag h.0 in
    let high = leb-true tag 0x15 h.1 in
    by_eq tag 0x10 (λ q. rw q unit)
    (λ n₀. by_eq tag 0x11 (λ q. rw q atom)
    (λ n₁. by_eq tag 0x12 (λ q. rw q abstraction)
    (λ n₂. by_eq tag 0x13 (λ q. rw q pair)
    (λ n₃. by_eq tag 0x14 (λ q. rw q application)
    (λ n₄. by_eq tag 0x15 (λ q. rw q suspension) (λ n₅. absurd (omega arith)))))))

no_node : {tag : ℕ} → NoNode tag → node_tag tag ≡ false
no_node {tag} n =
    by_test (node_tag tag)
    (λ e.
    absurd
    (by_node_tag (λ k. tag ≡ k → ⊥) tag e n.no_unit n.no_atom n.no_abstraction n.no_pair n.no_application n.no_suspension refl))
    (λ e. e)

not_this : (k tag : ℕ) → node_tag k ≡ true → node_tag tag ≡ false → tag ≡ k → ⊥
not_this k tag e f q = let z : true ≡ false = sym e ∙ (ap node_tag (sym q) ∙ f) in let y : ◌≡◌ {A = ℕ} 0 1 = cc in omega arith

by_other_tag : (P : ℕ → Type 0) (tag : ℕ) → base_tags tag ≡ true → node_tag tag ≡ false → P 0x20 → P 0x21 → P 0x22 → P 0x30 → P tag
by_other_tag P tag known f equation freshness assumption protection =
    by_eq tag 0x20 (λ q. rw q equation)
    (λ n₀. by_eq tag 0x21 (λ q. rw q freshness)
    (λ n₁. by_eq tag 0x22 (λ q. rw q assumption)
    (λ n₂. by_eq tag 0x30 (λ q. rw q protection)
    (λ n₃.
    let none = no_base_tag tag (record {
      no_node = record {
        no_unit = not_this 0x10 tag refl f;
        no_atom = not_this 0x11 tag refl f;
        no_abstraction = not_this 0x12 tag refl f;
        no_pair = not_this 0x13 tag refl f;
        no_application = not_this 0x14 tag refl f;
        no_suspension = not_this 0x15 tag refl f;
      };
      no_equation = n₀;
      no_freshness = n₁;
      no_assumption = n₂;
      no_protection = n₃;
    }) in
    let y : ◌≡◌ {A = ℕ} 0 1 = cc in
    absurd (omega arith)))))

-- A field that is no node and has a size is counted by its tag, and there is room for it.
pub record OtherFound (z : Sizes) (t : List ℕ) (c : Counts) (n : ℕ) : Type 0 where
  pub the_size : good_size z t ≡ Some n
  pub few_equations : tag_in (eight t) ≡ 0x20 → z.equations < 64
  pub few_freshness : tag_in (eight t) ≡ 0x21 → z.freshness < 64
  pub counted_so : counted_in (eight t) c ≡ counted (said_at t) c

-- ---- fields that have no size

module _ (z : Sizes) (t : List ℕ) (b : Bytes t) where
  -- A field without fault has its tag, its length and its room.
  pub first_is : (f : GoodField z t) → f.tag ≡ byte t 0
  first_is f = (stands t f.tag f.body f.rest f.stands_there).the_tag

  pub sound : (f : GoodField z t) → Faultless base_tags z f.tag f.body
  sound f = faultless base_tags z f.tag f.body f.no_fault

  no_size : (GoodField z t → ⊥) → good_size z t ≡ None
  no_size h = by_size (good_size z t) (λ e. e) (λ n e. absurd (h (good_field z t e)))

  -- It reaches past the end.
  past_end : length t < 3 + length_in (eight t) → good_size z t ≡ None
  past_end h =
      no_size (λ f. omega (arith, field_length t b f.stands_there, (stands t f.tag f.body f.rest f.stands_there).fits))

  pub cut_node : length t < 3 + length_in (eight t) → node_size z t ≡ None
  cut_node h = by_test (node_tag (byte t 0)) (λ e. rw e (past_end h)) (λ e. rw e)

  pub cut_other : length t < 3 + length_in (eight t) → other_size z t ≡ None
  cut_other h = by_test (node_tag (byte t 0)) (λ e. rw e) (λ e. rw e (past_end h))

  -- It is one node too many.
  pub node_past : 512 ≤ z.nodes → node_size z t ≡ None
  unfolding item room
  node_past h =
      by_test (node_tag (byte t 0))
      (λ e.
      rw e
      (no_size
      (λ f.
      let r = by_node_tag (λ k. room z (item k f.body) ≡ true → ltb z.nodes 512 ≡ true) f.tag (rw (first_is f) e)
      (λ x. x) (λ x. x) (λ x. x) (λ x. x) (λ x. x) (λ x. x) (sound f).has_room in
      omega (arith, ltb-true z.nodes 512 r))))
      (λ e. rw e)

  -- It is no node; it is none of the others.
  pub not_node : NoNode (tag_in (eight t)) → node_size z t ≡ None
  not_node n = rw (no_node (subst NoNode (eight_tag t b) n))

  pub not_other : (tag_in (eight t) ≡ 0x20 → ⊥) → (tag_in (eight t) ≡ 0x21 → ⊥) → (tag_in (eight t) ≡ 0x22 → ⊥)
      → (tag_in (eight t) ≡ 0x30 → ⊥)
      → other_size z t ≡ None
  not_other n₀ n₁ n₂ n₃ =
      by_test (node_tag (byte t 0))
      (λ e. rw e)
      (λ e.
      rw e
      (no_size
      (λ f.
      by_other_tag (λ k. tag_in (eight t) ≡ k → ⊥) f.tag (sound f).known_tag (rw (first_is f) e) n₀ n₁ n₂ n₃
      (field_tag t b f.stands_there))))

  -- ---- fields that have one

  -- A field has some bytes, and ends in those that are left.
  ends_inside : {n : ℕ} → good_size z t ≡ Some n → (0 < n) × (n ≤ length t)
  ends_inside {n} e =
      let f = good_field z t e in
      let size : n ≡ 3 + length f.body = let x = f.the_size in cc in
      (omega arith, omega (arith, (stands t f.tag f.body f.rest f.stands_there).fits))

  pub node_inside : {n : ℕ} → node_size z t ≡ Some n → (0 < n) × (n ≤ length t)
  node_inside h = by_test (node_tag (byte t 0)) (λ e. ends_inside (rw e at h)) (λ e. absurd (none_some refl (rw e at h)))

  pub other_inside : {n : ℕ} → other_size z t ≡ Some n → (0 < n) × (n ≤ length t)
  other_inside h = by_test (node_tag (byte t 0)) (λ e. absurd (none_some refl (rw e at h))) (λ e. ends_inside (rw e at h))

  pub neither : node_size z t ≡ None → other_size z t ≡ None → good_size z t ≡ None
  neither e f = by_test (node_tag (byte t 0)) (λ q. rw q at e) (λ q. rw q at f)

  pub node_found : {n : ℕ} → node_size z t ≡ Some n → (good_size z t ≡ Some n) × (said_at t ≡ Ok Node)
  unfolding item
  node_found h =
      by_test (node_tag (byte t 0))
      (λ e.
      let q = rw e at h in
      let f = good_field z t q in (
        q,
        f.says ∙ by_node_tag (λ k. said_by 0 (item k f.body) ≡ Ok Node) f.tag (rw (first_is f) e) refl refl refl refl refl refl,
      ))
      (λ e. absurd (none_some refl (rw e at h)))

  has_room_for : (f : GoodField z t) (k : ℕ) → tag_in (eight t) ≡ k → room z (item k f.body) ≡ true
  has_room_for f k e = rw (sym (field_tag t b f.stands_there) ∙ e) at (sound f).has_room

  counted_by : (c : Counts) (f : GoodField z t) → node_tag f.tag ≡ false
      → tag_in (eight t) ≡ f.tag → counted_in (eight t) c ≡ counted (said_by 0 (item f.tag f.body)) c
  unfolding item length_fits
  counted_by c f n e =
      by_other_tag
      (λ k. length_fits k (length f.body) ≡ true → tag_in (eight t) ≡ k → counted_in (eight t) c ≡ counted (said_by 0 (item k f.body)) c)
      f.tag (sound f).known_tag n
      (λ l q. rw q)
      (λ l q. rw q)
      (λ l q. rw q)
      (λ l q.
      let m = one_length 0x30 1 (length f.body) (λ x. rw x) l in
      rw (q, field_first_byte t b f.stands_there (omega arith)))
      (sound f).right_length e

  pub other_found : (c : Counts) {n : ℕ} → other_size z t ≡ Some n → OtherFound z t c n
  unfolding item room
  other_found c {n} h =
      by_test (node_tag (byte t 0))
      (λ e. absurd (none_some refl (rw e at h)))
      (λ e.
      let q = rw e at h in
      let f = good_field z t q in
      record {
        the_size = q;
        few_equations = λ q. ltb-true z.equations 64 (has_room_for f 0x20 q);
        few_freshness = λ q. ltb-true z.freshness 64 (has_room_for f 0x21 q);
        counted_so = counted_by c f (rw (first_is f) e) (field_tag t b f.stands_there) ∙ ap (λ x. counted x c) (sym f.says);
      })
