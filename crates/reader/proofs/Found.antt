-- What the tests of a field's first eight bytes as one number find is just whether the field is whole and has no fault.
use Prim.Native.Nat.{ℕ, ◌+◌, ◌*◌, ◌-◌, ◌%◌, ◌≤◌, ◌<◌}
use native.Mathlib.Omega.{arith}
use mathlib.Core.Path.{◌≡◌, refl, sym, ◌∙◌, ap}
use mathlib.Core.Bool.{Bool, true, false, not, ◌&&◌, cond, and-true, and-false}
use mathlib.Core.List.{List, [], ◌∷◌}
use lib.ListN.{length, take, drop}
use lib.Seq.{drop-drop}
use Rattle.std.specs.Prelude.{Option, Some, None}
use lib.Dec.{eqb, leb, ltb}
use borrow.Author.Tests.{eq-eqb, ne_eqb, lt-ltb, le-leb, lt-leb, eqb-true}
use Rattle.names.proofs.Equal.{by_eq, by_lt}
use Rattle.sets.proofs.Bits.{by_test}
use Rattle.field.specs.Field.{Field, cut, whole, front, byte, word, Bytes}
use Rattle.field.specs.Front.{front_of}
use Rattle.field.specs.Word.{eight, tag_in, length_in, key_in}
use Rattle.field.proofs.Standing.{stands}
use Rattle.field.proofs.Told.{is_whole}
use Rattle.field.proofs.Words.{eight_tag, eight_length, eight_key, field_tag, field_length, field_first_byte, field_second_byte}
use Rattle.field.proofs.Words.{field_first_two, field_middle_two, field_last_two}
use Rattle.problem.specs.Reader.{Sizes, base_tags, length_fits, item, room, there, fault}
use Rattle.problem.proofs.Kept.{behind_first}
use Rattle.says.specs.Told.{below}
use Rattle.says.proofs.Saying.{suspended}
use Rattle.reader.specs.Found.{size_if_good, good_size, unit_good, atom_good, abstraction_good, pair_good, application_good}
use Rattle.reader.specs.Found.{suspension_good, equation_good, freshness_good, assumption_good, protection_good, Seen}

-- The number of the first of three tests that fails, of a known tag.
abbrev three_tests : Bool → Bool → Bool → ℕ
three_tests fits has_room is_there = cond (not fits) 5 (cond (not has_room) 6 (cond (not is_there) 7 0))

three_pass : (fits has_room is_there : Bool) (n : Option ℕ)
    → cond (fits && (has_room && is_there)) n None ≡ cond (eqb (three_tests fits has_room is_there) 0) n None
three_pass true true true n = refl
three_pass true true false n = refl
three_pass true false c n = refl
three_pass false b c n = refl

-- A field that is cut would reach past the bytes that are left; one of which enough was seen has then a long body.
cut_far : (t : List ℕ) → Bytes t → front t ≡ cut → length t < 3 + length_in (eight t)
unfolding front_of
cut_far [] b e = omega arith
cut_far (a ∷ s) b e =
    by_lt (length (a ∷ s)) (3 + length_in (eight (a ∷ s)))
    (λ h. h)
    (λ h.
    let l = eight_length (a ∷ s) b in
    let w = is_whole (a ∷ s) (length_in (eight (a ∷ s))) l (omega arith) (omega arith) in
    let k : ◌≡◌ {A = ℕ} 0 1 = cc (e, w) in
    absurd (omega arith))

long_body : (t : List ℕ) → Bytes t → Seen t → front t ≡ cut → 5 < length_in (eight t)
long_body t b seen e =
    let h = cut_far t b e in by_lt (length t) 8 (λ l. let k = seen l in absurd (omega arith)) (λ l. omega arith)

-- ---- the swaps of a suspension: behind the first byte of its body

one_byte : (s : List ℕ) → length s ≡ 1 → drop 1 s ≡ []
one_byte [] e = refl
one_byte (a ∷ []) e = refl
one_byte (a ∷ c ∷ s) e = absurd (omega arith)

swaps_are : (t : List ℕ) {tag : ℕ} {body rest : List ℕ} → front t ≡ whole tag body rest → 1 ≤ length body
    → take (length body - 1) (drop 4 t) ≡ drop 1 body
swaps_are t {tag} {body} {rest} e h =
    sym
    (ap (drop 1) (stands t tag body rest e).the_body
    ∙ (behind_first (length body) (drop 3 t) h ∙ ap (take (length body - 1)) (drop-drop 1 3 t)))

-- ---- tags with one length

module _ (z : Sizes) (t : List ℕ) (b : Bytes t) (seen : Seen t) where
  -- Tag and length are looked at together.
  key_is : (k : ℕ) → tag_in (eight t) ≡ k → key_in (eight t) ≡ k * 65536 + length_in (eight t)
  key_is k e = omega (arith, eight_key t b, eight_length t b, eight_tag t b)

  module _ (k n : ℕ) (few : n ≤ 5) (tagged : tag_in (eight t) ≡ k) (has_room test : Bool) (is_there : List ℕ → Bool)
      (fits : (body : List ℕ) → eqb (length body) n ≡ true → fault base_tags z k body ≡ three_tests true has_room (is_there body))
      (misfits : (body : List ℕ) → eqb (length body) n ≡ false → fault base_tags z k body ≡ 5)
      (tested : (body rest : List ℕ) → front t ≡ whole k body rest → length body ≡ n → test ≡ has_room && is_there body) where
    sized_in : (x : Field) → front t ≡ x → cond (eqb (key_in (eight t)) (k * 65536 + n) && test) (Some (3 + n)) None ≡ size_if_good z x
    sized_in cut e =
        let h = long_body t b seen e in rw (ne_eqb (key_in (eight t)) (k * 65536 + n) (λ q. omega (arith, key_is k tagged)))
    sized_in (whole tag body rest) e =
        let q : tag ≡ k = sym (field_tag t b e) ∙ tagged in
        let l = field_length t b e in
        by_eq (length body) n
        (λ m.
        let y = eq-eqb (length body) n m in
        let x : key_in (eight t) ≡ k * 65536 + n = omega (arith, key_is k tagged) in
        rw (q, eq-eqb (key_in (eight t)) (k * 65536 + n) x, tested body rest (rw q at e) m, fits body y, m)
        (three_pass true has_room (is_there body) (Some (3 + n))))
        (λ m.
        rw (q, ne_eqb (key_in (eight t)) (k * 65536 + n) (λ x. m (omega (arith, key_is k tagged))), misfits body (ne_eqb (length body) n m)))

    sized_as : cond (eqb (key_in (eight t)) (k * 65536 + n) && test) (Some (3 + n)) None ≡ good_size z t
    unfolding good_size
    sized_as = sized_in (front t) refl

  -- ---- nodes, where there is room for one more

  module _ (h : z.nodes < 512) where
    pub unit_size : tag_in (eight t) ≡ 0x10 → cond (unit_good (eight t)) (Some 3) None ≡ good_size z t
    unfolding fault base_tags length_fits item room there
    unit_size e =
        ap (λ g. cond g (Some 3) None) (sym (and-true (unit_good (eight t))))
        ∙ sized_as 0x10 0 (omega arith) e (ltb z.nodes 512) true (λ s. true) (λ s q. rw q) (λ s q. rw q)
        (λ s r w l. rw (lt-ltb z.nodes 512 h))

    pub atom_size : tag_in (eight t) ≡ 0x11 → cond (atom_good z.atoms (eight t)) (Some 4) None ≡ good_size z t
    unfolding fault base_tags length_fits item room there
    atom_size e =
        sized_as 0x11 1 (omega arith) e (ltb z.nodes 512) _ (λ s. ltb (byte s 0) z.atoms) (λ s q. rw q) (λ s q. rw q)
        (λ s r w l. rw (lt-ltb z.nodes 512 h, field_first_byte t b w (omega arith)))

    pub abstraction_size : tag_in (eight t) ≡ 0x12 → cond (abstraction_good z.atoms z.nodes (eight t)) (Some 6) None ≡ good_size z t
    unfolding fault base_tags length_fits item room there
    abstraction_size e =
        sized_as 0x12 3 (omega arith) e (ltb z.nodes 512) _ (λ s. ltb (byte s 0) z.atoms && ltb (word s 1) z.nodes) (λ s q. rw q) (λ s q. rw q)
        (λ s r w l. rw (lt-ltb z.nodes 512 h, field_first_byte t b w (omega arith), field_middle_two t b w (omega arith)))

    pub pair_size : tag_in (eight t) ≡ 0x13 → cond (pair_good z.nodes (eight t)) (Some 7) None ≡ good_size z t
    unfolding fault base_tags length_fits item room there
    pair_size e =
        sized_as 0x13 4 (omega arith) e (ltb z.nodes 512) _ (λ s. ltb (word s 0) z.nodes && ltb (word s 2) z.nodes) (λ s q. rw q) (λ s q. rw q)
        (λ s r w l. rw (lt-ltb z.nodes 512 h, field_first_two t b w (omega arith), field_last_two t b w (omega arith)))

    pub application_size : tag_in (eight t) ≡ 0x14 → cond (application_good z.nodes (eight t)) (Some 7) None ≡ good_size z t
    unfolding fault base_tags length_fits item room there
    application_size e =
        sized_as 0x14 4 (omega arith) e (ltb z.nodes 512) _ (λ s. ltb (word s 2) z.nodes) (λ s q. rw q) (λ s q. rw q)
        (λ s r w l. rw (lt-ltb z.nodes 512 h, field_last_two t b w (omega arith)))

    -- A suspension's swaps are looked at in the bytes.
    module _ (e : tag_in (eight t) ≡ 0x15) where
      suspension_in : (x : Field) → front t ≡ x
          → cond (suspension_good z.atoms z.variables t (eight t)) (Some (3 + length_in (eight t))) None ≡ size_if_good z x
      unfolding fault base_tags length_fits item room there
      suspension_in cut f =
          let far = cut_far t b f in
          let long = long_body t b seen f in
          simp (ne_eqb (key_in (eight t)) 0x150001 (λ q. omega (arith, key_is 0x15 e)), lt-leb (3 + length_in (eight t)) (length t) far, and-false)
      suspension_in (whole tag body rest) f =
          let q : tag ≡ 0x15 = sym (field_tag t b f) ∙ e in
          let l = field_length t b f in
          let k = key_is 0x15 e in
          by_eq (length body) 1
          (λ m.
          rw (
            q,
            l,
            eq-eqb (key_in (eight t)) 0x150001 (omega arith),
            field_first_byte t b f (omega arith),
            one_byte body m,
            m,
            lt-ltb z.nodes 512 h,
          )
          (three_pass true true (ltb (byte body 0) z.variables && true) (Some 4)))
          (λ m.
          let no_key = ne_eqb (key_in (eight t)) 0x150001 (λ x. m (omega arith)) in
          by_test (eqb (length body % 2) 1)
          (λ odd.
          let some : 1 ≤ length body = omega (arith, eqb-true (length body % 2) 1 odd) in
          by_test (leb (length body) 65)
          (λ few.
          rw (
            q,
            l,
            no_key,
            odd,
            few,
            le-leb (3 + length body) (length t) (stands t tag body rest f).fits,
            swaps_are t f some,
            field_first_byte t b f some,
            lt-ltb z.nodes 512 h,
            suspended z.atoms body (eqb-true (length body % 2) 1 odd),
          )
          (three_pass true true (ltb (byte body 0) z.variables && below z.atoms (drop 1 body)) (Some (3 + length body))))
          (λ many. rw (q, l, no_key, odd, many, and-false)))
          (λ even. rw (q, l, no_key, even, and-false)))

      pub suspension_size : cond (suspension_good z.atoms z.variables t (eight t)) (Some (3 + length_in (eight t))) None ≡ good_size z t
      unfolding good_size
      suspension_size = suspension_in (front t) refl

  -- ---- the other fields

  pub equation_size : tag_in (eight t) ≡ 0x20 → cond (equation_good z (eight t)) (Some 7) None ≡ good_size z t
  unfolding fault base_tags length_fits item room there
  equation_size e =
      sized_as 0x20 4 (omega arith) e (ltb z.equations 64) _ (λ s. ltb (word s 0) z.nodes && ltb (word s 2) z.nodes) (λ s q. rw q) (λ s q. rw q)
      (λ s r w l. rw (field_first_two t b w (omega arith), field_last_two t b w (omega arith)))

  pub freshness_size : tag_in (eight t) ≡ 0x21 → cond (freshness_good z (eight t)) (Some 6) None ≡ good_size z t
  unfolding fault base_tags length_fits item room there
  freshness_size e =
      sized_as 0x21 3 (omega arith) e (ltb z.freshness 64) _ (λ s. ltb (byte s 0) z.atoms && ltb (word s 1) z.nodes) (λ s q. rw q) (λ s q. rw q)
      (λ s r w l. rw (field_first_byte t b w (omega arith), field_middle_two t b w (omega arith)))

  pub assumption_size : tag_in (eight t) ≡ 0x22 → cond (assumption_good z (eight t)) (Some 5) None ≡ good_size z t
  unfolding fault base_tags length_fits item room there
  assumption_size e =
      sized_as 0x22 2 (omega arith) e true _ (λ s. ltb (byte s 0) z.atoms && ltb (byte s 1) z.variables) (λ s q. rw q) (λ s q. rw q)
      (λ s r w l. rw (field_first_byte t b w (omega arith), field_second_byte t b w (omega arith)))

  pub protection_size : tag_in (eight t) ≡ 0x30 → cond (protection_good z (eight t)) (Some 4) None ≡ good_size z t
  unfolding fault base_tags length_fits item room there
  protection_size e =
      sized_as 0x30 1 (omega arith) e true _ (λ s. ltb (byte s 0) z.variables) (λ s q. rw q) (λ s q. rw q)
      (λ s r w l. rw (field_first_byte t b w (omega arith)))
