-- One field by the function of its tag: what that found and kept is the step that the definitions make.
use Prim.Native.Nat.{ℕ, ◌+◌, ◌<◌}
use native.Mathlib.Omega.{arith}
use mathlib.Core.Path.{◌≡◌, refl, sym, ◌∙◌, ap}
use mathlib.Core.Bool.{Bool, true, false, cond}
use mathlib.Core.List.{List}
use lib.ListN.{length, set, get_or}
use Rattle.std.specs.Prelude.{Option, Some, None, Result, Ok}
use Rattle.sets.specs.Bits.{inserted, union}
use Rattle.field.specs.Field.{whole, front, byte, Bytes}
use Rattle.field.specs.Word.{eight, tag_in, length_in, first_byte_in, second_byte_in, first_two_in, middle_two_in, last_two_in}
use Rattle.field.proofs.Words.{eight_tag, field_first_byte, field_second_byte}
use Rattle.problem.specs.Reader.{length_fits, item}
use Rattle.problem.proofs.Kept.{one_length}
use Rattle.problem.specs.Held.{kept_word, with_place}
use Rattle.problem.specs.Look.{form_in}
use Rattle.problem.specs.declared.Counts.{Counts}
use Rattle.says.specs.Told.{said_by}
use Rattle.says.specs.declared.Said.{Said}
use Rattle.numbers.specs.declared.Reason.{Reason}
use Rattle.says.specs.declared.Said.TheVariants.{Node, Equation, Freshness, Assumption, Protection}
use Rattle.variables.specs.Variables.{set_of, variables_of}
use Rattle.reader.specs.Tables.{ReaderTables, reader_tables, noted}
use Rattle.reader.specs.Noting.{RowFor}
use Rattle.reader.specs.Found.{sized_by, good_size, node_tag, said_at, unit_good, atom_good, abstraction_good, pair_good}
use Rattle.reader.specs.Found.{application_good, suspension_good, equation_good, freshness_good, assumption_good, protection_good}
use Rattle.reader.specs.Found.{Kept, Seen, Stepped, NodeStepped, OtherStepped}
use Rattle.reader.proofs.Found.{unit_size, atom_size, abstraction_size, pair_size, application_size, suspension_size}
use Rattle.reader.proofs.Found.{equation_size, freshness_size, assumption_size, protection_size}
use Rattle.reader.proofs.Keeping.{none_some, not_chosen, is_chosen}
use Rattle.reader.proofs.Stepping.{good_field, first_is, sound}

-- ---- tables that are kept or stay

module _ {good : Bool} {size n value : ℕ} {r : Option ℕ} {before after : List ℕ} (k : Kept good size n value r before after) where
  stays_so : r ≡ None → after ≡ before
  stays_so e = rw (not_chosen good size k.the_size e) at k.the_table

  is_set : {m : ℕ} → r ≡ Some m → (after ≡ set before n value) × (n < length before)
  is_set e = let q = (is_chosen good size k.the_size e).0 in (rw q at k.the_table, k.row q)

-- Nothing is found, and nothing is kept.
pub none_found : {size : Option ℕ} {t : List ℕ} {o : ℕ} {c : Counts} {before : ReaderTables} → size ≡ None → Stepped size t o c before None before
none_found e = record { the_size = sym e; stays = λ q. refl; goes = λ n h. absurd (none_some refl h); row = λ n h. absurd (none_some refl h) }

-- ---- one step

module _ (t : List ℕ) (b : Bytes t) (o : ℕ) (c : Counts) where
  -- What a field of this tag says, where it has a size.
  module _ (k : ℕ) (tagged : tag_in (eight t) ≡ k) where
    first_byte : byte t 0 ≡ k
    first_byte = sym (eight_tag t b) ∙ tagged

    says_so : {said : Result Said Reason}
        → ((body rest : List ℕ) → front t ≡ whole k body rest → length_fits k (length body) ≡ true → said_by 0 (item k body) ≡ said)
        → {n : ℕ} → good_size (sized_by c) t ≡ Some n → said_at t ≡ said
    says_so {said} g {n} h =
        let f = good_field (sized_by c) t h in
        let q : f.tag ≡ k = first_is (sized_by c) t b f ∙ first_byte in
        f.says
        ∙ (ap (λ x. said_by 0 (item x f.body)) q
        ∙ g f.body f.rest (rw q at f.stands_there) (rw q at (sound (sized_by c) t b f).right_length))

    step : {said : Result Said Reason} {size r : Option ℕ} {before after : ReaderTables}
        → ((body rest : List ℕ) → front t ≡ whole k body rest → length_fits k (length body) ≡ true → said_by 0 (item k body) ≡ said)
        → r ≡ good_size (sized_by c) t → good_size (sized_by c) t ≡ size
        → (r ≡ None → after ≡ before)
        → ((n : ℕ) → r ≡ Some n → (after ≡ noted said (eight t) o c before) × RowFor said c before)
        → Stepped size t o c before r after
    step {said} {size} {r} {before} {after} g q e stay go =
        record {
          the_size = q ∙ e;
          stays = stay;
          goes = λ n h. rw (says_so g (sym q ∙ h)) (go n h).0;
          row = λ n h. rw (says_so g (sym q ∙ h)) (go n h).1;
        }

    module _ (places variables : List ℕ) (kind : node_tag k ≡ true) where
      -- A node, which has a row of its own in two tables.
      node_step : {good : Bool} {size word own : ℕ} {r : Option ℕ} {places' variables' : List ℕ}
          → ((body rest : List ℕ) → front t ≡ whole k body rest → length_fits k (length body) ≡ true → said_by 0 (item k body) ≡ Ok Node)
          → cond good (Some size) None ≡ good_size (sized_by c) t → word ≡ kept_word o (eight t) → own ≡ variables_of variables (form_in (eight t))
          → Kept good size c.nodes word r places places' × Kept good size c.nodes own r variables variables'
          → NodeStepped t o c places variables r places' variables'
      node_step g e w v h assumed =
          step g (h.0.the_size ∙ e) (rw (first_byte, kind))
          (λ q. let x = stays_so h.0 q in let y = stays_so h.1 q in (λ i. reader_tables (x i) assumed (y i)))
          (λ n q.
          let x = is_set h.0 q in
          let y = is_set h.1 q in
          let p = x.0 ∙ ap (set places c.nodes) w in
          let u = y.0 ∙ ap (set variables c.nodes) v in
          ((λ i. reader_tables (p i) assumed (u i)), (x.1, y.1)))

-- A node may stand here: of its bytes enough are there, and there is room for one more.
pub record NodeAt (t : List ℕ) (c : Counts) : Type 0 where
  pub bytes : Bytes t
  pub seen : Seen t
  pub few : c.nodes < 512

module _ {t : List ℕ} {o : ℕ} {c : Counts} {places variables : List ℕ} {r : Option ℕ} {places' variables' : List ℕ} (n : NodeAt t c) where
  pub unit_step : tag_in (eight t) ≡ 0x10
      → Kept (unit_good (eight t)) 3 c.nodes (eight t) r places places' × Kept (unit_good (eight t)) 3 c.nodes 0 r variables variables'
      → NodeStepped t o c places variables r places' variables'
  unfolding form_in item
  unit_step e =
      node_step t n.bytes o c 0x10 e places variables refl (λ s u x l. refl)
      (unit_size (sized_by c) t n.bytes n.seen n.few e) (rw e) (rw e)

  pub atom_step : tag_in (eight t) ≡ 0x11
      → Kept (atom_good c.atoms (eight t)) 4 c.nodes (eight t) r places places'
      × Kept (atom_good c.atoms (eight t)) 4 c.nodes 0 r variables variables'
      → NodeStepped t o c places variables r places' variables'
  unfolding form_in item
  atom_step e =
      node_step t n.bytes o c 0x11 e places variables refl (λ s u x l. refl)
      (atom_size (sized_by c) t n.bytes n.seen n.few e) (rw e) (rw e)

  pub abstraction_step : tag_in (eight t) ≡ 0x12
      → Kept (abstraction_good c.atoms c.nodes (eight t)) 6 c.nodes (eight t) r places places'
      × Kept (abstraction_good c.atoms c.nodes (eight t)) 6 c.nodes (set_of variables (middle_two_in (eight t))) r variables variables'
      → NodeStepped t o c places variables r places' variables'
  unfolding form_in item
  abstraction_step e =
      node_step t n.bytes o c 0x12 e places variables refl (λ s u x l. refl)
      (abstraction_size (sized_by c) t n.bytes n.seen n.few e) (rw e) (rw e)

  pub pair_step : tag_in (eight t) ≡ 0x13
      → Kept (pair_good c.nodes (eight t)) 7 c.nodes (eight t) r places places'
      × Kept (pair_good c.nodes (eight t)) 7 c.nodes
      (union (set_of variables (first_two_in (eight t))) (set_of variables (last_two_in (eight t)))) r variables variables'
      → NodeStepped t o c places variables r places' variables'
  unfolding form_in item
  pair_step e =
      node_step t n.bytes o c 0x13 e places variables refl (λ s u x l. refl)
      (pair_size (sized_by c) t n.bytes n.seen n.few e) (rw e) (rw e)

  pub application_step : tag_in (eight t) ≡ 0x14
      → Kept (application_good c.nodes (eight t)) 7 c.nodes (eight t) r places places'
      × Kept (application_good c.nodes (eight t)) 7 c.nodes (set_of variables (last_two_in (eight t))) r variables variables'
      → NodeStepped t o c places variables r places' variables'
  unfolding form_in item
  application_step e =
      node_step t n.bytes o c 0x14 e places variables refl (λ s u x l. refl)
      (application_size (sized_by c) t n.bytes n.seen n.few e) (rw e) (rw e)

  pub suspension_step : tag_in (eight t) ≡ 0x15
      → Kept (suspension_good c.atoms c.variables t (eight t)) (3 + length_in (eight t)) c.nodes (with_place o (eight t)) r places places'
      × Kept (suspension_good c.atoms c.variables t (eight t)) (3 + length_in (eight t)) c.nodes (inserted 64 0 (first_byte_in (eight t))) r
      variables variables'
      → NodeStepped t o c places variables r places' variables'
  unfolding form_in item
  suspension_step e =
      node_step t n.bytes o c 0x15 e places variables refl (λ s u x l. refl)
      (suspension_size (sized_by c) t n.bytes n.seen n.few e) (rw e) (rw e)

-- Atom and variable are read off the number as they are off the body.
module _ (t : List ℕ) (b : Bytes t) where
  assumption_said : (s u : List ℕ) → front t ≡ whole 0x22 s u → length_fits 0x22 (length s) ≡ true
      → said_by 0 (item 0x22 s) ≡ Ok (Assumption (record { 0 = first_byte_in (eight t) }) (record { 0 = second_byte_in (eight t) }))
  unfolding item length_fits
  assumption_said s u x l =
      let m = one_length 0x22 2 (length s) (λ q. rw q) l in
      rw (field_first_byte t b x (omega arith), field_second_byte t b x (omega arith))

  protection_said : (s u : List ℕ) → front t ≡ whole 0x30 s u → length_fits 0x30 (length s) ≡ true
      → said_by 0 (item 0x30 s) ≡ Ok (Protection (record { 0 = first_byte_in (eight t) }))
  unfolding item length_fits
  protection_said s u x l =
      let m = one_length 0x30 1 (length s) (λ q. rw q) l in rw (field_first_byte t b x (omega arith))

-- The other fields, of whose bytes enough are there.
module _ {t : List ℕ} {o : ℕ} {c : Counts} {places assumed : List ℕ} (b : Bytes t) (seen : Seen t) where
  -- A row behind the nodes is set.
  place_step : {good : Bool} {size row : ℕ} {r : Option ℕ} {places' : List ℕ} (k : ℕ) (said : Result Said Reason) → tag_in (eight t) ≡ k → node_tag k ≡ false
      → ((body rest : List ℕ) → front t ≡ whole k body rest → length_fits k (length body) ≡ true → said_by 0 (item k body) ≡ said)
      → ((before : ReaderTables)
      → noted said (eight t) o c before ≡ reader_tables (set before.places row (eight t)) before.assumed before.variables)
      → ((before : ReaderTables) → row < length before.places → RowFor said c before)
      → cond good (Some size) None ≡ good_size (sized_by c) t → Kept good size row (eight t) r places places'
      → OtherStepped t o c places assumed r places' assumed
  place_step k said e f g is_noted has_row q h variables =
      step t b o c k e g (h.the_size ∙ q) (rw (first_byte t b o c k e, f))
      (λ z. ap (λ p. reader_tables p assumed variables) (stays_so h z))
      (λ n z.
      let x = is_set h z in
      (ap (λ p. reader_tables p assumed variables) x.0 ∙ sym (is_noted (reader_tables places assumed variables)), has_row _ x.1))

  pub equation_step : {r : Option ℕ} {places' : List ℕ} → tag_in (eight t) ≡ 0x20
      → Kept (equation_good (sized_by c) (eight t)) 7 (512 + c.equations) (eight t) r places places'
      → OtherStepped t o c places assumed r places' assumed
  unfolding item
  equation_step e =
      place_step 0x20 (Ok Equation) e refl (λ s u x l. refl) (λ before. refl) (λ before h. h) (equation_size (sized_by c) t b seen e)

  pub freshness_step : {r : Option ℕ} {places' : List ℕ} → tag_in (eight t) ≡ 0x21
      → Kept (freshness_good (sized_by c) (eight t)) 6 (576 + c.freshness) (eight t) r places places'
      → OtherStepped t o c places assumed r places' assumed
  unfolding item
  freshness_step e =
      place_step 0x21 (Ok Freshness) e refl (λ s u x l. refl) (λ before. refl) (λ before h. h) (freshness_size (sized_by c) t b seen e)

  pub assumption_step : {r : Option ℕ} {assumed' : List ℕ} → tag_in (eight t) ≡ 0x22
      → Kept (assumption_good (sized_by c) (eight t)) 5 (second_byte_in (eight t))
      (inserted 32 (get_or assumed (second_byte_in (eight t)) 0) (first_byte_in (eight t))) r assumed assumed'
      → OtherStepped t o c places assumed r places assumed'
  assumption_step e h variables =
      step t b o c 0x22 e (assumption_said t b) (h.the_size ∙ assumption_size (sized_by c) t b seen e) (rw (first_byte t b o c 0x22 e))
      (λ q. ap (λ p. reader_tables places p variables) (stays_so h q))
      (λ n q. let x = is_set h q in (ap (λ p. reader_tables places p variables) x.0, x.1))

  pub protection_step : {r : Option ℕ} → tag_in (eight t) ≡ 0x30 → r ≡ cond (protection_good (sized_by c) (eight t)) (Some 4) None
      → OtherStepped t o c places assumed r places assumed
  protection_step e h variables =
      step t b o c 0x30 e (protection_said t b) (h ∙ protection_size (sized_by c) t b seen e) (rw (first_byte t b o c 0x30 e))
      (λ q. refl)
      (λ n q. (refl, tt))
