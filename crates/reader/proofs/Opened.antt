-- From the head on: what the input opens with decides what the reader answers and leaves, and the tables that it leaves hold the problem.
use Prim.Native.Nat.{ℕ, ◌+◌, ◌≤◌, ◌<◌}
use native.Mathlib.Omega.{arith}
use mathlib.Core.Path.{◌≡◌, refl, sym, ◌∙◌, ap, subst}
use mathlib.Core.Bool.{Bool, true, false, ◌&&◌, cond}
use mathlib.Core.List.{List, [], ◌∷◌}
use lib.ListN.{length, drop}
use lib.Dec.{leb, eqb}
use borrow.Author.Tests.{leb-true, le-leb, lt-leb, eqb-true}
use Rattle.field.specs.Field.{Field, cut, whole, front, byte, long, Bytes}
use Rattle.field.proofs.Standing.{stands, bytes_body}
use Rattle.problem.specs.Reader.{unreadable, base_tags, good_head, started, headed, head_field, read_all, reading}
use Rattle.problem.specs.Readable.{Readable}
use Rattle.reader.specs.Told.{told}
use Rattle.reader.specs.Tables.{ReaderTables, sets_cleared, head_noted, noted_all, left}
use Rattle.opening.specs.Head.{head_said, opened_by, opening_of}
use Rattle.reader.specs.Told.{read_on, note_on, FieldsRead, ReadAs}
use Rattle.problem.specs.declared.Counts.{Counts}
use Rattle.std.specs.Prelude.{Result, Ok, Err}
use Rattle.numbers.specs.Numbers.{number_of}
use Rattle.numbers.specs.declared.Reason.{Reason}
use Rattle.numbers.specs.declared.Reason.TheVariants as reason
use Rattle.numbers.specs.declared.Refusal.{Refusal}
use Rattle.opening.specs.declared.Head.{Head}
use Rattle.problem.proofs.Readable.{both, readable, headed_readable, not_read}
use Rattle.reader.proofs.Holding.{cleared_held}

-- A good head has nine bytes and few atoms and variables.
pub record GoodHead (s : List ℕ) (atoms variables limit : ℕ) : Type 0 where
  pub nine : 9 ≤ length s
  pub few_variables : variables ≤ 64
  pub all_read : read_all base_tags s ≡ read_on base_tags (started atoms variables limit) 9 (drop 9 s)
  pub all_noted : (t : ReaderTables) → noted_all base_tags s t ≡ note_on base_tags (started atoms variables limit) 9 (drop 9 s) (sets_cleared variables t)
  pub start_readable : Bytes s → Readable (started atoms variables limit)

head_chosen : (g : Bool) (x h : Head) → cond g (Ok x) (Err reason.NoHead) ≡ Ok h → (g ≡ true) × (x ≡ h)
head_chosen true x h e = (refl, cc)
head_chosen false x h e = absurd (cc)

head_refused : (g : Bool) (x : Head) (r : Reason) → cond g (Ok x) (Err reason.NoHead) ≡ Err r → (g ≡ false) × (r ≡ reason.NoHead)
head_refused true x r e = absurd (cc)
head_refused false x r e = (refl, cc)

six_bytes : (tag : ℕ) (s : List ℕ) → good_head tag s ≡ true → (length s ≡ 6) × (byte s 1 ≤ 64)
unfolding good_head
six_bytes tag s e =
    let g = both (eqb tag 0x01) (eqb (length s) 6 && (leb (byte s 0) 32 && leb (byte s 1) 64)) e in
    let h = both (eqb (length s) 6) (leb (byte s 0) 32 && leb (byte s 1) 64) g.1 in
    (eqb-true (length s) 6 h.0, leb-true (byte s 1) 64 (both (leb (byte s 0) 32) (leb (byte s 1) 64) h.1).1)

-- What the definitions say of the head at the front.
module _ (b : ℕ) (u : List ℕ) (tag : ℕ) (body rest : List ℕ) (w : front (b ∷ u) ≡ whole tag body rest) where
  head_read : good_head tag body ≡ true → read_all base_tags (b ∷ u) ≡ read_on base_tags (headed body) (3 + length body) rest
  unfolding read_all head_field
  head_read g = rw (w, g)

  head_noted_lem : good_head tag body ≡ true
      → (t : ReaderTables) → noted_all base_tags (b ∷ u) t ≡ note_on base_tags (headed body) (3 + length body) rest (sets_cleared (byte body 1) t)
  unfolding noted_all head_noted
  head_noted_lem g t = rw (w, g)

  bad_read : good_head tag body ≡ false → read_all base_tags (b ∷ u) ≡ unreadable 2 0
  unfolding read_all head_field
  bad_read g = rw (w, g)

  bad_noted : good_head tag body ≡ false → (t : ReaderTables) → noted_all base_tags (b ∷ u) t ≡ t
  unfolding noted_all head_noted
  bad_noted g t = rw (w, g)

headed_as : (body : List ℕ) (h : Head) → record { atoms = byte body 0; variables = byte body 1; limit = long body 2 } ≡ h
    → headed body ≡ started h.atoms h.variables h.limit
unfolding headed
headed_as body h e = ap (λ (y : Head). started y.atoms y.variables y.limit) e

pub good_head_lem : (s : List ℕ) (h : Head) → opening_of s ≡ Ok h → GoodHead s h.atoms h.variables h.limit
unfolding opening_of head_said
good_head_lem [] h e = absurd (cc)
good_head_lem (b ∷ u) h e = go (front (b ∷ u)) refl e
  where
    go : (f : Field) → front (b ∷ u) ≡ f → opened_by f ≡ Ok h → GoodHead (b ∷ u) h.atoms h.variables h.limit
    go cut w e = absurd (cc)
    go (whole tag body rest) w e =
        let q = head_chosen (good_head tag body) _ h e in
        let x = six_bytes tag body q.0 in
        let k = stands (b ∷ u) tag body rest w in
        let o : 3 + length body ≡ 9 = omega (arith, x.0) in
        let r : rest ≡ drop 9 (b ∷ u) = k.the_rest ∙ ap (λ n. drop n (b ∷ u)) o in
        let v : byte body 1 ≡ h.variables = ap (λ (y : Head). y.variables) q.1 in
        let p : headed body ≡ started h.atoms h.variables h.limit = headed_as body h q.1 in
        record {
          nine = omega (arith, k.fits, x.0);
          few_variables = rw v at x.1;
          all_read = head_read b u tag body rest w q.0 ∙ (λ i. read_on base_tags (p i) (o i) (r i));
          all_noted = λ t. head_noted_lem b u tag body rest w q.0 t ∙ (λ i. note_on base_tags (p i) (o i) (r i) (sets_cleared (v i) t));
          start_readable = λ y. subst Readable p (headed_readable tag body (bytes_body (b ∷ u) tag body rest y k) q.0);
        }

-- No good head, or one that is cut: it is refused so, and nothing is noted.
bad_opening : (s : List ℕ) (r : Reason) → opening_of s ≡ Err r
    → (read_all base_tags s ≡ unreadable (number_of r) 0) × ((t : ReaderTables) → noted_all base_tags s t ≡ t)
unfolding opening_of head_said read_all noted_all head_field head_noted
bad_opening [] r e = let q : r ≡ reason.NoHead = cc in (rw q, λ t. refl)
bad_opening (b ∷ u) r e = go (front (b ∷ u)) refl e
  where
    go : (f : Field) → front (b ∷ u) ≡ f → opened_by f ≡ Err r
        → (read_all base_tags (b ∷ u) ≡ unreadable (number_of r) 0) × ((t : ReaderTables) → noted_all base_tags (b ∷ u) t ≡ t)
    go cut w e = let q : r ≡ reason.Cut = cc in (rw (q, w), λ t. rw w)
    go (whole tag body rest) w e =
        let g = head_refused (good_head tag body) _ r e in
        (rw g.1 (bad_read b u tag body rest w g.0), bad_noted b u tag body rest w g.0)

-- The reader's contract, way by way.
refused_as : (s : List ℕ) (t : ReaderTables) (f : Refusal) → Bytes s → reading base_tags s ≡ unreadable (number_of f.reason) f.place → left base_tags s t ≡ t
    → ReadAs s t (Err f) t
refused_as s t f b e k =
    record {
      the_answer = sym (ap told e);
      the_tables = sym k;
      is_readable = λ p r. readable base_tags s p b r;
      is_held = λ p r. absurd (not_read (number_of f.reason) f.place p (sym e ∙ r));
    }

module _ (s : List ℕ) (t : ReaderTables) (b : Bytes s) where
  pub too_long : 65535 < length s → ReadAs s t (Err (record { reason = reason.TooLong; place = 0 })) t
  unfolding reading left
  too_long h = let e = lt-leb (length s) 65535 h in refused_as s t _ b (rw e) (rw e)

  module _ (h : length s ≤ 65535) where
    whole_reading : reading base_tags s ≡ read_all base_tags s
    unfolding reading
    whole_reading = rw (le-leb (length s) 65535 h)

    whole_left : left base_tags s t ≡ noted_all base_tags s t
    unfolding left
    whole_left = rw (le-leb (length s) 65535 h)

    pub not_opened : {r : Reason} → opening_of s ≡ Err r → ReadAs s t (Err (record { reason = r; place = 0 })) t
    not_opened {r} e = let k = bad_opening s r e in refused_as s t _ b (whole_reading ∙ k.0) (whole_left ∙ k.1 t)

    -- Behind a good head the fields are read, over tables whose sets are cleared.
    pub well_opened : (head : Counts) (u : ReaderTables) (r : Result Counts Refusal)
        → opening_of s ≡ Ok (record { atoms = head.atoms; variables = head.variables; limit = head.limit })
        → FieldsRead s head (sets_cleared head.variables t) r u → ReadAs s t r u
    well_opened head u r e f =
        let g = good_head_lem s _ e in
        record {
          the_answer = f.the_answer ∙ ap told (sym (whole_reading ∙ g.all_read));
          the_tables = f.the_tables ∙ sym (whole_left ∙ g.all_noted t);
          is_readable = λ p q. readable base_tags s p b q;
          is_held = λ p q.
              f.is_held p (cleared_held s head.atoms head.variables head.limit t) (sym (whole_reading ∙ g.all_read) ∙ q);
        }
