-- The reader's way through the fields: where it begins, one field further, and what it amounts to where it ends.
use Prim.Native.Nat.{ℕ, ◌+◌, ◌≤◌, ◌<◌}
use native.Mathlib.Omega.{arith}
use mathlib.Core.Path.{◌≡◌, refl, sym, ◌∙◌, ap, subst, subst₂}
use mathlib.Core.List.{List}
use lib.ListN.{length, drop, length-drop}
use lib.Seq.{drop-drop, drop-length}
use Rattle.std.specs.Prelude.{Some, None, Result, Ok, Err}
use Rattle.numbers.specs.Numbers.{given_of}
use Rattle.numbers.specs.declared.Reason.{Reason}
use Rattle.numbers.specs.declared.Refusal.{Refusal}
use borrow.Author.Tests.{eq-eqb}
use Rattle.field.specs.Field.{Field, cut, whole, front, Bytes}
use Rattle.field.specs.Word.{eight}
use Rattle.field.proofs.Standing.{stands}
use Rattle.problem.specs.Problem.{Problem}
use Rattle.problem.specs.Reader.{Item, node, equation, freshness, assumption, protection, unreadable, base_tags, item, sizes, add, fault}
use Rattle.problem.specs.Readable.{Readable}
use Rattle.problem.specs.Held.{ItemStands}
use Rattle.problem.specs.Told.{counts_of}
use Rattle.problem.specs.declared.Counts.{Counts}
use Rattle.problem.proofs.Readable.{one_more, kept, faultless, same_problem, not_read}
use Rattle.says.specs.Told.{said_by}
use Rattle.says.specs.declared.Said.{Said}
use Rattle.reader.specs.Tables.{ReaderTables, noted}
use Rattle.reader.specs.Noting.{counted, RowFor, Headed}
use Rattle.reader.specs.Told.{told, HeldIn, read_on, note_on, FieldsRead}
use Rattle.reader.specs.Found.{sized_by, good_size, said_at, refusal_in, refusal_at}
use Rattle.reader.specs.Onward.{Onward}
use Rattle.reader.proofs.Keeping.{none_some}
use Rattle.reader.proofs.OneField.{field_sound, field_faulty, cut_field, no_field}
use Rattle.reader.proofs.Holding.{all_in_more, noted_held}
use Rattle.reader.proofs.Stepping.{good_field}

-- ---- what the code counts

counts_sizes : (p : Problem) → sized_by (counts_of p) ≡ sizes p
unfolding counts_of sizes
counts_sizes p = refl

-- The counts keep up with the problem.
counts_more : (p : Problem) (o : ℕ) (i : Item) → counted (said_by 0 i) (counts_of p) ≡ counts_of (add p o i)
unfolding counts_of add
counts_more p o (node f) = rw (one_more p.nodes f)
counts_more p o (equation e) = rw (one_more p.equations e)
counts_more p o (freshness a n) = rw (one_more p.freshness (record { atom = a; node = n; offset = o }))
counts_more p o (assumption a X) = refl
counts_more p o (protection X) = rw (all_in_more 0 p.protected X)

-- ---- from field to field

pub begin : (s : List ℕ) (head : Counts) (t : ReaderTables) → Headed (length s) head → Onward s head t 9 head t
begin s head t r =
    record {
      problem = _;
      counts = r.nothing;
      readable = r.readable;
      inside = r.nine;
      short = r.short;
      same_reading = refl;
      same_tables = refl;
      holds = λ h. h;
    }

module _ {s : List ℕ} {head : Counts} {start : ReaderTables} {o : ℕ} {c : Counts} {t : ReaderTables} (w : Onward s head start o c t) where
  pub few_variables : c.variables ≤ 64
  unfolding counts_of
  few_variables = rw w.counts w.readable.few_variables

  pub few_nodes : c.nodes ≤ 512
  unfolding counts_of
  few_nodes = rw w.counts w.readable.few_nodes

  the_sizes : sized_by c ≡ sizes w.problem
  the_sizes = ap sized_by w.counts ∙ counts_sizes w.problem

  -- ---- at the end of the bytes, and at a field that is refused

  pub all_read : o ≡ length s → FieldsRead s head start (Ok c) t
  all_read e =
      let k = no_field base_tags w.problem o (drop o s) (rw e (drop-length s)) in
      let r = w.same_reading ∙ k.0 in
      record {
        the_answer = ap Ok w.counts ∙ sym (ap told r);
        the_tables = sym (w.same_tables ∙ k.1 t);
        is_held = λ p h q. subst (HeldIn s t) (same_problem (sym r ∙ q)) (w.holds h);
      }

  refused_as : (n : ℕ) {f : Refusal} → given_of f ≡ record { number = n; place = o }
      → (read_on base_tags w.problem o (drop o s) ≡ unreadable n o) × ((u : ReaderTables) → note_on base_tags w.problem o (drop o s) u ≡ u)
      → FieldsRead s head start (Err f) t
  refused_as n g k =
      let r = w.same_reading ∙ k.0 in
      record {
        the_answer = ap Err g ∙ sym (ap told r);
        the_tables = sym (w.same_tables ∙ k.1 t);
        is_held = λ p h q. absurd (not_read n o p (sym r ∙ q));
      }

  refused_in : (x : Field) {f : Refusal} → front (drop o s) ≡ x → o < length s → good_size (sized_by c) (drop o s) ≡ None
      → given_of f ≡ refusal_in (sized_by c) o x → FieldsRead s head start (Err f) t
  unfolding good_size
  refused_in cut e l z g = refused_as 3 g (cut_field base_tags w.problem o (drop o s) (omega (arith, length-drop o s)) e)
  refused_in (whole tag body rest) e l z g =
      let n = fault base_tags (sized_by c) tag body in
      let bad : n ≡ 0 → ⊥ = λ q. none_some refl (sym (rw (e, eq-eqb n 0 q) at z)) in
      refused_as n g
      (field_faulty base_tags w.problem o (drop o s) tag n body rest e (ap (λ y. fault base_tags y tag body) (sym the_sizes)) bad)

  pub refused_here : {f : Refusal} → o < length s → good_size (sized_by c) (drop o s) ≡ None
      → given_of f ≡ refusal_at (sized_by c) o (drop o s) → FieldsRead s head start (Err f) t
  unfolding refusal_at
  refused_here = refused_in (front (drop o s)) refl

  -- ---- a field without fault

  pub again : {r : ℕ} {u : ReaderTables} → Bytes s → good_size (sized_by c) (drop o s) ≡ Some r
      → u ≡ noted (said_at (drop o s)) (eight (drop o s)) o c t → RowFor (said_at (drop o s)) c t
      → Onward s head start (o + r) (counted (said_at (drop o s)) c) u
  again {r} {u} b q e row =
      let f = good_field (sized_by c) (drop o s) q in
      let tag = f.tag in
      let body = f.body in
      let i = item tag body in
      let p = w.problem in
      let none : fault base_tags (sizes p) tag body ≡ 0 = ap (λ y. fault base_tags y tag body) (sym the_sizes) ∙ f.no_fault in
      let sound = faultless base_tags (sizes p) tag body none in
      let there = stands (drop o s) tag body f.rest f.stands_there in
      let size : 3 + length body ≡ r = let x = f.the_size in cc in
      let rest : f.rest ≡ drop (o + r) s = there.the_rest ∙ (drop-drop (3 + length body) o s ∙ ap (λ k. drop (o + k) s) size) in
      let more : Readable (add p o i) = kept p o i w.readable sound.has_room sound.all_there in
      let goes = field_sound base_tags p o (drop o s) tag body f.rest f.stands_there none in
      let tables : noted (said_by 0 i) (eight (drop o s)) o (counts_of p) t ≡ u =
      sym (e ∙ (λ k. noted (f.says k) (eight (drop o s)) o (w.counts k) t)) in
      let item_there : ItemStands s o i = record {
        tag = tag;
        body = body;
        rest = f.rest;
        stands = f.stands_there;
        known = sound.known_tag;
        fits = sound.right_length;
        says = refl;
      } in
      record {
        problem = add p o i;
        counts = (λ k. counted (f.says k) (w.counts k)) ∙ counts_more p o i;
        readable = more;
        inside = omega (arith, there.fits, length-drop o s);
        short = w.short;
        same_reading = w.same_reading ∙ (goes.0 ∙ (λ k. read_on base_tags (add p o i) (o + size k) (rest k)));
        same_tables = w.same_tables ∙ (goes.1 t ∙ (λ k. note_on base_tags (add p o i) (o + size k) (rest k) (tables k)));
        holds = λ h.
            subst (λ x. HeldIn s x (add p o i)) tables
            (noted_held s b p o i t (omega (arith, w.inside, w.short)) w.readable more
            (subst₂ (λ (x : Result Said Reason) (d : Counts). RowFor x d t) f.says w.counts row) sound.all_there item_there
            (w.holds h));
      }

pub carried : {s : List ℕ} {head : Counts} {start : ReaderTables} {o : ℕ} {c d : Counts} {t : ReaderTables}
    → Onward s head start o c t → c ≡ d → Onward s head start o d t
carried {s} {head} {start} {o} {c} {d} {t} w e = subst (λ (x : Counts). Onward s head start o x t) e w
