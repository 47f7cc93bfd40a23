-- The answer's fields one after the other: what is known of a field with a line, and the lines that are written when the rest of the answer is passed on.
use Prim.Native.Nat.{ℕ, zero, suc, ◌+◌, ◌-◌, ◌≤◌, ◌<◌}
use native.Mathlib.Omega.{arith}
use mathlib.Core.Logic.{◌≢◌}
use mathlib.Core.Path.{◌≡◌, refl, sym, ap, ◌∙◌}
use mathlib.Core.Bool.{Bool, true, false, cond}
use mathlib.Core.List.{List, [], ◌∷◌, ◌++◌, append_assoc, append-nil}
use borrow.Author.Tests.{eq-eqb, ne_eqb, eqb-true, leb-true}
use lib.Dec.{eqb}
use lib.ListN.{length, take, drop, length-drop}
use lib.Seq.{length-take-le, take_all}
use Rattle.field.specs.Field.{Field, cut, whole, front, byte, word, long}
use Rattle.field.specs.Front.{front_of}
use Rattle.field.specs.declared.AtFront.{AtFront}
use Rattle.field.specs.declared.AtFront.TheVariants.{Whole, Cut, End}
use Rattle.field.proofs.Standing.{stands}
use Rattle.field.proofs.Told.{at_whole, at_cut, at_end}
use Rattle.printer.specs.Placed.{Placed}
use Rattle.layout.specs.Parts.{part_fits, part}
use Rattle.printer.specs.Lines.{field_line, line_of, lines_from, answer_lines, accepted_line, bind_line, fresh_line}
use Rattle.printer.proofs.Placing.{placed_nothing, ◌then◌}

no : false ≡ true → ⊥
no e = let z : ◌≡◌ {A = ℕ} 0 1 = cc in omega arith

-- How long the body of each kind of field is.
pub steps_length : (tag n : ℕ) → tag ≡ 0x4E → part_fits tag n ≡ true → n ≡ 4
unfolding part_fits
steps_length tag n e k = eqb-true n 4 (rw (eq-eqb tag 0x4E e) at k)

pub binding_length : (tag n : ℕ) → tag ≢ 0x4E → tag ≡ 0x40 → part_fits tag n ≡ true → 3 ≤ n
unfolding part_fits
binding_length tag n d e k = leb-true 3 n (rw (ne_eqb tag 0x4E d, eq-eqb tag 0x40 e) at k)

pub fact_length : (tag n : ℕ) → tag ≢ 0x4E → tag ≢ 0x40 → part_fits tag n ≡ true → n ≡ 2
unfolding part_fits
fact_length tag n d e k = go (eqb tag 0x41) (rw (ne_eqb tag 0x4E d, ne_eqb tag 0x40 e) at k)
  where
    go : (b : Bool) → cond b (eqb n 2) false ≡ true → n ≡ 2
    go true k = eqb-true n 2 k
    go false k = absurd (no k)

-- The line of each.
pub steps_line : (tag : ℕ) (s : List ℕ) → tag ≡ 0x4E → field_line tag s ≡ accepted_line (long s 0)
unfolding field_line part
steps_line tag s e = rw (eq-eqb tag 0x4E e)

pub binding_line : (tag : ℕ) (s : List ℕ) → tag ≢ 0x4E → tag ≡ 0x40 → field_line tag s ≡ bind_line (byte s 0) (word s 1) (drop 3 s)
unfolding field_line part
binding_line tag s d e = rw (ne_eqb tag 0x4E d, eq-eqb tag 0x40 e)

pub fact_line : (tag : ℕ) (s : List ℕ) → tag ≢ 0x4E → tag ≢ 0x40 → field_line tag s ≡ fresh_line (byte s 0) (byte s 1)
unfolding field_line part
fact_line tag s d e = rw (ne_eqb tag 0x4E d, ne_eqb tag 0x40 e)

-- Room for more fields than there are makes no difference.
rest_shorter : (s : List ℕ) (tag : ℕ) (body rest : List ℕ) → front s ≡ whole tag body rest → length rest < length s
rest_shorter s tag body rest e =
    let w = stands s tag body rest e in
    let l : length rest ≡ length s - (3 + length body) = ap length w.the_rest ∙ length-drop (3 + length body) s in
    omega (arith, w.fits)

line_alike : (m n : List ℕ → List ℕ) (s : List ℕ) (f : Field) → front s ≡ f → ((r : List ℕ) → length r < length s → m r ≡ n r) → line_of m f ≡ line_of n f
line_alike m n s cut e h = refl
line_alike m n s (whole tag body rest) e h = rw (h rest (rest_shorter s tag body rest e))

lines_enough : (j k : ℕ) (s : List ℕ) → length s ≤ j → length s ≤ k → lines_from j s ≡ lines_from k s
unfolding lines_from front
lines_enough zero zero s p q = refl
lines_enough zero (suc k) [] p q = refl
lines_enough zero (suc k) (b ∷ s) p q = absurd (omega arith)
lines_enough (suc j) zero [] p q = refl
lines_enough (suc j) zero (b ∷ s) p q = absurd (omega arith)
lines_enough (suc j) (suc k) s p q = line_alike (lines_from j) (lines_from k) s (front s) refl (λ r h. lines_enough j k r (omega arith) (omega arith))

-- The lines of an answer: those of the field at its front, and those of the rest; none where no field with a line is there.
pub lines_more : (s : List ℕ) (tag : ℕ) (body rest : List ℕ) → front s ≡ whole tag body rest → part_fits tag (length body) ≡ true
    → answer_lines s ≡ field_line tag body ++ answer_lines rest
unfolding answer_lines lines_from
lines_more s tag body rest e k =
    lines_enough (length s) (suc (length s)) s (omega arith) (omega arith)
    ∙ one
    ∙ ap (λ (l : List ℕ). field_line tag body ++ l) (lines_enough (length s) (length rest) rest (omega (arith, rest_shorter s tag body rest e)) (omega arith))
  where
    one : lines_from (suc (length s)) s ≡ field_line tag body ++ lines_from (length s) rest
    one = rw (e, k)

pub lines_unknown : (s : List ℕ) (tag : ℕ) (body rest : List ℕ) → front s ≡ whole tag body rest → part_fits tag (length body) ≡ false → answer_lines s ≡ []
unfolding answer_lines lines_from
lines_unknown s tag body rest e k = lines_enough (length s) (suc (length s)) s (omega arith) (omega arith) ∙ none
  where
    none : lines_from (suc (length s)) s ≡ []
    none = rw (e, k)

pub lines_cut : (s : List ℕ) → front s ≡ cut → answer_lines s ≡ []
unfolding answer_lines lines_from
lines_cut s e = lines_enough (length s) (suc (length s)) s (omega arith) (omega arith) ∙ none
  where
    none : lines_from (suc (length s)) s ≡ []
    none = rw e

-- The rest, as a part of the answer that starts where the field ends.
pub passed_on : (k : ℕ) (s : List ℕ) → take (length s - k) (drop k s) ≡ drop k s
passed_on k s = take_all (length s - k) (drop k s) (omega (arith, length-drop k s))

-- Midway through an answer: what is written is what its lines start with, and the lines of the rest are still to come.
pub record Midway (d : List ℕ) (at : ℕ) (answer : List ℕ) (d' : List ℕ) (r : ℕ) (rest : List ℕ) : Type 0 where
  pub before : List ℕ
  pub so_far : Placed d at before r d'
  pub to_come : answer_lines answer ≡ before ++ answer_lines rest
  pub shorter : length rest ≤ length answer

pub midway_start : (d : List ℕ) (at : ℕ) (answer : List ℕ) → at ≤ length d → Midway d at answer d at answer
midway_start d at answer h = record { before = []; so_far = placed_nothing d at h; to_come = refl; shorter = omega arith }

pub midway_end : {d answer d' rest : List ℕ} {at r : ℕ} → Midway d at answer d' r rest → answer_lines rest ≡ [] → Placed d at (answer_lines answer) r d'
midway_end m e = rw (m.to_come, e, append-nil) m.so_far

module _ (d : List ℕ) (at : ℕ) (answer d' : List ℕ) (r : ℕ) (rest : List ℕ) (m : Midway d at answer d' r rest) where
  midway_stop : front_of rest ≡ End → Placed d at (answer_lines answer) r d'
  unfolding front
  midway_stop e = midway_end m (lines_cut rest (ap front (at_end rest e) ∙ nothing))
    where
      nothing : front [] ≡ cut
      nothing = refl

  midway_cut : front_of rest ≡ Cut → Placed d at (answer_lines answer) r d'
  midway_cut e = midway_end m (lines_cut rest (at_cut rest e).the_front)

  -- No whole field is left.
  pub midway_over : ((tag n : ℕ) → front_of rest ≡ Whole tag n → ⊥) → Placed d at (answer_lines answer) r d'
  midway_over = over (front_of rest) refl
    where
      over : (f : AtFront) → front_of rest ≡ f → ((tag n : ℕ) → f ≡ Whole tag n → ⊥) → Placed d at (answer_lines answer) r d'
      over End e no_whole = midway_stop e
      over Cut e no_whole = midway_cut e
      over (Whole tag n) e no_whole = absurd (no_whole tag n refl)

  module _ (tag n : ℕ) (e : front_of rest ≡ Whole tag n) where
    pub whole_fits : 3 + n ≤ length rest
    whole_fits = (at_whole rest tag n e).1

    pub body_length : length (take n (drop 3 rest)) ≡ n
    body_length = length-take-le n (drop 3 rest) (omega (arith, length-drop 3 rest, whole_fits))

    pub midway_unknown : part_fits tag n ≡ false → Placed d at (answer_lines answer) r d'
    midway_unknown k = midway_end m (lines_unknown rest tag _ _ (at_whole rest tag n e).0.the_front (rw body_length k))

    pub midway_more : (r' : ℕ) (d'' : List ℕ) → part_fits tag n ≡ true → Placed d' r (field_line tag (take n (drop 3 rest))) r' d''
        → Midway d at answer d'' r' (drop (3 + n) rest)
    midway_more r' d'' k p =
        record {
          before = m.before ++ field_line tag (take n (drop 3 rest));
          so_far = m.so_far then p;
          to_come =
              m.to_come
              ∙ ap (λ (l : List ℕ). m.before ++ l) (lines_more rest tag _ _ (at_whole rest tag n e).0.the_front (rw body_length k))
              ∙ sym (append_assoc m.before (field_line tag (take n (drop 3 rest))) (answer_lines (drop (3 + n) rest)));
          shorter = omega (arith, length-drop (3 + n) rest, m.shorter);
        }
