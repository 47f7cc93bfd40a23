-- How much room the lines take: four bytes for each byte of an answer are enough, so 65,536 for what a solver with 16,384 bytes of output gives back.
-- With room enough nothing is left out.
use Prim.Native.Nat.{ℕ, zero, suc, ◌+◌, ◌*◌, ◌-◌, ◌/◌, ◌%◌, ◌≤◌, ◌<◌}
use native.Mathlib.Decide.{dec_lt}
use native.Mathlib.Nat.{min-eq_right}
use native.Mathlib.Omega.{arith}
use mathlib.Core.Path.{◌≡◌, refl, ap, ◌∙◌}
use mathlib.Core.Logic.{by_cases}
use mathlib.Core.Bool.{Bool, true, false, cond}
use mathlib.Core.List.{List, [], ◌∷◌, ◌++◌}
use borrow.Author.Tests.{eq-eqb, ne_eqb}
use lib.ListN.{length, take, drop, length-append, length-take, length-drop}
use lib.Seq.{take_all, take_at, length-take-le}
use Rattle.names.proofs.Equal.{by_eq}
use Rattle.field.specs.Field.{Field, cut, whole, front, byte, word, long, Bytes, FieldStands}
use Rattle.field.proofs.Standing.{stands, bytes_take, bytes_drop, bytes_body}
use Rattle.printer.specs.Placed.{pasted, reached, Placed}
use Rattle.printer.specs.Lines.{decimal, spaced, images, accepted_word, refused_word, bind_word, fresh_word, newline, accepted_line, refused_line, bind_line}
use Rattle.layout.specs.Parts.{part_fits}
use Rattle.printer.specs.Lines.{fresh_line, field_line, line_of, lines_from, answer_lines, solver_lines, judge_line}
use Rattle.printer.proofs.Spelling.{decimal_small, decimal_more}
use Rattle.printer.proofs.Walking.{steps_length, binding_length, fact_length, steps_line, binding_line, fact_line}

-- A number below a power of ten has at most as many digits.
abbrev power : ℕ → ℕ
power zero = 1
power (suc k) = 10 * power k

decimal_length : (k x : ℕ) → x < power (suc k) → length (decimal x) ≤ suc k
decimal_length zero x h = rw (decimal_small x (omega arith)) (omega arith)
decimal_length (suc k) x h =
    by_cases (dec_lt x 10)
    (λ l. rw (decimal_small x l) (omega arith))
    (λ l. let g : 10 ≤ x = omega arith in
    rw (decimal_more x g, length-append (decimal (x / 10)) ((48 + x % 10) ∷ [])) (omega (arith, decimal_length k (x / 10) (omega arith))))

byte_digits : (x : ℕ) → x < 256 → length (decimal x) ≤ 3
byte_digits x h = decimal_length 2 x (omega arith)

spaced_length : (x : ℕ) → length (spaced x) ≡ suc (length (decimal x))
unfolding spaced
spaced_length x = refl

images_length : (s : List ℕ) → Bytes s → length (images s) ≤ 4 * length s
unfolding images
images_length [] b = omega arith
images_length (a ∷ s) b =
    omega (arith, length-append (spaced a) (images s), spaced_length a, byte_digits a (b 0), images_length s (λ i. b (suc i)))

accepted_length : (steps : ℕ) → steps < 4294967296 → length (accepted_line steps) ≤ 20
unfolding accepted_line
accepted_length steps h =
    omega (arith, length-append (accepted_word ++ decimal steps) newline, length-append accepted_word (decimal steps), decimal_length 9 steps (omega arith))

pub refused_length : (number place : ℕ) → number < 256 → place < 18446744073709551616 → length (refused_line number place) ≤ 33
unfolding refused_line
refused_length number place h k =
    omega (
      arith,
      length-append (refused_word ++ decimal number ++ spaced place) newline,
      length-append (refused_word ++ decimal number) (spaced place),
      length-append refused_word (decimal number),
      spaced_length place,
      byte_digits number h,
      decimal_length 19 place (omega arith),
    )

bind_length : (variable node : ℕ) (s : List ℕ) → variable < 256 → node < 65536 → Bytes s → length (bind_line variable node s) ≤ 15 + 4 * length s
unfolding bind_line
bind_length variable node s h k b =
    omega (
      arith,
      length-append (bind_word ++ decimal variable ++ spaced node ++ images s) newline,
      length-append (bind_word ++ decimal variable ++ spaced node)
          (images s),
      length-append (bind_word ++ decimal variable) (spaced node),
      length-append bind_word (decimal variable),
      spaced_length node,
      byte_digits variable
          h,
      decimal_length 4 node (omega arith),
      images_length s b,
    )

fresh_length : (atom variable : ℕ) → atom < 256 → variable < 256 → length (fresh_line atom variable) ≤ 14
unfolding fresh_line
fresh_length atom variable h k =
    omega (
      arith,
      length-append (fresh_word ++ decimal atom ++ spaced variable) newline,
      length-append (fresh_word ++ decimal atom) (spaced variable),
      length-append fresh_word (decimal atom),
      spaced_length variable,
      byte_digits atom h,
      byte_digits variable k,
    )

-- A field's line takes at most four bytes for each byte of the field.
field_length : (tag : ℕ) (s : List ℕ) → Bytes s → part_fits tag (length s) ≡ true → length (field_line tag s) ≤ 4 * (3 + length s)
field_length tag s b k =
    by_eq tag 0x4E
    (λ e. rw (steps_line tag s e) (omega (arith, accepted_length (long s 0) (omega (arith, b 0, b 1, b 2, b 3)), steps_length tag (length s) e k)))
    (λ d. by_eq tag 0x40
    (λ e. rw (binding_line tag s d e)
    (omega (
      arith,
      bind_length (byte s 0) (word s 1) (drop 3 s) (b 0) (omega (arith, b 1, b 2)) (bytes_drop 3 s b),
      length-drop 3 s,
      binding_length tag
          (length s) d e k,
    )))
    (λ e. rw (fact_line tag s d e) (omega (arith, fresh_length (byte s 0) (byte s 1) (b 0) (b 1), fact_length tag (length s) d e k))))

-- And so do the lines of a field and of the rest, if those of the rest do.
module _ (s : List ℕ) (b : Bytes s) (more : List ℕ → List ℕ) (short : (r : List ℕ) → Bytes r → length (more r) ≤ 4 * length r) where
  one_length : (tag : ℕ) (body rest : List ℕ) → FieldStands s tag body rest → (t : Bool) → part_fits tag (length body) ≡ t
      → length (cond t (field_line tag body ++ more rest) []) ≤ 4 * length s
  one_length tag body rest w false e = omega arith
  one_length tag body rest w true e =
      let r : length (more rest) ≤ 4 * length rest = short rest (rw w.the_rest (bytes_drop (3 + length body) s b)) in
      omega (
        arith,
        length-append (field_line tag body) (more rest),
        field_length tag body (bytes_body s tag body rest b w) e,
        w.fits,
        ap length w.the_rest,
        length-drop (3 + length body) s,
      )

  line_length : (f : Field) → front s ≡ f → length (line_of more f) ≤ 4 * length s
  line_length cut e = omega arith
  line_length (whole tag body rest) e = one_length tag body rest (stands s tag body rest e) (part_fits tag (length body)) refl

lines_from_length : (k : ℕ) (s : List ℕ) → Bytes s → length (lines_from k s) ≤ 4 * length s
unfolding lines_from
lines_from_length zero s b = omega arith
lines_from_length (suc k) s b = line_length s b (lines_from k) (lines_from_length k) (front s) refl

pub answer_length : (s : List ℕ) → Bytes s → length (answer_lines s) ≤ 4 * length s
unfolding answer_lines
answer_length s b = lines_from_length (length s) s b

-- What is enough room for the solver's lines.
pub solver_length : (number place : ℕ) (output : List ℕ) (room : ℕ) → number < 256 → place < 18446744073709551616 → Bytes output
    → 4 * length output ≤ room → 33 ≤ room → length (solver_lines number place output) ≤ room
unfolding solver_lines
solver_length number place output room h k b l m =
    by_eq number 0
    (λ e. rw (eq-eqb number 0 e) (omega (arith, answer_length (take place output) (bytes_take place output b), length-take place output)))
    (λ d. rw (ne_eqb number 0 d) (omega (arith, refused_length number place h k)))

-- And for the judge's line.
pub judge_length : (number place : ℕ) → number < 256 → place < 18446744073709551616 → length (judge_line number place) ≤ 33
unfolding judge_line
judge_length number place h k =
    by_eq number 0 (λ e. rw (eq-eqb number 0 e) (omega arith)) (λ d. rw (ne_eqb number 0 d) (refused_length number place h k))

-- With room enough the text is there, whole, and what was written before it too.
pub placed_whole : {d d' : List ℕ} {at r : ℕ} {s : List ℕ} → Placed d at s r d' → at + length s ≤ length d → take r d' ≡ take at d ++ s
unfolding pasted reached
placed_whole {d} {d'} {at} {r} {s} p h =
    let n : r ≡ at + length s = p.ends ∙ min-eq_right h in
    let l : length (take at d ++ s) ≡ r = omega (arith, length-append (take at d) s, length-take-le at d (omega arith)) in
    rw (p.holds, take_all (length d - at) s (omega arith)) (take_at (take at d ++ s) (drop (at + length s) d) r l)
