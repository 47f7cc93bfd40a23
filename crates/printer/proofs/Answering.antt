-- The lines of the answer's bytes are the lines of the answer: the accepted line, a line for each binding, a line for each fact.
use Prim.Native.Nat.{ℕ, ◌+◌, ◌≤◌, ◌<◌}
use native.Mathlib.Omega.{arith}
use mathlib.Core.Path.{◌≡◌, refl, ap, ◌∙◌}
use mathlib.Core.Logic.{◌≢◌}
use mathlib.Core.Bool.{true}
use mathlib.Core.List.{List, [], ◌∷◌, ◌++◌, append_assoc}
use borrow.Author.Tests.{ne_eqb, le-leb}
use lib.ListN.{length, drop}
use lib.Seq.{take_at}
use Rattle.field.specs.Field.{front, long, bytes2, bytes4, field_bytes}
use Rattle.run.specs.Meaning.{Binding, Fact}
use Rattle.run.specs.Answer.{binding_bytes, fact_bytes, answer_bytes, Verdict, accepted, refusal, given, written}
use Rattle.layout.specs.Parts.{part_fits, part}
use Rattle.layout.proofs.Back.{two_bytes, field_front}
use Rattle.printer.specs.Lines.{field_line, answer_lines, solver_lines, accepted_line, bind_line, fresh_line}
use Rattle.printer.specs.Printed.{bind_lines, fresh_lines, verdict_lines, SmallBindings}
use Rattle.printer.proofs.Walking.{lines_more, lines_cut}

field_lines : (tag : ℕ) (body rest : List ℕ) → length body < 65536 → part_fits tag (length body) ≡ true
    → answer_lines (field_bytes tag body ++ rest) ≡ field_line tag body ++ answer_lines rest
field_lines tag body rest h k = lines_more (field_bytes tag body ++ rest) tag body rest (field_front tag body rest h) k

-- One field each.
accepted_field : (steps : ℕ) (rest : List ℕ) → steps < 4294967296
    → answer_lines (field_bytes 0x4E (bytes4 steps) ++ rest) ≡ accepted_line steps ++ answer_lines rest
unfolding part_fits field_line part bytes4 bytes2
accepted_field steps rest h =
    field_lines 0x4E (bytes4 steps) rest (omega arith) refl ∙ ap (λ (n : ℕ). accepted_line n ++ answer_lines rest) number
  where
    number : long (bytes4 steps) 0 ≡ steps
    number = omega arith

binding_field_lem : (variable node : ℕ) (images rest : List ℕ) → node < 65536 → 3 + length images < 65536
    → answer_lines (field_bytes 0x40 (variable ∷ bytes2 node ++ images) ++ rest) ≡ bind_line variable node images ++ answer_lines rest
unfolding part_fits field_line part bytes2
binding_field_lem variable node images rest h k =
    field_lines 0x40 (variable ∷ bytes2 node ++ images) rest (omega arith) (le-leb 3 (length (variable ∷ bytes2 node ++ images)) (omega arith))
    ∙ ap (λ (n : ℕ). bind_line variable n images ++ answer_lines rest) (two_bytes node h)

fact_field_lem : (atom variable : ℕ) (rest : List ℕ)
    → answer_lines (field_bytes 0x41 (atom ∷ variable ∷ []) ++ rest) ≡ fresh_line atom variable ++ answer_lines rest
unfolding part_fits field_line part
fact_field_lem atom variable rest = field_lines 0x41 (atom ∷ variable ∷ []) rest (omega arith) refl

-- All of a kind.
fact_lines : (fs : List Fact) → answer_lines (fact_bytes fs) ≡ fresh_lines fs
unfolding fact_bytes fresh_lines front
fact_lines [] = lines_cut [] refl
fact_lines (f ∷ fs) = fact_field_lem f.0 f.1 (fact_bytes fs) ∙ ap (λ (l : List ℕ). fresh_line f.0 f.1 ++ l) (fact_lines fs)

binding_lines : (bs : List Binding) (rest : List ℕ) → SmallBindings bs → answer_lines (binding_bytes bs ++ rest) ≡ bind_lines bs ++ answer_lines rest
unfolding binding_bytes bind_lines
binding_lines [] rest h = refl
binding_lines (b ∷ bs) rest h =
    rw (
      append_assoc (field_bytes 0x40 (b.variable ∷ bytes2 b.value.node ++ b.value.images)) (binding_bytes bs) rest,
      append_assoc
          (bind_line b.variable b.value.node b.value.images) (bind_lines bs) (answer_lines rest),
    )
    (binding_field_lem b.variable b.value.node b.value.images (binding_bytes bs ++ rest) h.0.0 h.0.1
    ∙ ap (λ (l : List ℕ). bind_line b.variable b.value.node b.value.images ++ l) (binding_lines bs rest h.1))

-- The printed lines are the answer's.
pub answer_lines_lem : (steps : ℕ) (bs : List Binding) (fs : List Fact) → steps < 4294967296 → SmallBindings bs
    → answer_lines (answer_bytes steps bs fs) ≡ accepted_line steps ++ (bind_lines bs ++ fresh_lines fs)
unfolding answer_bytes
answer_lines_lem steps bs fs h k =
    rw (append_assoc (field_bytes 0x4E (bytes4 steps)) (binding_bytes bs) (fact_bytes fs))
    (accepted_field steps (binding_bytes bs ++ fact_bytes fs) h
    ∙ ap (λ (l : List ℕ). accepted_line steps ++ l) (binding_lines bs (fact_bytes fs) k ∙ ap (λ (l : List ℕ). bind_lines bs ++ l) (fact_lines fs)))

-- What the solver gives back for a verdict is printed as the verdict's lines: an acceptance whose answer fits the lent output, and every refusal.
abbrev pub Printable : Verdict → List ℕ → Type 0
Printable (accepted steps bs fs) output = (steps < 4294967296) × SmallBindings bs × (length (answer_bytes steps bs fs) ≤ length output)
Printable (refusal number place) output = number ≢ 0

pub printed : (v : Verdict) (output : List ℕ) → Printable v output
    → solver_lines (given v output).number (given v output).place (given v output).output ≡ verdict_lines v
unfolding given written solver_lines verdict_lines
printed (accepted steps bs fs) output h =
    rw (
      le-leb (length (answer_bytes steps bs fs)) (length output) h.2,
      take_at (answer_bytes steps bs fs) (drop (length (answer_bytes steps bs fs)) output)
          (length (answer_bytes steps bs fs)) refl,
    )
    (answer_lines_lem steps bs fs h.0 h.1)
printed (refusal number place) output h = rw (ne_eqb number 0 h)
