-- Four bytes of room for each byte of output and 67 more are enough for every block, so that what is written out is the block, whole.
use Prim.Native.Nat.{ℕ, ◌+◌, ◌*◌, ◌≤◌, ◌<◌}
use native.Mathlib.Omega.{arith}
use mathlib.Core.Path.{◌≡◌}
use mathlib.Core.List.{List, ◌++◌}
use lib.ListN.{length, take, length-append}
use Rattle.field.specs.Field.{Bytes}
use Rattle.numbers.specs.declared.Given.{Given}
use Rattle.printer.specs.Lines.{newline, solver_lines, judge_line, problem_lines}
use Rattle.printer.specs.Placed.{Placed}
use Rattle.printer.proofs.Fitting.{solver_length, judge_length, placed_whole}
use Rattle.block.specs.Block.{lines_given}

-- A number and a place as the code has them: a byte and a word.
abbrev pub Small : Given → Type 0
Small g = (g.number < 256) × (g.place < 18446744073709551616)

lines_length : (solved judged : Given) (output : List ℕ) (room : ℕ) → Small solved → Small judged → Bytes output
    → 4 * length output ≤ room → 33 ≤ room → length (lines_given solved output judged) ≤ room + 34
unfolding problem_lines
lines_length solved judged output room a b c l m =
    let first = solver_lines solved.number solved.place output in
    let second = judge_line judged.number judged.place in
    omega (
      arith,
      length-append (first ++ second) newline,
      length-append first second,
      solver_length solved.number solved.place output room a.0 a.1 c l m,
      judge_length judged.number judged.place b.0 b.1,
    )

-- With room enough, what was placed from the start of the room is all lines, whole.
pub lines_whole : (solved judged : Given) (output : List ℕ) {d e : List ℕ} {r : ℕ} → Small solved → Small judged → Bytes output
    → 4 * length output + 67 ≤ length d → Placed d 0 (lines_given solved output judged) r e → take r e ≡ lines_given solved output judged
lines_whole solved judged output a b c l p =
    placed_whole p (omega (arith, lines_length solved judged output (4 * length output + 33) a b c (omega arith) (omega arith), l))
