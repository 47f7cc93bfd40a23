-- What one problem of a stream prints. Definitions alone.
use Rattle.std.specs.Prelude.{List, ℕ}
use Rattle.numbers.specs.declared.Given.{Given}
use Rattle.numbers.specs.Numbers.{Result, Judgement}
use Rattle.printer.specs.Lines.{problem_lines}
use Rattle.run.specs.Answer as run

-- The solver's lines, the judge's line and an empty line, from what the two give back.
abbrev pub lines_of : Result → Judgement → List ℕ
lines_of s j = problem_lines s.number s.place s.output j.0 j.1

-- The same from their numbers and places, as the code hands them to be printed.
abbrev pub lines_given : Given → List ℕ → Given → List ℕ
lines_given solved output judged = problem_lines solved.number solved.place output judged.number judged.place

-- For a problem in bytes and whatever the lent output held before.
unfoldable pub block : List ℕ → List ℕ → List ℕ
block input output = lines_of (run.solve input output) (run.judge input)
