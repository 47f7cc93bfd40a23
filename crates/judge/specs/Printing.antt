-- What one problem prints. Definitions alone.
use Rattle.std.specs.Prelude.{ℕ, List}
use Rattle.printer.specs.Lines.{judge_line}
use Rattle.run.specs.Answer as run

-- The line of what the judge gives back.
abbrev pub judge_line_of : run.Judgement → List ℕ
judge_line_of j = judge_line j.0 j.1
