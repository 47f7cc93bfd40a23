-- What the program does with the problem that it reads. Definitions alone.
use Rattle.std.specs.Prelude.{ℕ, List}
use Rattle.run.specs.Answer as run
use Rattle.exchange.specs.Exchanges as exchange
use Rattle.exchange.specs.declared.Worked.{Worked}
use Rattle.judge.specs.Printing.{judge_line_of}

-- What the program gives back for a problem: the judge's answer and its line. It is served as `exchange.Serves` says of the bytes that were read.
abbrev pub gives_of : run.Judgement → exchange.Gives
gives_of j = record { number = j.0; place = j.1; text = judge_line_of j }

abbrev pub judge_gives : List ℕ → exchange.Gives
judge_gives problem = gives_of (run.judge problem)

-- The line of the judge's answer is in the room.
abbrev pub JudgeWorks : run.Judgement → List ℕ → Worked → Type 0
JudgeWorks j out w = exchange.Works j.0 j.1 (judge_line_of j) out w
