-- What the program does with the problem that it reads. Definitions alone.
use Rattle.std.specs.Prelude.{ℕ, List}
use Rattle.run.specs.Answer as run
use Rattle.exchange.specs.Exchanges as exchange
use Rattle.exchange.specs.declared.Worked.{Worked}
use Rattle.solve.specs.Printing.{solver_lines_of}

-- What the program gives back for a problem: the solver's answer and its lines. It is served as `exchange.Serves` says of the bytes that were read.
abbrev pub gives_of : run.Result → exchange.Gives
gives_of s = record { number = s.number; place = s.place; text = solver_lines_of s }

-- With what the lent output held before.
abbrev pub solver_gives : List ℕ → List ℕ → exchange.Gives
solver_gives output problem = gives_of (run.solve problem output)

-- The lines of the solver's answer are in the room.
abbrev pub SolverWorks : run.Result → List ℕ → Worked → Type 0
SolverWorks s out w = exchange.Works s.number s.place (solver_lines_of s) out w
