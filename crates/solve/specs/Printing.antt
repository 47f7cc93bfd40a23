-- What one problem prints. Definitions alone.
use Rattle.std.specs.Prelude.{ℕ, List}
use Rattle.printer.specs.Lines.{solver_lines}
use Rattle.run.specs.Answer as run

-- The lines of what the solver gives back.
abbrev pub solver_lines_of : run.Result → List ℕ
solver_lines_of s = solver_lines s.number s.place s.output
