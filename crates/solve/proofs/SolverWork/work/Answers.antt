-- The lines of what the definition gives back.
use Rattle.std.proofs.Common.{◌≡◌, ◌<◌, ◌≤◌, ◌*◌, List, ℕ, rules, arith, length, ap, ◌∙◌}
use Rattle.field.specs.Field.{Bytes}
use Rattle.run.specs.Answer as run
use Rattle.numbers.specs.declared.Given.{Given}
use Rattle.printer.specs.Lines.{solver_lines}
use Rattle.printer.specs.Placed.{Placed}
use Rattle.printer.proofs.Fitting.{solver_length, placed_whole}
use Rattle.solve.specs.Printing.{solver_lines_of}
use Rattle.solve.specs.Serving.{SolverWorks}
use Rattle.solve.proofs.SolverWork.work.Goals as goal

-- A number and a place with an output, as the definitions put them.
abbrev result : Given → List ℕ → run.Result
result g o = record { number = g.number; place = g.place; output = o }

-- What is printed of the number and the place is the lines, where the solver gave back what the definition says; and they are there whole.
told :
    {r : ℕ} {o d e : List ℕ} (g : Given) (s : run.Result) → result g o ≡ s →
    g.number < 256 → g.place < 18446744073709551616 → Bytes o → 4 * length o ≤ length d → 33 ≤ length d →
    Placed d 0 (solver_lines g.number g.place o) r e → SolverWorks s e (record { given = g; end = r })
told {r} {o} {d} {e} g s f x y z l m h =
    let same : solver_lines g.number g.place o ≡ solver_lines_of s = cc in record {
      lines = placed_whole h (omega (arith, solver_length g.number g.place o (length d) x y z l m)) ∙ same;
      number = ap (λ (t : run.Result). t.number) f;
      place = ap (λ (t : run.Result). t.place) f;
      within = h.within;
      counts = h.counts;
    }

pub returns : goal.returns
returns c =
    let given = c.from-given.result in
    let small = c.from-given.type_inv in
    told
    given
    _
    (ap (λ (g : Given). result g c.solve.new.output) c.from-given.ensures ∙ c.solve.ensures)
    (omega (arith, small))
    (omega (arith, small))
    (search rules)
    (omega (arith, c.solve.auto.output, c.requires))
    (omega (arith, c.requires))
    c.solver_lines-end.ensures
