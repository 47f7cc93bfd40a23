-- The line of what the definition gives back.
use Rattle.std.proofs.Common.{◌≡◌, ◌<◌, ◌≤◌, List, ℕ, arith, length, ap, ◌∙◌}
use Rattle.run.specs.Answer as run
use Rattle.numbers.specs.declared.Given.{Given}
use Rattle.printer.specs.Lines.{judge_line}
use Rattle.printer.specs.Placed.{Placed}
use Rattle.printer.proofs.Fitting.{judge_length, placed_whole}
use Rattle.judge.specs.Printing.{judge_line_of}
use Rattle.judge.specs.Serving.{JudgeWorks}
use Rattle.judge.proofs.JudgeWork.work.Goals as goal

-- What is printed of the number and the place is the line, where the judge gave back what the definition says; and it is there whole.
told :
    {r : ℕ} {d e : List ℕ} (g : Given) (j : run.Judgement) → (g.number, g.place) ≡ j → g.number < 256 → g.place < 18446744073709551616 → 33 ≤ length d →
    Placed d 0 (judge_line g.number g.place) r e → JudgeWorks j e (record { given = g; end = r })
told {r} {d} {e} g j f x y m h =
    let same : judge_line g.number g.place ≡ judge_line_of j = cc in record {
      number = ap (λ (t : run.Judgement). t.0) f;
      place = ap (λ (t : run.Judgement). t.1) f;
      lines = placed_whole h (omega (arith, judge_length g.number g.place x y, m)) ∙ same;
      within = h.within;
      counts = h.counts;
    }

pub returns : goal.returns
returns c =
    let given = c.from-given.result in
    let small = c.from-given.type_inv in
    told given _ (ap (λ (g : Given). (g.number, g.place)) c.from-given.ensures ∙ c.judge.ensures) (omega (arith, small)) (omega (arith, small)) c.requires
    c.judge_line-end.ensures
