use Rattle.std.proofs.Common.{sym, ◌∙◌}
use Rattle.demands.specs.Demands.{line}
use Rattle.demands.proofs.Laws.{line_marked_again, line_marked_new}
use Rattle.demands.proofs.mark.Goals as goal

-- An atom that is in the set already changes nothing; another one comes into the set with its equation.
pub returns-then-has : goal.returns-then-has
returns-then-has c =
    let a = c.args in
    sym (line_marked_again a.i a.number a.a.0 (line a.sets.now a.numbers.now) (sym c.has.ensures ∙ c.if-has.true))

pub returns : goal.returns
returns c =
    let a = c.args in
    rw (c.from.ensures, c.with-more.ensures)
    (sym (line_marked_new a.i a.number a.a.0 (line a.sets.now a.numbers.now) (sym c.has.ensures ∙ c.if-has.false)))
