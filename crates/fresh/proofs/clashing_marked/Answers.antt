use Rattle.std.proofs.Common.{◌≡◌, ◌∙◌, sym, get_or, false}
use borrow.Author.Count.{below_more}
use borrow.Author.Tests.{eqb-true}
use Rattle.problem.specs.Problem.{form_at}
use Rattle.problem.specs.Held.{problem_of}
use Rattle.fresh.specs.Marks.{clash_at}
use Rattle.fresh.proofs.Clashes.{clash_none}
use Rattle.fresh.proofs.clashing_marked.Goals as goal

pub loop-n-preserved-then-is_empty : goal.loop-n-preserved-then-is_empty
loop-n-preserved-then-is_empty c =
    let n = c.loop-n.n in
    let form = form_at (problem_of c.args.input.now.bytes.now).nodes in
    let none_here = sym c.atoms_at-atoms.ensures ∙ eqb-true _ 0 (sym c.is_empty.ensures ∙ c.if-is_empty.true) in
    below_more (λ k. clash_at (form k) (get_or c.args.seen.now k 0) ≡ false) n c.loop-n.invariant (clash_none (form n) _ none_here)
