-- The demands that were resolved decide, and then whether the answer fits.
use Rattle.std.proofs.Common.{◌∙◌, arith}
use Rattle.problem.proofs.Counted.{all_atoms, all_variables}
use Rattle.ending.proofs.Resolving.{bound_in, solver_small, solver_outcome, few_atoms, few_variables}
use Rattle.ending.proofs.Deciding.{conclude_not_fresh, the_answer}
use Rattle.ending.proofs.conclude.Goals as goal

pub add_assumptions-requires : goal.add_assumptions-requires
add_assumptions-requires c = omega (arith, few_variables c.requires.read)

pub resolve-requires-clause-bound : goal.resolve-requires-clause-bound
resolve-requires-clause-bound c = bound_in c.requires.ended.meant

pub resolve-requires-clause-small : goal.resolve-requires-clause-small
resolve-requires-clause-small c = solver_small c.requires.read c.requires.ended (rw c.from-variables.ensures at c.add_assumptions.ensures)

pub returns-then-resolve : goal.returns-then-resolve
returns-then-resolve c = λ ended.
    let outcome = solver_outcome c.requires.read ended (rw c.from-variables.ensures at c.add_assumptions.ensures) c.resolve.ensures in
    conclude_not_fresh c.requires.read.standing.readable ended outcome c.if-resolve.true c.refuse.ensures

pub write-requires : goal.write-requires
write-requires c =
    let read = c.requires.read in
    (c.requires.ended.meant.keeps, omega (arith, few_atoms read), omega (arith, few_variables read))

pub returns : goal.returns
returns c = λ ended.
    let read = c.requires.read in
    let outcome = solver_outcome read ended (rw c.from-variables.ensures at c.add_assumptions.ensures) c.resolve.ensures in
    let atoms = c.from.ensures ∙ all_atoms _ read.counts in
    let variables = c.from-variables.ensures ∙ all_variables _ read.counts in
    c.write.ensures ∙ the_answer read.standing.readable ended outcome c.if-resolve.false atoms variables _
