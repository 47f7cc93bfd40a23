-- `run` meets its contract: nothing is demanded, the problem's equations wait under the bindings in the tables, and the loop goes on from there.
use mathlib.Core.Path.{◌∙◌}
use Rattle.problem.proofs.Counted.{all_equations}
use Rattle.machine.proofs.Running.{few_nodes, few_variables, began}
use Rattle.machine.proofs.verdict.run.Goals as goal

pub clear-requires : goal.clear-requires
clear-requires c = rw (c.from.ensures, c.from-2.ensures) (few_nodes c.requires.ready, few_variables c.requires.ready)

pub start-requires : goal.start-requires
start-requires c = (c.requires.ready.standing, c.from-equations.ensures ∙ all_equations _ c.requires.ready.counts)

pub go-requires : goal.go-requires
go-requires c =
    let cleared = rw (c.from.ensures, c.from-2.ensures) at c.clear.ensures in
    rw c.from-3.ensures (began c.requires.ready _ c.requires.founded cleared c.start.ensures.started)
