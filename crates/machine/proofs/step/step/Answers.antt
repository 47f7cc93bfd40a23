-- `step` meets its contract: in a state that the run comes to, what is told and done is the definition's step. The bindings are only shown to what tells it,
-- as the tables have them.
use native.Mathlib.Omega.{arith}
use Rattle.machine.proofs.Stepping.{few, left_there, right_there, nodes_there, nodes_small, takes, step_is}
use Rattle.machine.proofs.step.step.Goals as goal

pub resolved-left-requires : goal.resolved-left-requires
resolved-left-requires c =
    let h = c.requires in
    (h.footing.standing, h.footing.number, left_there h, rw c.shown-bindings.ensures.0 (nodes_there h))

pub resolved-right-requires : goal.resolved-right-requires
resolved-right-requires c =
    let h = c.requires in
    (h.footing.standing, h.footing.number, right_there h, rw c.shown-bindings.ensures.0 (nodes_there h))

pub invariant_of-known : goal.invariant_of-known
invariant_of-known c = record { there = rw c.shown-bindings.ensures.0 (nodes_small c.requires) }

pub decide-act-requires : goal.decide-act-requires
decide-act-requires c =
    let h = c.requires in
    let few_nodes = h.footing.standing.readable.few_nodes in
    (few h, omega (arith, c.resolved-left.ensures.there, few_nodes), omega (arith, c.resolved-right.ensures.there, few_nodes))

pub perform-requires : goal.perform-requires
perform-requires c =
    let h = c.requires in
    let (made, values) = c.shown-bindings.ensures in
    let left = rw (made, values) at c.resolved-left.ensures in
    let right = rw (made, values) at c.resolved-right.ensures in
    let act = rw made at c.decide-act.ensures in
    record { standing = h.footing.standing; number = h.footing.number; keeps = h.keeps; takes = takes h left right act }

pub returns-clause-performed : goal.returns-clause-performed
returns-clause-performed c =
    let (made, values) = c.shown-bindings.ensures in
    let left = rw (made, values) at c.resolved-left.ensures in
    let right = rw (made, values) at c.resolved-right.ensures in
    let act = rw made at c.decide-act.ensures in
    rw (step_is c.requires left right act) at c.perform.ensures.performed
