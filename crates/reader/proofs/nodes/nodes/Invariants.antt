-- What stays true from node to node.
use Rattle.std.proofs.Common.{◌≡◌, ◌-◌, length}
use Rattle.reader.specs.Found.{with_nodes}
use Rattle.reader.specs.Onward.{NodesPassed}
use Rattle.reader.proofs.nodes.nodes.Given as goal

abbrev pub invariant-loop-size : goal.invariant-loop-size
invariant-loop-size l = record {
  passed : NodesPassed l.s l.from l.fn.c l.fn.places l.fn.node_variables l.at l.c.nodes l.places l.node_variables;
  counts : l.c ≡ with_nodes l.fn.c l.c.nodes;
}

abbrev pub decreases-loop-size : goal.decreases-loop-size
decreases-loop-size l = length l.s - l.at
