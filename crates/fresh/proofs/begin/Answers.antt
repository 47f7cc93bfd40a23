-- Where nothing is demanded of a node, nothing has to be visited.
use Rattle.std.proofs.Common.{arith}
use Rattle.problem.specs.Held.{problem_of}
use Rattle.fresh.proofs.Beginning.{begun_none}
use Rattle.fresh.proofs.begin.Goals as goal

pub returns-else-any_of_nodes-clause-begun : goal.returns-else-any_of_nodes-clause-begun
returns-else-any_of_nodes-clause-begun c =
    let bare = c.any_of_nodes.ensures c.if-any_of_nodes.false in
    begun_none (problem_of c.args.input.now.bytes.now) _ _ (λ i l. bare i (omega arith)) c.args.seen.now (λ i l. c.requires.none i (omega arith))
