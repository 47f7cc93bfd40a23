-- The freshness fields are added to what the table asks for, and all of it is resolved.
use Rattle.std.proofs.Common.{◌∙◌}
use Rattle.problem.proofs.Counted.{all_atoms, all_variables, all_nodes, all_freshness}
use Rattle.asked.proofs.Asks.{freshness_asks, fresh_small}
use Rattle.ending.proofs.Resolving.{outcome}
use Rattle.ending.proofs.resolve.Goals as goal

pub add_freshness-requires : goal.add_freshness-requires
add_freshness-requires c = (c.requires.read.0, c.from.ensures ∙ all_freshness _ c.requires.read.1)

pub resolve-requires-clause-sizes : goal.resolve-requires-clause-sizes
resolve-requires-clause-sizes c =
    let counts = c.requires.read.1 in
    (c.from-2.ensures ∙ all_nodes _ counts, c.from-3.ensures ∙ all_atoms _ counts, c.from-4.ensures ∙ all_variables _ counts)

pub resolve-requires-clause-small : goal.resolve-requires-clause-small
resolve-requires-clause-small c = fresh_small _ c.requires.read.0.readable _ _ c.add_freshness.ensures c.requires.small

pub returns : goal.returns
returns c = λ count meant ds asks.
    let readable = c.requires.read.0.readable in
    outcome meant readable _ (freshness_asks _ readable _ _ c.add_freshness.ensures asks) c.resolve.ensures.resolved
