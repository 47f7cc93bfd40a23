use Rattle.std.proofs.Common.{ap, subst, arith}
use Rattle.problem.specs.Held.{problem_of}
use Rattle.problem.specs.Look.{freshness_now}
use Rattle.problem.specs.declared.look.Freshness.{Freshness}
use Rattle.demands.specs.Demands.{NodeAsked}
use Rattle.asked.proofs.Added.{field_added, fields_added, mem_at}
use Rattle.asked.proofs.add_freshness.Goals as goal

pub ask_of_node-requires : goal.ask_of_node-requires
ask_of_node-requires c =
    let s = c.args.input.now.bytes.now in
    let readable = c.requires.0.readable in
    let there = readable.named_freshness (freshness_now s c.loop-k.k) (mem_at (problem_of s).freshness c.loop-k.k _ (omega arith)) in
    let told = c.freshness_at-d.ensures in (
      omega (arith, there.1, readable.few_nodes, ap (λ (d : Freshness). d.node.0) told),
      omega (arith, there.0, readable.few_atoms, ap (λ (d : Freshness). d.atom.0) told),
    )

pub loop-k-preserved : goal.loop-k-preserved
loop-k-preserved c = λ after rest.
    let fields = (problem_of c.args.input.now.bytes.now).freshness in
    let more = c.ask_of_node.new.asked in
    let asked = subst (λ (d : Freshness). NodeAsked d.node.0 d.atom.0 c.loop-k.asked more) c.freshness_at-d.ensures c.ask_of_node.ensures in
    c.loop-k.invariant after (field_added fields c.loop-k.k _ c.loop-k.asked more after (omega arith) asked rest)

pub returns : goal.returns
returns c = c.loop-k.invariant _ (fields_added (problem_of c.args.input.now.bytes.now).freshness c.loop-k.k c.loop-k.asked (omega arith))
