-- Each turn adds a block, or ends the stream.
use Rattle.std.proofs.Common.{rules, subst}
use Rattle.stream.specs.Written.{Wrote}
use Rattle.stream.proofs.Writings.{no_blocks, one_more, ended}
use Rattle.stream.proofs.all.Goals as goal

pub loop-count-init : goal.loop-count-init
loop-count-init g c = (no_blocks (g.W.Write.contents c.args.ports.now.to), search rules)

pub returns-in_err-settled-clause-wrote : goal.returns-in_err-settled-clause-wrote
returns-in_err-settled-clause-wrote g c =
    subst (Wrote _ _) (search rules)
    (ended c.settled.new.out c.settled.result (g.W.Write.contents c.args.ports.now.to) (g.W.Write.contents c.loop-count.ports.to)
    (g.W.Write.contents c.turn-turned.new.ports.to) (g.W.Write.contents c.settled.new.output) c.loop-count.invariant.0 c.turn-turned.ensures.turned
    c.settled.ensures.settled c.turn-turned.ensures.written c.settled.ensures.bytes c.in_err-settled.was)

pub loop-count-preserved : goal.loop-count-preserved
loop-count-preserved g c = (
  one_more c.settled.new.out c.settled.result (g.W.Write.contents c.args.ports.now.to) (g.W.Write.contents c.loop-count.ports.to)
      (g.W.Write.contents c.turn-turned.new.ports.to) (g.W.Write.contents c.settled.new.output) c.loop-count.invariant.0 c.turn-turned.ensures.turned
      c.settled.ensures.settled c.turn-turned.ensures.written c.settled.ensures.bytes c.in_ok-settled.was,
  search rules,
)
