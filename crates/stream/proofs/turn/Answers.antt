-- What is written is the block of the bytes that were read, and it was the front of the lent bytes that was handed out.
use Rattle.std.proofs.Common.{take, subst}
use Rattle.std.specs.Io.KnownBytes.{Appends}
use Rattle.outlet.specs.Puts.{taken_of}
use Rattle.block.proofs.Printing.{block_printed}
use Rattle.frames.specs.Came.{Told}
use Rattle.standing.proofs.Writing.{wrote}
use Rattle.stream.proofs.turn.Goals as goal

pub returns-clause-turned : goal.returns-clause-turned
returns-clause-turned g c =
    let problem = take c.in_ok-frame.frame.size c.next.new.input in
    let text =
    block_printed problem c.args.output.now _ _ c.solve_with.ensures.solved c.judge_with.ensures.judged c.from-solved.ensures c.from-judged.ensures
    c.lines-end.ensures.out_after in
    record {
      told = subst (Told _) c.in_ok-frame.was c.next.ensures;
      wrote = wrote c.lines-end.result text c.put-taken.ensures.puts c.lines-end.ensures.placed.counts;
    }

pub returns-clause-written : goal.returns-clause-written
returns-clause-written g c =
    let problem = take c.in_ok-frame.frame.size c.next.new.input in
    let text =
    block_printed problem c.args.output.now _ _ c.solve_with.ensures.solved c.judge_with.ensures.judged c.from-solved.ensures c.from-judged.ensures
    c.lines-end.ensures.out_after in
    subst (λ t. Appends (g.W.Write.contents c.args.ports.now.to) (g.W.Write.contents c.put-taken.new.writer) (take (taken_of c.put-taken.result) t)) text
    c.put-taken.ensures.bytes
