-- The line of a cut, whole: it was the front of the lent bytes that was handed out.
use Rattle.std.proofs.Common.{take, arith, subst}
use Rattle.std.specs.Io.KnownBytes.{Appends}
use Rattle.outlet.specs.Puts.{taken_of}
use Rattle.standing.proofs.Writing.{wrote, cut_whole}
use Rattle.standing.proofs.cut.Goals as goal

pub returns : goal.returns
returns g c =
    let line = c.cut_line-end in
    let whole = cut_whole c.args.count (omega arith) c.requires line.ensures in
    record {
      handed = wrote line.result whole c.put.ensures.puts line.ensures.counts;
      bytes =
          subst (λ t. Appends (g.W.Write.contents c.args.output.now) (g.W.Write.contents c.put.new.writer) (take (taken_of c.put.result) t)) whole
          c.put.ensures.bytes;
    }
