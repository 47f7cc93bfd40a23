use Rattle.std.proofs.Common.{arith}
use Rattle.visit.proofs.Waiting.{late_inside, below_more, word_below, below_or_word}
use Rattle.visit.proofs.Asking.{asked_more, asked_alike}
use Rattle.visit.proofs.ask_words.Goals as goal

pub loop-i-preserved : goal.loop-i-preserved
loop-i-preserved c =
    let late = c.args.late.now in
    let i = c.loop-i.i in
    asked_more (below_more late i) (word_below late i) (below_or_word late i) c.loop-i.invariant c.ask_word.ensures

pub returns : goal.returns
returns c = asked_alike (λ n k. k.1) (λ n k. (omega (arith, late_inside c.args.late.now n k), k)) c.loop-i.invariant
