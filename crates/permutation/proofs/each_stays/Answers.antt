use Rattle.std.proofs.Common.{arith}
use borrow.Author.Tests.{not-true}
use Rattle.permutation.proofs.Store.{stay_more, stay_all}
use Rattle.permutation.proofs.each_stays.Goals as goal

pub loop-a-init : goal.loop-a-init
loop-a-init c = λ e a h. absurd (omega arith)

pub loop-a-preserved : goal.loop-a-preserved
loop-a-preserved c = stay_more c.args.images.now c.loop-a.a c.loop-a.other c.loop-a.invariant

pub returns : goal.returns
returns c = λ none. stay_all (record { images = c.args.images.now }) c.requires (λ a h. c.loop-a.invariant (not-true c.loop-a.other none) a (omega arith))
