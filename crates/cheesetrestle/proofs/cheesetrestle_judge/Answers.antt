-- `cheesetrestle_judge` gives the definition's number and place in one word.
use Rattle.cheesetrestle.proofs.Giving.{judged_fits}
use Rattle.cheesetrestle.proofs.cheesetrestle_judge.Goals as goal

pub joined-requires : goal.joined-requires
joined-requires c = judged_fits c.args.input.now c.judge.result c.from.result c.judge.ensures c.from.ensures (λ i. (c.type_inv.input i).fits)
