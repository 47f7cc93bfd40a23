-- `cheesetrestle_judge_with` gives the definition's number and place in one word.
use Rattle.cheesetrestle.proofs.Giving.{judged_fits}
use Rattle.cheesetrestle.proofs.cheesetrestle_judge_with.Goals as goal

pub joined-requires : goal.joined-requires
joined-requires c = judged_fits c.args.input.now c.judge_with.result c.from.result c.judge_with.ensures.judged c.from.ensures (λ i. (c.type_inv.input i).fits)
