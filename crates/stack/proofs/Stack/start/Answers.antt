use Rattle.std.proofs.Common.{◌≡◌, arith, rules, length}
use Rattle.stack.proofs.Laws.{starting_none, starting_more, starting_all}
use Rattle.stack.proofs.Stack.start.Goals as goal

pub loop-n-init : goal.loop-n-init
loop-n-init c = (starting_none _ _ _ c.requires.1, search rules, search rules)

pub loop-n-preserved : goal.loop-n-preserved
loop-n-preserved c =
    let whole : length c.identity-p.result.images ≡ 32 = search rules in
    let pushed = rw (c.identity-p.ensures, c.equation_at-e.ensures) at c.push.ensures.pushed in
    (starting_more _ _ _ c.requires.1 (rw c.identity-p.ensures at whole) _ _ _ (omega arith) c.loop-n.invariant.0 pushed, search rules, search rules)

pub returns-clause-started : goal.returns-clause-started
returns-clause-started c =
    let all : c.loop-n.n ≡ c.args.count = omega arith in
    starting_all _ _ _ c.requires.1 _ (rw all at c.loop-n.invariant.0)
