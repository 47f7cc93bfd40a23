use Rattle.std.proofs.Common.{◌<◌, arith, rules, length}
use Rattle.stack.proofs.InPlace.{renewed}
use Rattle.stack.proofs.renew.Goals as goal

pub returns : goal.returns
returns c =
    let a = c.args in
    let there : a.n < length a.heads.now = omega (arith, c.requires) in
    let small : a.number < 256 = search rules in
    rw c.from.ensures (renewed _ _ _ a.left a.right there small)
