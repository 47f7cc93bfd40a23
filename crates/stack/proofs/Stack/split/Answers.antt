use Rattle.std.proofs.Common.{◌+◌, ◌<◌, arith, length}
use Rattle.stack.proofs.InPlace.{split_made}
use Rattle.stack.proofs.Stack.split.Goals as goal

pub returns-clause-split : goal.returns-clause-split
returns-clause-split c =
    let a = c.args in
    let there : a.n + 1 < length c.renew.new.self.images.now = omega (arith, c.requires) in
    rw c.renew.ensures.images (split_made _ _ _ _ _ _ (rw c.renew.ensures.images at there) c.renew.ensures.heads)
