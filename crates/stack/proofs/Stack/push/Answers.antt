use Rattle.std.proofs.Common.{◌≡◌, ◌<◌, arith, rules, [], length, get_or}
use Rattle.stack.specs.Stack.{stack_tables, with_equation}
use Rattle.stack.proofs.Laws.{Room, both_written, pushed}
use Rattle.stack.proofs.Stack.push.Goals as goal

pub returns-clause-pushed : goal.returns-clause-pushed
unfolding with_equation
returns-clause-pushed c =
    let a = c.args in
    let heads = a.self.now.heads.now in
    let images = a.self.now.images.now in
    let h : a.n < length heads = omega (arith, c.requires) in
    let i : a.n < length images = omega (arith, c.requires) in
    let two : length (get_or images a.n []) ≡ 2 = omega arith in
    let room : Room a.n (stack_tables heads images) = record { heads = h; images = i } in
    let small : a.e.number < 256 = search rules in
    pushed a.n a.e _ room small _ (rw (both_written _ _ _ two, c.from.ensures, c.keep-left.ensures, c.keep-right.ensures))
