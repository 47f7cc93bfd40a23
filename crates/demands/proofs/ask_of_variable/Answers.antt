use Rattle.std.proofs.Common.{◌≡◌, ◌<◌, arith, rules, [], length, get_or}
use Rattle.demands.proofs.Laws.{set_there, variable_asked}
use Rattle.demands.proofs.ask_of_variable.Goals as goal

pub returns : goal.returns
returns c =
    let a = c.args in
    let small : a.x.0 < 256 = search rules in
    let long : length (get_or a.asked.now 1 []) ≡ 512 = omega arith in
    variable_asked a.x.0 a.more.0 a.asked.now _ (set_there 1 a.x.0 a.asked.now (omega arith) long)
    (rw (c.from.ensures, c.union-atoms.ensures, c.of_variable.ensures))
