use Rattle.std.proofs.Common.{◌≡◌, arith, [], length, get_or}
use Rattle.demands.proofs.Laws.{set_there, node_asked}
use Rattle.demands.proofs.ask_of_node.Goals as goal

pub returns : goal.returns
returns c =
    let a = c.args in
    let long : length (get_or a.asked.now 0 []) ≡ 512 = omega arith in
    node_asked a.n.0 a.a.0 a.asked.now _ c.requires.1 (set_there 0 a.n.0 a.asked.now c.requires.0 long)
    (rw (c.from.ensures, c.with-atoms.ensures, c.of_node.ensures))
