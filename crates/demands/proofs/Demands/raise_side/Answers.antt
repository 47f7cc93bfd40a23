use Rattle.std.proofs.Common.{◌≡◌, arith, rules, length}
use Rattle.permutation.specs.Table.{Table}
use Rattle.permutation.specs.Store.{table}
use Rattle.permutation.proofs.Store.{length_table}
use Rattle.rows.proofs.Rows.{images_in_kept}
use Rattle.demands.proofs.Laws.{inverted_lt, side_raised}
use Rattle.demands.proofs.Demands.raise_side.Goals as goal

pub raise_node-requires : goal.raise_node-requires
raise_node-requires c =
    let images : Table = table c.args.atoms c.args.p in
    let whole : length c.args.p.images ≡ 32 = search rules in
    let long : length images ≡ c.args.atoms = length_table c.args.atoms c.args.p (omega (arith, c.requires.0)) in
    let sent = inverted_lt images c.args.a.0 (rw long c.requires.1) in
    let same = rw (c.keep.ensures, images_in_kept) at c.preimage-b.ensures in
    (omega (arith, same, long, c.requires.0, sent), c.requires.2)

pub returns-clause-raised : goal.returns-clause-raised
returns-clause-raised c = side_raised (rw (c.preimage-b.ensures, c.keep.ensures, images_in_kept) at c.raise_node.ensures.raised)
