-- All numbers below n, by one shift, or all that the widest word has room for.
use Rattle.std.proofs.Common.{◌≡◌, ◌∙◌, arith}
use Rattle.sets.specs.Bits.{all_below}
use Rattle.sets.proofs.Bits.{below_shift, below_full, below_least, all_below_lt}
use Rattle.sets.proofs.Set.below.Goals as goal

pub narrow-requires : goal.narrow-requires
narrow-requires g c =
    let k = g.W.Word.WIDTH in
    rw (below_shift 64 _ c.if-n-lt64.true, below_least 64 k c.args.n g.met.W.Word.within c.WIDTH.ensures c.min-n.ensures)
    (all_below_lt k c.args.n)

pub returns-then-n-lt64 : goal.returns-then-n-lt64
returns-then-n-lt64 g c =
    c.narrow.ensures ∙ below_shift 64 _ c.if-n-lt64.true
    ∙ below_least 64 g.W.Word.WIDTH c.args.n g.met.W.Word.within c.WIDTH.ensures c.min-n.ensures

pub narrow-requires-else-n-lt64 : goal.narrow-requires-else-n-lt64
narrow-requires-else-n-lt64 g c =
    let k = g.W.Word.WIDTH in
    let all : 18446744073709551615 ≡ all_below k c.args.n =
    below_full 64 _ c.if-n-lt64.false ∙ below_least 64 k c.args.n g.met.W.Word.within c.WIDTH.ensures c.min-n.ensures in
    omega (arith, all, all_below_lt k c.args.n)

pub returns-else-n-lt64 : goal.returns-else-n-lt64
returns-else-n-lt64 g c =
    c.narrow-else-n-lt64.ensures ∙ below_full 64 _ c.if-n-lt64.false
    ∙ below_least 64 g.W.Word.WIDTH c.args.n g.met.W.Word.within c.WIDTH.ensures c.min-n.ensures
