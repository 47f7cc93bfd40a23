use Rattle.std.proofs.Common.{◌≡◌, ◌∙◌, ◌-◌, arith, rules, sym, length}
use Rattle.permutation.specs.Table.{inverted}
use Rattle.permutation.specs.Store.{table, of_table}
use Rattle.permutation.proofs.Store.{stored, length_table, image_table, invert_none, invert_store, invert_skip, invert_all}
use Rattle.permutation.proofs.invert.Goals as goal

pub loop-i-init : goal.loop-i-init
unfolding of_table
loop-i-init c =
    let n = c.args.n in
    let l : length c.args.p.images ≡ 32 = search rules in
    rw c.unplaced-r.ensures (invert_none n (table n c.args.p) (length_table n c.args.p (omega arith)))

pub loop-i-preserved-then-k-n : goal.loop-i-preserved-then-k-n
loop-i-preserved-then-k-n c =
    let n = c.args.n in
    let P = table n c.args.p in
    let i = c.loop-i.i in
    let l : length c.args.p.images ≡ 32 = search rules in
    let e = c.from-k.ensures ∙ sym (image_table n c.args.p (i - 1) (omega arith) (omega arith)) in
    rw (c.loop-i.invariant, e) (invert_store n P (length_table n c.args.p (omega arith)) i (omega arith) (omega arith) (omega arith))

pub loop-i-preserved : goal.loop-i-preserved
loop-i-preserved c =
    let n = c.args.n in
    let P = table n c.args.p in
    let i = c.loop-i.i in
    let l : length c.args.p.images ≡ 32 = search rules in
    let e = c.from-k.ensures ∙ sym (image_table n c.args.p (i - 1) (omega arith) (omega arith)) in
    c.loop-i.invariant ∙ invert_skip n P (length_table n c.args.p (omega arith)) i (omega arith) (omega arith) (omega arith)

pub returns : goal.returns
returns c =
    let n = c.args.n in
    let e : c.loop-i.i ≡ 0 = omega arith in
    let l : length c.args.p.images ≡ 32 = search rules in
    let P = table n c.args.p in
    stored c.loop-i.r (inverted P) (c.loop-i.invariant ∙ rw e (invert_all n P (length_table n c.args.p (omega arith))))
