use Rattle.std.proofs.Common.{◌≡◌, ◌∙◌, arith, rules, ap, sym, length}
use Rattle.permutation.specs.Table.{image, after}
use Rattle.permutation.specs.Store.{table, padded}
use Rattle.permutation.proofs.Store.{image_table, stored, length_table, fill_none, fill_more, after_tabulate}
use Rattle.permutation.proofs.compose.Goals as goal

pub loop-i-init : goal.loop-i-init
loop-i-init c = fill_none (λ a. image (table c.args.n c.args.p) (image (table c.args.n c.args.q) a))

pub loop-i-preserved : goal.loop-i-preserved
loop-i-preserved c =
    let n = c.args.n in
    let i = c.loop-i.i in
    let l : length c.args.q.images ≡ 32 = search rules in
    let sent = c.image_in.ensures ∙ ap (image (table n c.args.p)) (sym (image_table n c.args.q i c.loop-i-test.true (omega arith))) in
    rw c.loop-i.invariant (fill_more i (λ a. image (table n c.args.p) (image (table n c.args.q) a)) _ (omega arith) sent)

pub returns : goal.returns
returns c =
    let n = c.args.n in
    let e : c.loop-i.i ≡ n = omega arith in
    let l : length c.args.q.images ≡ 32 = search rules in
    let P = table n c.args.p in
    let Q = table n c.args.q in
    stored c.loop-i.r (after P Q) (c.loop-i.invariant ∙ rw e (ap padded (sym (after_tabulate P Q n (length_table n c.args.q (omega arith))))))
