use Rattle.std.proofs.Common.{◌≡◌, ◌∙◌, arith, rules, ap, sym, length}
use Rattle.permutation.specs.Swaps.{swapped}
use Rattle.permutation.specs.Table.{image, swapped_after}
use Rattle.permutation.specs.Store.{table, padded}
use Rattle.permutation.proofs.Store.{stored, length_table, image_table, fill_none, fill_more, swapped_after_tabulate}
use Rattle.permutation.proofs.swap_after.Goals as goal

pub loop-i-init : goal.loop-i-init
loop-i-init c = fill_none (λ d. swapped c.args.a.0 c.args.b.0 (image (table c.args.n c.args.p) d))

pub loop-i-preserved : goal.loop-i-preserved
loop-i-preserved c =
    let n = c.args.n in
    let i = c.loop-i.i in
    let swap = swapped c.args.a.0 c.args.b.0 in
    let l : length c.args.p.images ≡ 32 = search rules in
    let sent = c.swap_atom.ensures ∙ ap swap (sym (image_table n c.args.p i c.loop-i-test.true (omega arith))) in
    rw c.loop-i.invariant (fill_more i (λ d. swap (image (table n c.args.p) d)) _ (omega arith) sent)

pub returns : goal.returns
returns c =
    let n = c.args.n in
    let P = table n c.args.p in
    let e : c.loop-i.i ≡ n = omega arith in
    let l : length c.args.p.images ≡ 32 = search rules in
    let all = swapped_after_tabulate c.args.a.0 c.args.b.0 P n (length_table n c.args.p (omega arith)) in
    stored c.loop-i.r (swapped_after c.args.a.0 c.args.b.0 P) (c.loop-i.invariant ∙ rw e (ap padded (sym all)))
