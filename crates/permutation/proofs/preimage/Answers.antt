use Rattle.std.proofs.Common.{◌∙◌, arith, ap, sym}
use Rattle.permutation.specs.Table.{image}
use Rattle.permutation.specs.Store.{table}
use Rattle.permutation.specs.declared.Permutation.{Permutation}
use Rattle.permutation.proofs.Table.{first_place, no_place}
use Rattle.permutation.proofs.Store.{length_table, image_table}
use Rattle.names.proofs.Equal.{by_eq}
use Rattle.permutation.proofs.preimage.Goals as goal

pub returns-then-images-i : goal.returns-then-images-i
returns-then-images-i c =
    let p : Permutation = record { images = c.args.images.now } in
    let n = c.args.n in
    let long = length_table n p c.requires.1 in
    let read = image_table n p c.loop-i.i c.loop-i-test.true c.requires.1 in
    first_place (table n p) c.args.a.0 c.loop-i.i (rw long c.requires.2) (rw long c.loop-i-test.true) (read ∙ c.if-images-i.true)
    c.loop-i.invariant

pub loop-i-preserved : goal.loop-i-preserved
loop-i-preserved c =
    let p : Permutation = record { images = c.args.images.now } in
    let read = image_table c.args.n p c.loop-i.i c.loop-i-test.true c.requires.1 in
    λ k l. by_eq k c.loop-i.i
    (λ q e. c.if-images-i.false (sym read ∙ ap (image (table c.args.n p)) (sym q) ∙ e))
    (λ d. c.loop-i.invariant k (omega arith))

pub returns : goal.returns
returns c =
    let p : Permutation = record { images = c.args.images.now } in
    let n = c.args.n in
    let long = length_table n p c.requires.1 in
    no_place (table n p) c.args.a.0 (rw long c.requires.2) (λ k l. c.loop-i.invariant k (omega (arith, long, c.loop-i-test.false, l)))
