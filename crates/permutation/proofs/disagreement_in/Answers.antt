use Rattle.std.proofs.Common.{◌≡◌, ◌∙◌, arith}
use Rattle.permutation.specs.declared.Permutation.{Permutation}
use Rattle.permutation.proofs.Store.{disagreement_more, disagreement_skip, disagreement_all}
use Rattle.permutation.proofs.disagreement_in.Goals as goal
use Rattle.permutation.proofs.disagreement_in.Goals.{then-images-i, else-images-i}

pub loop-i-preserved : goal.loop-i-preserved
loop-i-preserved c =
    let p : Permutation = record { images = c.args.images.now } in
    let q : Permutation = record { images = c.args.others.now } in
    let n = c.args.n in
    let i = c.loop-i.i in
    elim c.if-images-i.branch [
      | then-images-i w ↦
          let more = disagreement_more n p q i c.loop-i-test.true c.requires.1 c.requires.2 w.if-images-i.true in
          rw (w.r-is, w.with-r.ensures, c.loop-i.invariant) more
      | else-images-i w ↦ rw (w.r-is, c.loop-i.invariant) (disagreement_skip n p q i c.loop-i-test.true c.requires.1 c.requires.2 w.if-images-i.false)
    ]

pub returns : goal.returns
returns c =
    let p : Permutation = record { images = c.args.images.now } in
    let q : Permutation = record { images = c.args.others.now } in
    let e : c.loop-i.i ≡ c.args.n = omega arith in
    c.loop-i.invariant ∙ rw e (disagreement_all c.args.n p q c.requires.1)
