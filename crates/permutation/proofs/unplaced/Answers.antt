use Rattle.std.proofs.Common.{◌≡◌, ◌∙◌, arith, refl}
use Rattle.permutation.specs.Table.{tabulate}
use Rattle.permutation.proofs.Store.{stored, fill_none, fill_more}
use Rattle.permutation.proofs.unplaced.Goals as goal

pub loop-i-init : goal.loop-i-init
loop-i-init c = fill_none (λ a. 0)

pub loop-i-preserved : goal.loop-i-preserved
loop-i-preserved c = rw c.loop-i.invariant (fill_more c.loop-i.i (λ a. 0) 0 (omega arith) refl)

pub returns : goal.returns
returns c =
    let e : c.loop-i.i ≡ c.args.n = omega arith in
    stored c.loop-i.r (tabulate c.args.n (λ a. 0)) (c.loop-i.invariant ∙ rw e)
