use Rattle.std.proofs.Common.{◌∙◌, ◌<◌, List, ℕ, length, get_or, ap, arith}
use Rattle.permutation.specs.Swaps.{swapped}
use Rattle.permutation.proofs.Store.{swapped_next, swapped_more}
use Rattle.permutation.proofs.swap_in.Goals as goal

pub loop-image-preserved : goal.loop-image-preserved
loop-image-preserved c =
    let a = c.args.a.0 in
    let b = c.args.b.0 in
    let row = c.args.images.now in
    let i = c.loop-image.image-index in
    let there : i < length row = omega arith in
    let read = ap (λ (l : List ℕ). get_or l i 0) c.loop-image.invariant ∙ swapped_next a b row i there in
    let image = c.swap_atom.ensures ∙ ap (swapped a b) read in
    rw c.loop-image.invariant (swapped_more a b row i there c.swap_atom.result.0 image)
