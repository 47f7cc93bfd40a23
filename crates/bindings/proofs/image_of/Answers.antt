use Rattle.std.proofs.Common.{sym, ◌∙◌}
use Rattle.bindings.proofs.Laws.{image_images_of}
use Rattle.bindings.proofs.image_of.Goals as goal

pub returns : goal.returns
returns c =
    let a = c.args in
    rw c.from.ensures at c.image.ensures ∙ sym (image_images_of a.n a.values.now a.x.0 a.a.0)
