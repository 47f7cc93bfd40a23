use Rattle.bindings.proofs.Laws.{images_of_plain}
use Rattle.bindings.proofs.is_plain.Goals as goal

pub returns : goal.returns
returns c =
    let a = c.args in
    λ same n few. images_of_plain n a.values.now a.x.0 (rw c.from.ensures at (c.is_identity.ensures same n few))
