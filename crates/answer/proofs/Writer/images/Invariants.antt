-- After i turns the images from i on are left.
use Rattle.std.proofs.Common.{◌≡◌, drop}
use Rattle.bindings.specs.Bindings.{images_of}
use Rattle.answer.proofs.Writing.{Left}
use Rattle.answer.proofs.Writer.images.Given as goal

abbrev pub invariant-loop-i : goal.invariant-loop-i
invariant-loop-i l =
    let images = images_of l.n l.bindings.values.now l.x.0 in
    (l.self.output.ghost_name ≡ l.fn.self.output.ghost_name)
    × Left l.self.output.now l.self.at (drop l.i images) l.fn.self.output.now l.fn.self.at images
