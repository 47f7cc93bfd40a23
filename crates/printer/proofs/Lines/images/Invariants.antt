-- The images so far are written.
use Rattle.std.proofs.Common.{◌≡◌, take}
use Rattle.printer.specs.Placed.{Placed}
use Rattle.printer.specs.Lines.{images}
use Rattle.printer.proofs.Lines.images.Given as goal

abbrev pub invariant-loop-image : goal.invariant-loop-image
invariant-loop-image l =
    (l.self.out.ghost_name ≡ l.fn.self.out.ghost_name)
    × Placed l.fn.self.out.now l.fn.self.at (images (take l.image-index l.s)) l.self.at l.self.out.now
