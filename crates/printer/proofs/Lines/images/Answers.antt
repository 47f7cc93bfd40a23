use Rattle.std.proofs.Common.{refl, ◌∙◌, arith}
use Rattle.printer.specs.Lines.{images}
use Rattle.printer.proofs.Placing.{placed_past, placed_nothing, ◌then◌}
use Rattle.printer.proofs.Spelling.{images_more}
use Rattle.printer.proofs.Lines.images.Goals as goal

pub returns-then-self-clause-placed : goal.returns-then-self-clause-placed
returns-then-self-clause-placed c = placed_past _ _ _ c.if-self.true

pub loop-image-init : goal.loop-image-init
unfolding images
loop-image-init c = (refl, placed_nothing _ _ (omega arith))

pub loop-image-preserved : goal.loop-image-preserved
loop-image-preserved c = (
  c.spaced.ensures.same ∙ c.loop-image.invariant.0,
  rw (images_more c.args.s.now c.loop-image.image-index c.loop-image-test.true, ← c.from.ensures)
      (c.loop-image.invariant.1 then c.spaced.ensures.placed),
)
