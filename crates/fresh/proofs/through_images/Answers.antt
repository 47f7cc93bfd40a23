use Rattle.std.proofs.Common.{ℕ, ◌∙◌, ap, sym, arith}
use Rattle.sets.specs.Bits.{member, inserted}
use Rattle.sets.specs.declared.Set.{Set}
use Rattle.permutation.specs.Table.{image}
use Rattle.bindings.specs.Bindings.{images_of}
use Rattle.fresh.proofs.Images.{sent_none, sent_with, sent_without}
use Rattle.fresh.proofs.through_images.Goals.{then-has, else-has}
use Rattle.fresh.proofs.through_images.Goals as goal

pub loop-i-init : goal.loop-i-init
loop-i-init c = c.empty-r.ensures ∙ sent_none _ _

pub loop-i-preserved : goal.loop-i-preserved
loop-i-preserved c =
    let i = c.loop-i.i in
    let atoms = c.args.atoms.0 in
    let sends = image (images_of c.args.n c.args.bindings.now.values.now c.args.x.0) in
    let tested = ap (member atoms) (sym c.image_of.ensures) ∙ sym c.has.ensures in
    elim c.if-has.branch [
      | then-has w ↦ ap (λ (s : Set ℕ). s.0) w.r-is ∙ w.with-r.ensures ∙ ap (λ (k : ℕ). inserted 32 k i) c.loop-i.invariant
          ∙ sent_with i sends atoms (omega arith) (tested ∙ w.if-has.true)
      | else-has w ↦ ap (λ (s : Set ℕ). s.0) w.r-is ∙ c.loop-i.invariant ∙ sent_without i sends atoms (tested ∙ w.if-has.false)
    ]
