-- The lines of an answer, field by field: the rest is passed on.
use Rattle.std.proofs.Common.{◌+◌, refl, sym, ◌∙◌, arith}
use lib.ListN.{length-drop}
use Rattle.printer.proofs.Placing.{placed_past}
use Rattle.printer.proofs.Walking.{midway_start, midway_over, midway_unknown, midway_more, whole_fits, body_length, passed_on}
use Rattle.printer.proofs.Lines.answer.Goals as goal

pub returns-then-self-clause-placed : goal.returns-then-self-clause-placed
returns-then-self-clause-placed c = placed_past _ _ _ c.if-self.true

pub loop-tag-init : goal.loop-tag-init
loop-tag-init c = (refl, midway_start _ _ _ (omega arith))

pub returns : goal.returns
returns c = record {
  same = c.loop-tag.invariant.0;
  placed = midway_over _ _ _ _ _ _ c.loop-tag.invariant.1 (λ tag n e. c.in_default.not-Whole tag n (c.front.ensures ∙ e));
}

pub returns-in_default-part_of-clause-placed : goal.returns-in_default-part_of-clause-placed
returns-in_default-part_of-clause-placed c =
    midway_unknown _ _ _ _ _ _ c.loop-tag.invariant.1 c.in-Whole.tag c.in-Whole.n (sym c.in-Whole.ensures)
    (c.part_of.ensures.none c.in_default-part_of.is)

pub body-requires : goal.body-requires
body-requires c = whole_fits _ _ _ _ _ _ c.loop-tag.invariant.1 c.in-Whole.tag c.in-Whole.n (sym c.in-Whole.ensures)

pub field-requires : goal.field-requires
field-requires c =
    rw (c.body.ensures, body_length _ _ _ _ _ _ c.loop-tag.invariant.1 c.in-Whole.tag c.in-Whole.n (sym c.in-Whole.ensures))
    (rw (← c.in-Some.ensures.some.0) c.in-Some.ensures.some.1)

pub overflow_add-rest : goal.overflow_add-rest
overflow_add-rest c = omega (arith, whole_fits _ _ _ _ _ _ c.loop-tag.invariant.1 c.in-Whole.tag c.in-Whole.n (sym c.in-Whole.ensures))

pub slice_bounds-rest-count : goal.slice_bounds-rest-count
slice_bounds-rest-count c = omega (arith, whole_fits _ _ _ _ _ _ c.loop-tag.invariant.1 c.in-Whole.tag c.in-Whole.n (sym c.in-Whole.ensures))

pub slice_bounds-rest-start : goal.slice_bounds-rest-start
slice_bounds-rest-start c = omega (arith, whole_fits _ _ _ _ _ _ c.loop-tag.invariant.1 c.in-Whole.tag c.in-Whole.n (sym c.in-Whole.ensures))

pub loop-tag-smaller : goal.loop-tag-smaller
loop-tag-smaller c =
    rw (passed_on (3 + c.in-Whole.n) c.loop-tag.rest.now)
    (omega (
      arith,
      length-drop (3 + c.in-Whole.n) c.loop-tag.rest.now,
      whole_fits _ _ _ _ _ _ c.loop-tag.invariant.1 c.in-Whole.tag c.in-Whole.n (sym c.in-Whole.ensures),
    ))

pub loop-tag-preserved : goal.loop-tag-preserved
loop-tag-preserved c = (
  c.field.ensures.same ∙ c.loop-tag.invariant.0,
  rw (passed_on (3 + c.in-Whole.n) c.loop-tag.rest.now)
      (midway_more _ _ _ _ _ _ c.loop-tag.invariant.1 c.in-Whole.tag c.in-Whole.n (sym c.in-Whole.ensures) _ _
      c.in-Some.ensures.some.1 (rw (c.in-Some.ensures.some.0, ← c.body.ensures) c.field.ensures.placed)),
)
