-- Each tag's own function answers for it, and any other tag is none of theirs.
use Rattle.std.proofs.Common.{◌≡◌, sym, ap, ◌∙◌, arith}
use Rattle.field.specs.Word.{eight, tag_in, length_in}
use Rattle.reader.specs.Found.{sized_by}
use Rattle.reader.proofs.Stepping.{cut_other, not_other}
use Rattle.reader.proofs.Steps.{none_found, equation_step, freshness_step, assumption_step, protection_step}
use Rattle.reader.proofs.other.Goals as goal

pub returns-then-rest-length : goal.returns-then-rest-length
returns-then-rest-length c =
    let rest = c.args.rest.now in
    let the_length = c.length.ensures.0 ∙ ap length_in rest.first_eight in
    (λ variables.
    none_found (cut_other (sized_by c.args.c) rest.bytes.now rest.are_bytes (omega (arith, the_length, c.if-rest-length.true))))

pub returns-in-32 : goal.returns-in-32
returns-in-32 c =
    let rest = c.args.rest.now in
    equation_step rest.are_bytes (λ h. rw (c.length.ensures.0 ∙ ap length_in rest.first_eight) at c.if-rest-length.false)
    (sym (c.tag.ensures ∙ ap tag_in rest.first_eight) ∙ c.in-32.is) (rw rest.first_eight at c.equation.ensures)

pub returns-in-33 : goal.returns-in-33
returns-in-33 c =
    let rest = c.args.rest.now in
    freshness_step rest.are_bytes (λ h. rw (c.length.ensures.0 ∙ ap length_in rest.first_eight) at c.if-rest-length.false)
    (sym (c.tag.ensures ∙ ap tag_in rest.first_eight) ∙ c.in-33.is) (rw rest.first_eight at c.freshness.ensures)

pub returns-in-34 : goal.returns-in-34
returns-in-34 c =
    let rest = c.args.rest.now in
    assumption_step rest.are_bytes (λ h. rw (c.length.ensures.0 ∙ ap length_in rest.first_eight) at c.if-rest-length.false)
    (sym (c.tag.ensures ∙ ap tag_in rest.first_eight) ∙ c.in-34.is) (rw rest.first_eight at c.assumption.ensures)

pub returns-in-48 : goal.returns-in-48
returns-in-48 c =
    let rest = c.args.rest.now in
    protection_step rest.are_bytes (λ h. rw (c.length.ensures.0 ∙ ap length_in rest.first_eight) at c.if-rest-length.false)
    (sym (c.tag.ensures ∙ ap tag_in rest.first_eight) ∙ c.in-48.is) (rw rest.first_eight at c.protection.ensures)

pub returns-in_default : goal.returns-in_default
returns-in_default c =
    let rest = c.args.rest.now in
    let the_tag : c.tag.result ≡ tag_in (eight rest.bytes.now) = c.tag.ensures ∙ ap tag_in rest.first_eight in
    (λ variables.
    none_found
    (not_other (sized_by c.args.c) rest.bytes.now rest.are_bytes (λ e. omega (arith, the_tag, e))
    (λ e. omega (arith, the_tag, e)) (λ e. omega (arith, the_tag, e)) (λ e. omega (arith, the_tag, e))))
