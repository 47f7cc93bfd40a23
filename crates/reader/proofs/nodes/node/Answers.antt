-- Each tag's own function answers for it, and any other tag is no node's.
use Rattle.std.proofs.Common.{◌≡◌, sym, ap, ◌∙◌, arith}
use Rattle.field.specs.Word.{eight, tag_in}
use Rattle.reader.specs.Found.{sized_by}
use Rattle.reader.proofs.Stepping.{not_node}
use Rattle.reader.proofs.Steps.{none_found, unit_step, atom_step, abstraction_step, pair_step, application_step, suspension_step}
use Rattle.reader.proofs.nodes.node.Goals as goal

pub returns-in-16 : goal.returns-in-16
returns-in-16 c =
    unit_step (record { bytes = c.args.rest.now.are_bytes; seen = c.requires.1; few = c.requires.0 })
    (sym (c.tag.ensures ∙ ap tag_in c.args.rest.now.first_eight) ∙ c.in-16.is) (rw c.args.rest.now.first_eight at c.unit.ensures)

pub returns-in-17 : goal.returns-in-17
returns-in-17 c =
    atom_step (record { bytes = c.args.rest.now.are_bytes; seen = c.requires.1; few = c.requires.0 })
    (sym (c.tag.ensures ∙ ap tag_in c.args.rest.now.first_eight) ∙ c.in-17.is) (rw c.args.rest.now.first_eight at c.atom.ensures)

pub returns-in-18 : goal.returns-in-18
returns-in-18 c =
    abstraction_step (record { bytes = c.args.rest.now.are_bytes; seen = c.requires.1; few = c.requires.0 })
    (sym (c.tag.ensures ∙ ap tag_in c.args.rest.now.first_eight) ∙ c.in-18.is) (rw c.args.rest.now.first_eight at c.abstraction.ensures)

pub returns-in-19 : goal.returns-in-19
returns-in-19 c =
    pair_step (record { bytes = c.args.rest.now.are_bytes; seen = c.requires.1; few = c.requires.0 })
    (sym (c.tag.ensures ∙ ap tag_in c.args.rest.now.first_eight) ∙ c.in-19.is) (rw c.args.rest.now.first_eight at c.pair.ensures)

pub returns-in-20 : goal.returns-in-20
returns-in-20 c =
    application_step (record { bytes = c.args.rest.now.are_bytes; seen = c.requires.1; few = c.requires.0 })
    (sym (c.tag.ensures ∙ ap tag_in c.args.rest.now.first_eight) ∙ c.in-20.is) (rw c.args.rest.now.first_eight at c.application.ensures)

pub returns-in-21 : goal.returns-in-21
returns-in-21 c =
    suspension_step (record { bytes = c.args.rest.now.are_bytes; seen = c.requires.1; few = c.requires.0 })
    (sym (c.tag.ensures ∙ ap tag_in c.args.rest.now.first_eight) ∙ c.in-21.is) (rw c.args.rest.now.first_eight at c.suspension.ensures)

pub returns-in_default : goal.returns-in_default
returns-in_default c =
    let rest = c.args.rest.now in
    let the_tag : c.tag.result ≡ tag_in (eight rest.bytes.now) = c.tag.ensures ∙ ap tag_in rest.first_eight in
    (λ assumed.
    none_found (not_node (sized_by c.args.c) rest.bytes.now rest.are_bytes (record {
      no_unit = λ e. omega (arith, the_tag, e);
      no_atom = λ e. omega (arith, the_tag, e);
      no_abstraction = λ e. omega (arith, the_tag, e);
      no_pair = λ e. omega (arith, the_tag, e);
      no_application = λ e. omega (arith, the_tag, e);
      no_suspension = λ e. omega (arith, the_tag, e);
    })))
