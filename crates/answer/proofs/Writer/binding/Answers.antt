-- The field's front, the variable, the node, the images.
use Rattle.std.proofs.Common.{◌+◌, length, ap, ◌∙◌, arith}
use Rattle.field.specs.Field.{bytes2}
use Rattle.bindings.specs.Bindings.{binding_tables, binding_at}
use Rattle.bindings.proofs.Laws.{length_images_of}
use Rattle.answer.proofs.Writing.{wrote_length, wrote_same, ◌then◌}
use Rattle.answer.proofs.Fields.{length_two, two_bytes, binding_parts}
use Rattle.answer.proofs.Writer.binding.Goals as goal

pub put-requires : goal.put-requires
put-requires c = omega (arith, length_two (3 + c.args.n), wrote_length c.front.ensures.wrote)

pub put_all-requires : goal.put_all-requires
put_all-requires c =
    omega (
      arith,
      length_two (3 + c.args.n),
      ap length c.to_be_bytes.ensures,
      wrote_length c.front.ensures.wrote,
      wrote_length c.put.ensures.wrote,
    )

pub images-requires : goal.images-requires
images-requires c = (
  omega arith,
  omega arith,
  omega (
    arith,
    length_two (3 + c.args.n),
    ap length c.to_be_bytes.ensures,
    wrote_length c.front.ensures.wrote,
    wrote_length c.put.ensures.wrote,
    wrote_length c.put_all.ensures.wrote,
  ),
)

pub returns-clause-wrote : goal.returns-clause-wrote
unfolding binding_at
returns-clause-wrote c =
    let a = c.args in
    let binding = binding_at a.n (binding_tables a.bindings.now.made.now a.bindings.now.values.now) a.x.0 in
    let node_written = wrote_same (c.to_be_bytes.ensures ∙ two_bytes _ ∙ ap bytes2 c.node_of-node.ensures) c.put_all.ensures.wrote in
    wrote_same (binding_parts binding a.n (length_images_of a.n a.bindings.now.values.now a.x.0))
    (c.front.ensures.wrote then c.put.ensures.wrote then node_written then c.images.ensures.wrote)
