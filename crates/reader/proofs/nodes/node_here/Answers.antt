-- Where no node can stand, none is found; elsewhere `node` answers.
use Rattle.std.proofs.Common.{ap, ◌∙◌, arith}
use Rattle.field.specs.Word.{length_in}
use Rattle.reader.specs.Found.{sized_by}
use Rattle.reader.proofs.Stepping.{cut_node, node_past}
use Rattle.reader.proofs.Steps.{none_found}
use Rattle.reader.proofs.nodes.node_here.Goals as goal

pub returns-then-left-length : goal.returns-then-left-length
returns-then-left-length c =
    let rest = c.args.rest.now in
    let length_is = c.length.ensures.0 ∙ ap length_in rest.first_eight in
    (λ assumed.
    none_found
    (cut_node (sized_by c.args.c) rest.bytes.now rest.are_bytes (omega (arith, length_is, c.if-left-length.true))))

pub returns-then-c-ge-NODES : goal.returns-then-c-ge-NODES
returns-then-c-ge-NODES c =
    let rest = c.args.rest.now in
    (λ assumed. none_found (node_past (sized_by c.args.c) rest.bytes.now rest.are_bytes c.if-c-ge-NODES.true))
