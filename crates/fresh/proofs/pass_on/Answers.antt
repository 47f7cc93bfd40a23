-- What was passed on grows, and the value's node is visited.
use Rattle.std.proofs.Common.{ℕ, ◌≡◌, ◌<◌, ◌^◌, ◌∙◌, ap, arith, length}
use Rattle.permutation.specs.Table.{image}
use Rattle.problem.specs.Held.{problem_of}
use Rattle.bindings.specs.Bindings.{images_of}
use Rattle.visit.specs.Visited.{added, sent_into}
use Rattle.fresh.specs.Marks.{done_in}
use Rattle.fresh.proofs.Closing.{passed_on}
use Rattle.fresh.proofs.pass_on.Goals as goal

pub returns : goal.returns
returns c =
    let marks = c.args.marks.now in
    let X = c.args.x.0 in
    let new = c.new_at-new.result.0 in
    let two : length marks ≡ 2 = omega arith in
    let in_done : X < length (done_in marks) = omega arith in
    let new_word : new < 2 ^ 32 = omega arith in
    let is_done = c.add_atoms.ensures ∙ ap (λ (k : ℕ). added (done_in marks) k new) c.from.ensures in
    let A = (problem_of c.args.input.now.bytes.now).atoms in
    let is_sent : c.through_images-sent.result.0 ≡ sent_into A (image (images_of A c.args.bindings.now.values.now X)) new =
    rw c.requires.held.1 at c.through_images-sent.ensures in
    passed_on two _ _ in_done c.new_at-new.ensures.word new_word c.requires.waits c.new_at-new.ensures.new is_done
    (rw (← is_sent, ← c.node_of-node.ensures) c.visit.ensures)
