use Rattle.std.proofs.Common.{◌∙◌}
use Rattle.notice.specs.Notices.{plain}
use Rattle.notice.proofs.Looking.{any_among}
use Rattle.notice.proofs.suits.Goals as goal

pub returns-else-comment : goal.returns-else-comment
unfolding plain
returns-else-comment c = rw c.if-comment.false (c.contains.ensures.value ∙ any_among c.args.byte plain)
