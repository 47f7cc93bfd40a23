use Rattle.std.proofs.Common.{sym, ◌∙◌}
use Rattle.notice.proofs.Looking.{empty_no, some_text}
use Rattle.notice.proofs.is_text.Goals as goal

pub returns-then-not-is_empty : goal.returns-then-not-is_empty
returns-then-not-is_empty c =
    c.looks_like_text.ensures ∙ some_text c.args.input.now c.min.result c.min.ensures (sym c.if-not-is_empty.true ∙ c.is_empty.ensures)

pub returns-else-not-is_empty : goal.returns-else-not-is_empty
returns-else-not-is_empty c = rw c.if-not-is_empty.false (empty_no c.args.input.now (sym c.if-not-is_empty.false ∙ c.is_empty.ensures))
