use Rattle.std.proofs.Common.{sym, ◌∙◌}
use Rattle.notice.proofs.Looking.{looks_end, looks_no, looks_on}
use Rattle.notice.proofs.looks_like_text.Goals as goal

pub returns-then-not-suits : goal.returns-then-not-suits
returns-then-not-suits c = sym (c.loop-byte.invariant ∙ looks_no _ _ _ c.loop-byte-test.true (sym c.if-not-suits.ensures))

pub loop-byte-preserved : goal.loop-byte-preserved
loop-byte-preserved c =
    c.loop-byte.invariant ∙ looks_on _ _ _ c.loop-byte-test.true (sym c.if-not-suits.ensures) c.in_comment-comment.ensures

pub returns : goal.returns
returns c = sym (c.loop-byte.invariant ∙ looks_end _ _ _ c.loop-byte-test.false)
