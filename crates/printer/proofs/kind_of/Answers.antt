-- Each word is asked for in turn, as in the definition.
use Rattle.std.proofs.Common.{◌++◌}
use Rattle.printer.specs.Lines.{accepted_word, refused_word, bind_word, fresh_word, holds_word, newline}
use Rattle.printer.specs.Kinds.{kind_of}
use Rattle.printer.proofs.Telling.{told}
use Rattle.printer.proofs.kind_of.Goals as goal

pub returns-then-starts_with : goal.returns-then-starts_with
unfolding kind_of
returns-then-starts_with c = rw (told accepted_word c.args.line.now c.starts_with.ensures.value c.if-starts_with.true)

pub returns-then-starts_with-2 : goal.returns-then-starts_with-2
unfolding kind_of
returns-then-starts_with-2 c = rw (
  told accepted_word c.args.line.now c.starts_with.ensures.value c.if-starts_with.false,
  told refused_word c.args.line.now c.starts_with-2.ensures.value c.if-starts_with-2.true,
)

pub returns-then-starts_with-3 : goal.returns-then-starts_with-3
unfolding kind_of
returns-then-starts_with-3 c = rw (
  told accepted_word c.args.line.now c.starts_with.ensures.value c.if-starts_with.false,
  told refused_word c.args.line.now c.starts_with-2.ensures.value c.if-starts_with-2.false,
  told bind_word c.args.line.now c.starts_with-3.ensures.value c.if-starts_with-3.true,
)

pub returns-then-starts_with-4 : goal.returns-then-starts_with-4
unfolding kind_of
returns-then-starts_with-4 c = rw (
  told accepted_word c.args.line.now c.starts_with.ensures.value c.if-starts_with.false,
  told refused_word c.args.line.now c.starts_with-2.ensures.value c.if-starts_with-2.false,
  told bind_word c.args.line.now c.starts_with-3.ensures.value c.if-starts_with-3.false,
  told fresh_word c.args.line.now c.starts_with-4.ensures.value c.if-starts_with-4.true,
)

pub returns-then-starts_with-5 : goal.returns-then-starts_with-5
unfolding kind_of
returns-then-starts_with-5 c = rw (
  told accepted_word c.args.line.now c.starts_with.ensures.value c.if-starts_with.false,
  told refused_word c.args.line.now c.starts_with-2.ensures.value c.if-starts_with-2.false,
  told bind_word c.args.line.now c.starts_with-3.ensures.value c.if-starts_with-3.false,
  told fresh_word c.args.line.now c.starts_with-4.ensures.value c.if-starts_with-4.false,
  told (holds_word ++ newline) c.args.line.now c.starts_with-5.ensures.value c.if-starts_with-5.true,
)

pub returns : goal.returns
unfolding kind_of
returns c = rw (
  told accepted_word c.args.line.now c.starts_with.ensures.value c.if-starts_with.false,
  told refused_word c.args.line.now c.starts_with-2.ensures.value c.if-starts_with-2.false,
  told bind_word c.args.line.now c.starts_with-3.ensures.value c.if-starts_with-3.false,
  told fresh_word c.args.line.now c.starts_with-4.ensures.value c.if-starts_with-4.false,
  told (holds_word ++ newline) c.args.line.now c.starts_with-5.ensures.value c.if-starts_with-5.false,
)
