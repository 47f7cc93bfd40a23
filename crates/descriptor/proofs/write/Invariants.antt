-- `descriptor::write`: what the last call answered is true of all calls so far, since those before it failed, and a write that fails leaves nothing behind.
use Rattle.std.proofs.Common.{length, take}
use Rattle.std.specs.Io.KnownBytes.{Appends}
use Rattle.descriptor.specs.Answers.{Moved, moved_of}
use Rattle.descriptor.proofs.write.Given as goal

abbrev pub invariant-loop : goal.invariant-loop
invariant-loop g l = record {
  moved : Moved (length l.buf) l.got;
  bytes : Appends (g.W.Write.contents l.fn.writer) (g.W.Write.contents l.writer) (take (moved_of l.got) l.buf);
}
