-- `descriptor::read`: what the last call answered is true of all calls so far, since those before it failed, and a read that fails takes nothing.
use Rattle.std.proofs.Common.{◌≡◌, ◌<◌, length, take, Ok}
use Rattle.std.specs.Io.KnownBytes.{Consumes, IsAtEnd}
use Rattle.descriptor.specs.Answers.{Moved, moved_of}
use Rattle.descriptor.proofs.read.Given as goal

abbrev pub invariant-loop : goal.invariant-loop
invariant-loop g l = record {
  moved : Moved (length l.buf) l.got;
  bytes : Consumes (g.R.Read.remaining l.fn.reader) (g.R.Read.remaining l.reader) (take (moved_of l.got) l.buf);
  end : l.got ≡ Ok 0 → 0 < length l.buf → IsAtEnd (g.R.Read.remaining l.reader);
}
