-- `intake::fill` keeps its count within the lent bytes, and what it counts is what was taken from the reader.
use Rattle.std.proofs.Common.{◌≡◌, ◌-◌, ◌≤◌, length, take}
use Rattle.std.specs.Io.KnownBytes.{Consumes}
use Rattle.descriptor.proofs.Turns.{Reached}
use Rattle.intake.proofs.fill.Given as goal

abbrev pub invariant-loop-count : goal.invariant-loop-count
invariant-loop-count g l = record {
  same_length : length l.buf ≡ length l.initial.buf;
  within : l.count ≤ length l.buf;
  reached : Reached (length l.buf) l.count l.last;
  bytes : Consumes (g.R.Read.remaining l.initial.reader) (g.R.Read.remaining l.reader) (take l.count l.buf);
}

abbrev pub decreases-loop-count : goal.decreases-loop-count
decreases-loop-count g l = length l.buf - l.count
