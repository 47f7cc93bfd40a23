-- What stays true from field to field.
use Rattle.std.proofs.Common.{◌-◌, length}
use Rattle.reader.specs.Tables.{reader_tables}
use Rattle.reader.specs.Onward.{Onward}
use Rattle.reader.proofs.fields.Given as goal

abbrev pub invariant-loop-rest : goal.invariant-loop-rest
invariant-loop-rest l =
    Onward l.s l.fn.head (reader_tables l.fn.places l.fn.assumed l.fn.node_variables) l.at l.c (reader_tables l.places l.assumed l.node_variables)

abbrev pub decreases-loop-rest : goal.decreases-loop-rest
decreases-loop-rest l = length l.s - l.at
