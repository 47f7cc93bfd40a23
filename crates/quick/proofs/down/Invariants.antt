-- The invariant of `down`: the run is on its way with the equation whose nodes the loop has, above those in the tables.
use Rattle.quick.specs.Going.{tables_lent}
use Rattle.quick.specs.Met.{SameInPlace}
use Rattle.quick.proofs.Descending.{Down}
use Rattle.quick.proofs.down.Given as goal

abbrev pub invariant-loop-steps : goal.invariant-loop-steps
invariant-loop-steps l =
    Down l.input.bytes.now l.input.places.now l.atoms l.limit (tables_lent l.fn.stack l.bindings l.fn.demands) l.taken l.state
    (tables_lent l.stack l.bindings l.demands) l.number l.l l.r l.n l.steps × SameInPlace l.fn.stack l.stack l.fn.demands l.demands
