-- The invariant of `go`: the run is on its way from the start with what was taken so far. The measure is how many steps may still be taken.
use Prim.Native.Nat.{◌-◌}
use Rattle.quick.specs.Going.{tables_lent, CarriedOn}
use Rattle.quick.specs.Met.{SameInPlace}
use Rattle.quick.proofs.go.Given as goal

abbrev pub invariant-loop-went : goal.invariant-loop-went
invariant-loop-went l = CarriedOn l.input.bytes.now l.atoms l.limit (tables_lent l.fn.stack l.bindings l.fn.demands) l.taken l.start
    (tables_lent l.stack l.bindings l.demands) l.went × SameInPlace l.fn.stack l.stack l.fn.demands l.demands

abbrev pub decreases-loop-went : goal.decreases-loop-went
decreases-loop-went l = l.limit - l.went.steps
