-- The invariant of `go`: the tables hold a state that the run comes to, and what is left of the run from there is what the whole run ends with. The steps
-- that are taken in place keep it so. The measure is how many steps may still be taken.
use Prim.Native.Nat.{◌-◌}
use Rattle.bindings.specs.Bindings.{bindings_of}
use Rattle.perform.specs.Performed.{tables_in, SameTables}
use Rattle.quick.specs.Going.{Going}
use Rattle.machine.proofs.verdict.go.Given as goal

abbrev pub invariant-loop-state : goal.invariant-loop-state
invariant-loop-state l =
    Going l.input.bytes.now l.atoms l.protected.0 l.limit (bindings_of l.atoms (tables_in l.fn.work).bindings l.fn.start.count) (tables_in l.work) l.steps
    l.state × SameTables l.fn.work l.work

abbrev pub decreases-loop-state : goal.decreases-loop-state
decreases-loop-state l = l.limit - l.steps
