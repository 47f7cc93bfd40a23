-- The invariant of `resolve`: with the replacements that are left the side resolves to what the first one does with all of them.
use Prim.Native.Nat.{◌-◌}
use Rattle.bindings.specs.Bindings.{binding_tables}
use Rattle.side.specs.Side.{side_at}
use Rattle.side.proofs.Resolving.{Kept}
use Rattle.side.proofs.resolve.Given as goal

abbrev pub invariant-loop-done : goal.invariant-loop-done
invariant-loop-done l =
    Kept l.input.bytes.now l.atoms (binding_tables l.bindings.made.now l.bindings.values.now) l.bound.0 l.count (side_at l.atoms l.fn.images l.fn.node) l.side
    (l.count - l._done)
