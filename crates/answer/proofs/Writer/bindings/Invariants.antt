-- After i turns the bindings from i on are left.
use Rattle.std.proofs.Common.{◌≡◌, drop}
use Rattle.bindings.specs.Bindings.{binding_tables, bindings_of}
use Rattle.run.specs.Answer.{binding_bytes}
use Rattle.answer.proofs.Writing.{Left}
use Rattle.answer.proofs.Writer.bindings.Given as goal

abbrev pub invariant-loop-i : goal.invariant-loop-i
invariant-loop-i l =
    let bindings = bindings_of l.atoms (binding_tables l.bindings.made.now l.bindings.values.now) l.k in
    (l.self.output.ghost_name ≡ l.fn.self.output.ghost_name)
    × Left l.self.output.now l.self.at (binding_bytes (drop l.i bindings)) l.fn.self.output.now l.fn.self.at (binding_bytes bindings)
