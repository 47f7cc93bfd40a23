-- `resolved` meets its contract: a side that is no suspension of a bound variable resolves to itself.
use mathlib.Core.Path.{sym}
use Rattle.side.proofs.Resolving.{resolved_itself}
use Rattle.machine.proofs.step.resolved.Goals as goal

pub returns : goal.returns
returns c = resolved_itself _ _ _ _ _ c.args.images c.args.node _ c.requires.2 c.form_of-form.ensures (sym c.if-is_bound.ensures)
