-- `value_of` meets its contract: of a suspension the variable is looked up, and another form has no value.
use Rattle.side.proofs.Forms.{no_suspension}
use Rattle.side.proofs.Resolving.{valued_suspension, valued_other}
use Rattle.side.proofs.value_of.Goals as goal

pub returns-in-Suspension : goal.returns-in-Suspension
returns-in-Suspension c = rw c.in-Suspension.is (valued_suspension c.look_up.ensures)

pub returns-in_default : goal.returns-in_default
returns-in_default c = valued_other (no_suspension c.args.form c.in_default.not-Suspension)
