use Rattle.std.proofs.Common.{rules}
use Rattle.bindings.specs.Bindings.{order_in}
use Rattle.bindings.proofs.variable_at.Goals as goal

-- A variable of the order is one of the 64, so that no number is cut off.
pub overflow_cast-result : goal.overflow_cast-result
unfolding order_in
overflow_cast-result c = search rules

pub returns : goal.returns
unfolding order_in
returns c = search rules
