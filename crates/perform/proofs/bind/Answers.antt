-- `bind` meets its contract: the value is the other side under the inverse of the whole permutation.
use Prim.Native.Nat.{◌≤◌}
use native.Mathlib.Omega.{arith}
use Rattle.bindings.proofs.Laws.{keeps_few}
use Rattle.perform.proofs.Performing.{value_is, bound_to}
use Rattle.perform.proofs.bind.Goals as goal

pub overflow_add-result : goal.overflow_add-result
overflow_add-result c =
    let few : c.args.state.count ≤ 64 = keeps_few _ _ _ c.requires.3 in
    omega (arith, few)

pub returns-clause-bound : goal.returns-clause-bound
returns-clause-bound c =
    bound_to c.add-bound.ensures.added
    (value_is _ _ _ _ _ c.args.other.now.images c.under_inverse-images.result c.args.other.now.node c.whole-outer.ensures c.under_inverse-images.ensures)
