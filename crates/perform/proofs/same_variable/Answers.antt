-- `same_variable` meets its contract: the disagreement set of both whole permutations is demanded.
use Prim.Native.Nat.{◌≤◌}
use Rattle.perform.proofs.Performing.{disagreement_raised}
use Rattle.perform.proofs.same_variable.Goals as goal

pub returns-clause-raised : goal.returns-clause-raised
returns-clause-raised c =
    let few : c.args.atoms ≤ 32 = rw c.requires.1 c.requires.0.readable.few_atoms in
    disagreement_raised _ _ _ _ _ _ _ few c.whole-p.ensures c.whole-q.ensures c.disagreement-d.ensures c.raise_variable.ensures.raised
