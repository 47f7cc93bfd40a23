-- Every atom is at its own place, in the table and past its end.
use Rattle.permutation.specs.Table.{identity}
use Rattle.permutation.proofs.Store.{stored, identity_stored}
use Rattle.permutation.proofs.identity.Goals as goal

pub returns : goal.returns
returns c = stored _ (identity c.args.n) (identity_stored c.args.n c.requires)
