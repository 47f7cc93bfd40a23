-- `run_read` meets its contract: the run is the definition's, from the bindings that are there, and its tables hold words.
use Rattle.occurs.proofs.Sets.{kept_filled}
use Rattle.verdicts.proofs.Ended.{ends}
use Rattle.verdicts.proofs.running.run_read.Goals as goal

pub run-ran-requires-clause-ready : goal.run-ran-requires-clause-ready
run-ran-requires-clause-ready c =
    let (standing, counts, kept) = c.requires.standing in
    record { standing = standing; counts = counts; filled = kept_filled standing.readable _ kept }

pub returns-clause-ended : goal.returns-clause-ended
returns-clause-ended c =
    let (standing, counts, kept) = c.requires.standing in
    ends _ standing.readable _ c.requires.founded _ _ c.words.ensures counts c.run-ran.ensures.ended
