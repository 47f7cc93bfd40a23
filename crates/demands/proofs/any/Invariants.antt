use Rattle.demands.proofs.Laws.{Joined}
use Rattle.demands.proofs.any.Given as goal

-- The atoms of the sets passed are among those joined.
abbrev pub invariant-loop-atoms : goal.invariant-loop-atoms
invariant-loop-atoms l = Joined l.atoms-items l.atoms-index l.all.0
