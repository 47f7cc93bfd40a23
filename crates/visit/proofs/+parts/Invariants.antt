-- By the node's number, which falls at each part.
use Rattle.visit.proofs.+parts.Given as goal

abbrev pub decreases-parts : goal.decreases-parts
decreases-parts l = l.node
