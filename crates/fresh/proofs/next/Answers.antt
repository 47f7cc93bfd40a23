-- What is not found on the one side of the variable is looked for on the other.
use Rattle.std.proofs.Common.{rules}
use Rattle.fresh.proofs.Waiting.{next_up, next_down}
use Rattle.fresh.proofs.next.Goals as goal

pub returns-then-up : goal.returns-then-up
returns-then-up c = next_up c.requires.0 _ _ c.or_else.ensures c.next_between.ensures (λ p. search rules)

pub returns : goal.returns
returns c = next_down c.requires.0 _ _ c.or_else-2.ensures c.last_below.ensures (λ p. search rules)
