use Rattle.std.proofs.Common.{◌∙◌, sym}
use Rattle.permutation.specs.Swaps.{swapped}
use Rattle.permutation.proofs.swap_atom.Goals as goal

pub returns-then-eq : goal.returns-then-eq
unfolding swapped
returns-then-eq c = rw (sym c.eq.ensures ∙ c.if-eq.true)

pub returns-then-eq-2 : goal.returns-then-eq-2
unfolding swapped
returns-then-eq-2 c = rw (sym c.eq.ensures ∙ c.if-eq.false, sym c.eq-else-eq.ensures ∙ c.if-eq-2.true)

pub returns-else-eq-2 : goal.returns-else-eq-2
unfolding swapped
returns-else-eq-2 c = rw (sym c.eq.ensures ∙ c.if-eq.false, sym c.eq-else-eq.ensures ∙ c.if-eq-2.false)
