-- No variable passed waits.
use Rattle.std.proofs.Common.{◌≡◌, true, ℕ, ◌≤◌, ◌<◌}
use Rattle.sets.specs.Bits.{member}
use Rattle.demands.specs.Demands.{asked_of_variables}
use Rattle.fresh.specs.Marks.{done_in, new_at}
use Rattle.fresh.proofs.next_between.Given as goal

abbrev pub invariant-loop-x : goal.invariant-loop-x
invariant-loop-x l =
    (X : ℕ) → X < l.x → l.fn.from.0 ≤ X → member l.bound.0 X ≡ true → new_at (asked_of_variables l.asked) (done_in l.marks) X ≡ 0
