-- No node passed is an atom of its own set.
use Rattle.std.proofs.Common.{◌≡◌, ℕ, ◌<◌, get_or, false}
use Rattle.problem.specs.Problem.{form_at}
use Rattle.problem.specs.Held.{problem_of}
use Rattle.fresh.specs.Marks.{clash_at}
use Rattle.fresh.proofs.clashing_marked.Given as goal

abbrev pub invariant-loop-n : goal.invariant-loop-n
invariant-loop-n l = (k : ℕ) → k < l.n → clash_at (form_at (problem_of l.input.bytes.now).nodes k) (get_or l.seen k 0) ≡ false
