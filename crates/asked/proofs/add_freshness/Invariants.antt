-- Who adds the fields that are left has added all.
use Rattle.std.proofs.Common.{List, ℕ, drop}
use Rattle.problem.specs.Held.{problem_of}
use Rattle.asked.specs.Added.{FreshnessAdded}
use Rattle.asked.proofs.add_freshness.Given as goal

abbrev pub invariant-loop-k : goal.invariant-loop-k
invariant-loop-k l =
    let fields = (problem_of l.input.bytes.now).freshness in
    (after : List (List ℕ)) → FreshnessAdded (drop l.k fields) l.asked after → FreshnessAdded fields l.fn.asked after
