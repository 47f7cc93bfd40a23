-- The demands are visited, what waits is passed on, and clashes are read off in the end.
use Rattle.std.proofs.Common.{ℕ, List, [], ◌<◌, arith, set, length}
use lib.Seq.{get_or-set_same, get_or-set_other}
use Rattle.problem.specs.Problem.{Problem}
use Rattle.problem.specs.Held.{problem_of}
use Rattle.demands.specs.Demands.{asked_of_variables}
use Rattle.visit.specs.Pairs.{Pair}
use Rattle.visit.specs.Visited.{Marked}
use Rattle.fresh.specs.Marks.{SoFar, Begun, value_at}
use Rattle.fresh.proofs.Closing.{reached_small}
use Rattle.fresh.proofs.Clashes.{resolved_all_lem}
use Rattle.fresh.proofs.Cleared.{none_seen, none_done}
use Rattle.fresh.proofs.resolve.Goals as goal

-- The column of what was seen is written over the cleared marks.
begun_over : (p : Problem) {S : Pair → Type 0} (asked marks : List (List ℕ)) (seen : List ℕ) → 0 < length marks
    → Begun p.nodes S (Marked p seen (asked_of_variables asked)) → Begun p.nodes S (SoFar p asked (set marks 0 seen))
begun_over p asked marks seen some b = let written = get_or-set_same marks 0 seen [] some in rw written b

pub begin-requires-clause-none : goal.begin-requires-clause-none
begin-requires-clause-none c = rw c.clear.ensures (none_seen c.args.nodes c.args.variables c.args.marks.now (omega arith))

pub close-requires-clause-none : goal.close-requires-clause-none
close-requires-clause-none c =
    let kept = get_or-set_other c.clear.new.asked 0 1 c.begin.new.seen [] (λ q. omega arith) in
    rw (kept, c.clear.ensures) (none_done c.args.nodes c.args.variables c.args.marks.now (omega arith))

pub close-requires-clause-small : goal.close-requires-clause-small
close-requires-clause-small c = λ w h.
    let p = problem_of c.args.input.now.bytes.now in
    let value = value_at p.atoms c.args.bound.0 c.args.bindings.now.made.now c.args.bindings.now.values.now in
    let begun = begun_over p c.begin.new.asked c.clear.new.asked c.begin.new.seen (omega arith) c.begin.ensures.begun in
    reached_small c.requires.held.1 c.requires.held.0.readable.named_nodes c.requires.small (begun.from value w h)

pub returns-clause-resolved : goal.returns-clause-resolved
returns-clause-resolved c =
    let p = problem_of c.args.input.now.bytes.now in
    let value = value_at p.atoms c.args.bound.0 c.args.bindings.now.made.now c.args.bindings.now.values.now in
    let begun = begun_over p c.begin.new.asked c.clear.new.asked c.begin.new.seen (omega arith) c.begin.ensures.begun in
    resolved_all_lem p _ _ _ {value = value} begun c.close.ensures.finished c.clashing.ensures
