-- What was passed on is closed, and each turn the rows of what was passed on lack less.
use Rattle.std.proofs.Common.{◌≡◌, ◌≤◌}
use Rattle.problem.specs.Held.{problem_of}
use Rattle.demands.specs.Demands.{asked_of_nodes}
use Rattle.fresh.specs.Marks.{done_in, SoFar, value_at}
use Rattle.fresh.proofs.Closing.{Closing}
use Rattle.fresh.proofs.Waiting.{lack}
use Rattle.fresh.proofs.close.Given as goal

abbrev pub invariant-loop-y : goal.invariant-loop-y
invariant-loop-y l =
    let p = problem_of l.input.bytes.now in
    record {
      few : l.x.0 ≤ l.variables;
      kept : asked_of_nodes l.asked ≡ asked_of_nodes l.fn.asked;
      closing : Closing p (value_at p.atoms l.bound.0 l.bindings.made.now l.bindings.values.now) (SoFar p l.fn.asked l.fn.marks)
          (SoFar p l.asked l.marks) (done_in l.marks);
    }

abbrev pub decreases-loop-y : goal.decreases-loop-y
decreases-loop-y l = lack l.variables (done_in l.marks)
