-- The nodes passed are visited, and what is demanded of nodes stays.
use Rattle.std.proofs.Common.{◌≡◌, length}
use Rattle.problem.specs.Held.{problem_of}
use Rattle.demands.specs.Demands.{asked_of_nodes, asked_of_variables}
use Rattle.fresh.proofs.Beginning.{Beginning}
use Rattle.fresh.proofs.visit_demanded.Given as goal

abbrev pub invariant-loop-n : goal.invariant-loop-n
invariant-loop-n l = record {
  two : length l.asked ≡ 2;
  kept : asked_of_nodes l.asked ≡ asked_of_nodes l.fn.asked;
  begun : Beginning (problem_of l.input.bytes.now) (asked_of_nodes l.fn.asked) (asked_of_variables l.fn.asked) l.n l.seen (asked_of_variables l.asked);
}
