-- The nodes in the words passed are asked.
use Rattle.problem.specs.Held.{problem_of}
use Rattle.visit.specs.Parts.{SwapsAsked}
use Rattle.visit.proofs.Waiting.{LateBelow}
use Rattle.visit.proofs.ask_words.Given as goal

abbrev pub invariant-loop-i : goal.invariant-loop-i
invariant-loop-i l = SwapsAsked (problem_of l.input.bytes.now) l.seen (LateBelow l.late l.i) l.fn.on_variables l.on_variables
