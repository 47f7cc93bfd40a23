-- Asking what the bits left name completes the asking. The measure is how many are left.
use Rattle.std.proofs.Common.{ℕ, List}
use Rattle.sets.specs.Bits.{count}
use Rattle.problem.specs.Held.{problem_of}
use Rattle.visit.specs.Parts.{InWord, SwapsAsked}
use Rattle.visit.proofs.ask_word.Given as goal

abbrev pub invariant-loop-rest : goal.invariant-loop-rest
invariant-loop-rest l = record {
  within : (n : ℕ) → InWord l.i l.rest n → InWord l.i l.word n;
  completes : (variables : List ℕ) → SwapsAsked (problem_of l.input.bytes.now) l.seen (InWord l.i l.rest) l.on_variables variables
      → SwapsAsked (problem_of l.input.bytes.now) l.seen (InWord l.i l.word) l.fn.on_variables variables;
}

abbrev pub decreases-loop-rest : goal.decreases-loop-rest
decreases-loop-rest l = count l.rest
