-- A run that reached its limit stays that, every other refusal of the run is the judge's one, and what comes after its end decides.
use Prim.Native.Nat.{ℕ}
use mathlib.Core.Path.{◌≡◌, refl, sym, ◌∙◌, ap}
use denote.Enum.Bare.{same_true, same_false}
use Rattle.sets.specs.Bits.{member, all_below}
use Rattle.problem.specs.Problem.{Problem}
use Rattle.problem.specs.Readable.{Readable}
use Rattle.problem.specs.Held.{problem_of}
use Rattle.run.specs.Answer.{judged_run}
use Rattle.numbers.specs.contracts.Reason.{the_type}
use Rattle.bindings.specs.Bindings.{Bindings, bindings_of}
use Rattle.machine.specs.Run.{end_given}
use Rattle.verdicts.specs.Ends.{run_from}
use Rattle.verdicts.proofs.Runs.{founded_none, judge_run, all_protected, judged_limit, judged_refused, judged_finished}
use Rattle.verdicts.proofs.judging.judge_read.Goals as goal

-- It was the judge's run, whatever the tables of bindings held: every variable was protected.
judges : (p : Problem) → Readable p → (protected : ℕ) → protected ≡ all_below 64 64 → (t : Bindings)
    → run_from p (member protected) (bindings_of p.atoms t 0) ≡ judged_run p
judges p readable protected e t =
    judge_run p readable (member protected) t (λ X l. ap (λ (w : ℕ). member w X) e ∙ all_protected p readable X l)

pub run_read-requires-clause-founded : goal.run_read-requires-clause-founded
run_read-requires-clause-founded c = founded_none _ _ c.empty-none.ensures

pub returns-in-Ok-clause-judged : goal.returns-in-Ok-clause-judged
returns-in-Ok-clause-judged c =
    let p : Problem = problem_of c.args.input.now.bytes.now in
    let run = judges p c.requires.0.standing.readable _ c.below-protected.ensures _ in
    let (ended, ends) = c.in-Ok.ensures.ended.accepted _ refl in
    let (made, values) = c.shown-bindings.ensures in
    judged_finished p (sym ends ∙ run) ((rw (made, values) at c.judged.ensures) _ _ ended)

pub returns-in-Err-clause-judged : goal.returns-in-Err-clause-judged
returns-in-Err-clause-judged c =
    let p : Problem = problem_of c.args.input.now.bytes.now in
    let run = judges p c.requires.0.standing.readable _ c.below-protected.ensures _ in
    let is_limit = same_true the_type (record {}) _ _ (sym c.eq.ensures ∙ c.if-eq.true) in
    judged_limit p (judged_run p) (ap end_given (sym run) ∙ c.in-Err.ensures.ended.refused _ refl) is_limit

pub returns-in-Err-2-clause-judged : goal.returns-in-Err-2-clause-judged
returns-in-Err-2-clause-judged c =
    let p : Problem = problem_of c.args.input.now.bytes.now in
    let run = judges p c.requires.0.standing.readable _ c.below-protected.ensures _ in
    let not_limit = same_false the_type _ _ (sym c.eq.ensures ∙ c.if-eq.false) in
    rw c.refuse.ensures (judged_refused p (judged_run p) (ap end_given (sym run) ∙ c.in-Err.ensures.ended.refused _ refl) not_limit)
