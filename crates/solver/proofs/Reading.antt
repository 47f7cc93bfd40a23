-- What the reader tells, as the solver's and the judge's own definitions have it: a refusal is given back as it is, and a problem is run.
use Prim.Native.Nat.{ℕ}
use mathlib.Core.Path.{◌≡◌, sym, ◌∙◌, ap}
use mathlib.Core.List.{List}
use Rattle.std.specs.Prelude as std
use Rattle.numbers.specs.declared.Refusal.{Refusal}
use Rattle.numbers.specs.Numbers.{result_of, judgement_given}
use Rattle.problem.specs.Reader.{Reading}
use Rattle.problem.specs.Held.{problem_of}
use Rattle.reader.specs.Tables.{ReaderTables}
use Rattle.reader.specs.Told.{ReadAs}
use Rattle.problem.specs.declared.Counts.{Counts}
use Rattle.reader.proofs.Given.{is_read, is_refused}
use Rattle.run.specs.Run.{run_of}
use Rattle.run.specs.Answer.{verdict_of, verdict_read, Result, given, solve, judged_run, Judgement, judgement_of, judgement_read, judge}

module _ {s : List ℕ} {before after : ReaderTables} {r : std.Result Counts Refusal} (h : ReadAs s before r after) where
  -- ---- the solver

  pub solve_refused : {f : Refusal} (output : List ℕ) → r ≡ std.Err f → result_of (std.Err f) output ≡ solve s output
  unfolding solve verdict_read given
  solve_refused output e = sym (ap (λ (x : Reading). given (verdict_read x) output) (is_refused h e))

  pub solve_read : (output : List ℕ) {c : Counts} {x : Result} → r ≡ std.Ok c → x ≡ given (verdict_of (problem_of s) (run_of (problem_of s))) output
      → x ≡ solve s output
  unfolding solve verdict_read
  solve_read output e q = q ∙ sym (ap (λ (x : Reading). given (verdict_read x) output) (is_read h e))

  -- ---- the judge

  pub judge_refused : {f : Refusal} → r ≡ std.Err f → judgement_given (std.Err f) ≡ judge s
  unfolding judge judgement_read
  judge_refused e = sym (ap judgement_read (is_refused h e))

  pub judge_read : {c : Counts} {x : Judgement} → r ≡ std.Ok c → x ≡ judgement_of (problem_of s) (judged_run (problem_of s)) → x ≡ judge s
  unfolding judge judgement_read
  judge_read e q = q ∙ sym (ap judgement_read (is_read h e))
