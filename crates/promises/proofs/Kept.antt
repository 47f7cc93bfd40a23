-- The three demands are kept by whatever meets the contracts of the solver's and the judge's entries: each theorem takes the contract, as it stands in
-- the code, and gives the demand.
use Prim.Native.Nat.{ℕ, ◌≤◌}
use native.Mathlib.Omega.{arith}
use mathlib.Core.Path.{◌≡◌, refl, sym, ◌∙◌, ap, subst}
use mathlib.Core.Logic.{◌≢◌, ◌↔◌, inl}
use mathlib.Core.Bool.{Bool, true, false}
use mathlib.Core.List.{List, [], ◌∷◌, ◌++◌}
use lib.ListN.{length, drop, length-append, length-drop}
use lib.Dec.{leb}
use borrow.Author.Tests.{leb-true}
use Rattle.field.specs.Field.{Bytes}
use Rattle.problem.specs.Problem.{Problem}
use Rattle.problem.specs.Reader.{Reading, read, unreadable, reading, base_tags}
use Rattle.problem.proofs.Readable.{readable}
use Rattle.problem.proofs.Numbers.{OneToSeven, reading_number}
use Rattle.run.specs.Run.{run_of}
use Rattle.run.specs.Answer.{Verdict, accepted, refusal, answer_bytes, verdict_of, verdict_read, Result, written, given, solve, judgement_read, judge}
use Rattle.run.proofs.Written.{written_fits}
use Rattle.solutions.specs.Promises.{SameDemands, Agree}
use Rattle.solutions.proofs.Corollaries.{ProperVerdict, proper, agree, Tells, solve_tells}
use Rattle.solutions.proofs.Judge.{judge_exactly, judge_holds}
use Rattle.figure3.proofs.Account.{verdict_is_figure3}
use Rattle.std.specs.Prelude as std
use Rattle.numbers.specs.declared.Given.{Given}
use Rattle.numbers.specs.declared.Refusal.{Refusal}
use Rattle.numbers.specs.Numbers.{solver_gives, judge_gives, result_of, judgement_given}
use Rattle.promises.specs.Demands.{given_back, judged_back, First, FirstJudged, Second, SecondJudged, Third, ThirdTwice}

-- ---- what the definition leaves in the output

-- A result's number says whether the output was written to.
abbrev Leaves : List ℕ → Result → Type 0
Leaves output x =
    (x.number ≢ 0 → x.output ≡ output)
    × (x.number ≡ 0 → (x.place ≤ length output) × (length x.output ≡ length output) × (drop x.place x.output ≡ drop x.place output))

drop_written : (a d : List ℕ) → drop (length a) (a ++ d) ≡ d
drop_written [] d = refl
drop_written (x ∷ a) d = drop_written a d

written_leaves : (answer output : List ℕ) (b : Bool) → leb (length answer) (length output) ≡ b → Leaves output (written answer output)
unfolding written
written_leaves answer output true e =
    rw e (
      λ n. absurd (n refl),
      λ z. (
        leb-true (length answer) (length output) e,
        rw (length-append, length-drop) (let l = leb-true (length answer) (length output) e in omega arith),
        drop_written answer (drop (length answer) output),
      ),
    )
written_leaves answer output false e = rw e (λ n. refl, λ z. absurd (let k : ◌≡◌ {A = ℕ} 0 13 = sym z in omega arith))

given_leaves : (output : List ℕ) (v : Verdict) → ((n o : ℕ) → v ≡ refusal n o → n ≢ 0) → Leaves output (given v output)
unfolding given
given_leaves output (accepted k bs fs) h = written_leaves (answer_bytes k bs fs) output (leb (length (answer_bytes k bs fs)) (length output)) refl
given_leaves output (refusal n o) h = (λ m. refl, λ z. absurd (h n o refl z))

-- ---- no refusal has the number 0

refused_read : (p : Problem) (v : Verdict) → ProperVerdict p v → (n o : ℕ) → v ≡ refusal n o → n ≢ 0
refused_read p v h n o e z = let (x, y) = subst (ProperVerdict p) e h in omega arith

refused_any : (input : List ℕ) → Bytes input → (x : Reading) → reading base_tags input ≡ x → OneToSeven x → (n o : ℕ) → verdict_read x ≡ refusal n o → n ≢ 0
unfolding verdict_read
refused_any input b (read p) e k n o f z = refused_read p (verdict_of p (run_of p)) (proper p (readable base_tags input p b e)) n o f z
refused_any input b (unreadable m q) e k n o f z = let g : m ≡ n = cc in let (x, y) = k in omega arith

module _ (input output after : List ℕ) (r : Given) (b : Bytes input) (contract : given_back r after ≡ solve input output) where
  leaves : Leaves output (given_back r after)
  unfolding solve
  leaves =
      subst (Leaves output) (sym contract)
      (given_leaves output (verdict_read (reading base_tags input)) (refused_any input b (reading base_tags input) refl (reading_number base_tags input)))

  refused_so : (n o : ℕ) → reading base_tags input ≡ unreadable n o → given_back r after ≡ record { number = n; place = o; output = output }
  unfolding solve verdict_read given
  refused_so n o e = contract ∙ rw e refl

  pub first : First input output r after
  first = record {
    bad_input = λ n o e. let q = refused_so n o e in (ap (λ (x : Result). x.number) q, ap (λ (x : Result). x.place) q);
    nothing_written = leaves.0;
    only_the_answer = leaves.1;
  }

  pub second : Second input output r after
  unfolding solve verdict_read
  second = record { the_run = λ p e. contract ∙ rw e refl; of_figure3 = λ p e. verdict_is_figure3 p (readable base_tags input p b e) }

  tells : Tells input output (given_back r after)
  tells = subst (Tells input output) (sym contract) (solve_tells input output b)

  pub third : Third input output r after
  third = record { accepted = λ e. tells.0 (inl e); refused = tells.1 }

module _ (input : List ℕ) (j : Given) (b : Bytes input) (contract : judged_back j ≡ judge input) where
  pub first_judged : FirstJudged input j
  unfolding judge judgement_read
  first_judged = record { bad_input = λ n o e. contract ∙ rw e refl }

  pub second_judged : SecondJudged input j
  second_judged =
      let number : j.number ≡ (judge input).0 = ap (λ (x : ℕ × ℕ). x.0) contract in
      record { exactly = λ p e. rw number (judge_exactly input b p e); only_what_is_read = rw number (judge_holds input b) }

-- ---- the same demands twice

abbrev Zero : Verdict → List ℕ → Type 0
Zero v output = (given v output).number ≡ 0

module _ (p q : Problem) (d e : List ℕ) where
  both : (v w : Verdict) → Agree p q v w → ProperVerdict p v → ProperVerdict q w
      → (given v d).number ≢ 8 → (given w e).number ≢ 8 → (given v d).number ≢ 13 → (given w e).number ≢ 13 → Zero v d ↔ Zero w e
  unfolding given
  both (accepted k bs fs) (accepted l cs gs) a x y m n s t =
      (λ z. written_fits (answer_bytes l cs gs) e t, λ z. written_fits (answer_bytes k bs fs) d s)
  both (accepted k bs fs) (refusal i o) a x y m n s t = absurd (n a)
  both (refusal i o) (accepted l cs gs) a x y m n s t = absurd (m a)
  both (refusal i o) (refusal j u) a x y m n s t = (λ z. absurd (let (f, g) = x in omega arith), λ z. absurd (let (f, g) = y in omega arith))

module _ (s t d e after later : List ℕ) (r u : Given) (p q : Problem) (b : Bytes s) (c : Bytes t) (reads : reading base_tags s ≡ read p)
    (too : reading base_tags t ≡ read q)
    (contract : given_back r after ≡ solve s d) (other : given_back u later ≡ solve t e) (same : SameDemands p q) where
  pub third_twice : ThirdTwice p q r u
  third_twice =
      let x = readable base_tags s p b reads in
      let y = readable base_tags t q c too in
      let k : r.number ≡ (given (verdict_of p (run_of p)) d).number = ap (λ (z : Result). z.number) ((second s d after r b contract).the_run p reads) in
      let l : u.number ≡ (given (verdict_of q (run_of q)) e).number = ap (λ (z : Result). z.number) ((second t e later u c other).the_run q too) in
      record {
        alike = rw (k, l) (both p q d e (verdict_of p (run_of p)) (verdict_of q (run_of q)) (agree p q same x y) (proper p x) (proper q y));
        equally_general = agree p q same x y;
      }

-- ---- the contracts of the entries as they stand in the code, which are of a Result

pub solver_keeps : (input output after : List ℕ) (r : std.Result ℕ Refusal) → Bytes input → result_of r after ≡ solve input output
    → First input output (solver_gives r) after × Second input output (solver_gives r) after × Third input output (solver_gives r) after
solver_keeps input output after r b contract =
    let g = solver_gives r in
    (first input output after g b contract, second input output after g b contract, third input output after g b contract)

pub judge_keeps : (input : List ℕ) (j : std.Result Unit Refusal) → Bytes input → judgement_given j ≡ judge input
    → FirstJudged input (judge_gives j) × SecondJudged input (judge_gives j)
judge_keeps input j b contract = (first_judged input (judge_gives j) b contract, second_judged input (judge_gives j) b contract)

-- Of two calls of the solver.
pub solver_keeps_twice : (s t d e after later : List ℕ) (r u : std.Result ℕ Refusal) (p q : Problem) → Bytes s → Bytes t → reading base_tags s ≡ read p
    → reading base_tags t ≡ read q → result_of r after ≡ solve s d → result_of u later ≡ solve t e → SameDemands p q
    → ThirdTwice p q (solver_gives r) (solver_gives u)
solver_keeps_twice s t d e after later r u p q b c reads too contract other same =
    third_twice s t d e after later (solver_gives r) (solver_gives u) p q b c reads too contract other same
