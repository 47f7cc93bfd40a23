-- The user's three demands in his words, said of the number and the place that what the code gives back stands for, with the output's final content.
-- Definitions alone; that the entries keep them is in proofs/.
use Rattle.std.specs.Prelude.{ℕ, ◌≤◌, ◌≡◌, ◌≢◌, ◌↔◌, List, length, drop}
use Rattle.problem.specs.Problem.{Problem}
use Rattle.problem.specs.Reader.{read, unreadable, reading, base_tags}
use Rattle.run.specs.Run.{run_of}
use Rattle.run.specs.Answer.{verdict_of, given}
use Rattle.solutions.specs.Promises.{Derives, Agree, Accepts, Refuses}
use Rattle.figure3.specs.Account.{Account}
use Rattle.numbers.specs.declared.Given.{Given}
use Rattle.numbers.specs.Numbers.{Result, Judgement, NoSolution}

-- What the solver gives back, with the output's final content; and the judge.
abbrev pub given_back : Given → List ℕ → Result
given_back r after = record { number = r.number; place = r.place; output = after }

abbrev pub judged_back : Given → Judgement
judged_back j = (j.number, j.place)

-- ---- 1

-- "Bad input is refused by number and place, in a fixed order. A refusal writes nothing." And an acceptance writes nothing but the answer.
pub record First (input output : List ℕ) (r : Given) (after : List ℕ) : Type 0 where
  pub bad_input : (n o : ℕ) → reading base_tags input ≡ unreadable n o → (r.number ≡ n) × (r.place ≡ o)
  pub nothing_written : r.number ≢ 0 → after ≡ output
  pub only_the_answer : r.number ≡ 0
      → (r.place ≤ length output) × (length after ≡ length output) × (drop r.place after ≡ drop r.place output)

pub record FirstJudged (input : List ℕ) (j : Given) : Type 0 where
  pub bad_input : (n o : ℕ) → reading base_tags input ≡ unreadable n o → judged_back j ≡ (n, o)

-- ---- 2

-- "Unless the step limit is hit, the judge says yes exactly when the freshness and equality rules of Urban, Pitts and Gabbay (2004) derive every line
-- put to it."
pub record SecondJudged (input : List ℕ) (j : Given) : Type 0 where
  pub exactly : (p : Problem) → reading base_tags input ≡ read p → j.number ≢ 8 → (j.number ≡ 0) ↔ Derives p
  pub only_what_is_read : j.number ≡ 0 → (p : Problem) × (reading base_tags input ≡ read p) × Derives p

-- "The solver's answer, its step count and its refusals are those of the one run of their transformations that document 01 fixes": the definition's, of
-- which figure 3 has an account. "and each accepted answer solves its problem": with demand 3, in `Accepts`.
pub record Second (input output : List ℕ) (r : Given) (after : List ℕ) : Type 0 where
  pub the_run : (p : Problem) → reading base_tags input ≡ read p → given_back r after ≡ given (verdict_of p (run_of p)) output
  pub of_figure3 : (p : Problem) → reading base_tags input ≡ read p → Account p (verdict_of p (run_of p))

-- ---- 3

-- "If it is accepted, the allowed solutions are exactly the allowed instances of the answer; if it is refused, no allowed solution exists, of any size,
-- with any names."
pub record Third (input output : List ℕ) (r : Given) (after : List ℕ) : Type 0 where
  pub accepted : r.number ≡ 0 → Accepts input output (given_back r after)
  pub refused : NoSolution r.number → Refuses input

-- "So the same demands in another order, or with some listed twice, are accepted or refused alike, and two answers to them are equally general, as long
-- as the second list is readable too, has room, and doesn't reach its limit."
pub record ThirdTwice (p q : Problem) (r u : Given) : Type 0 where
  pub alike : r.number ≢ 8 → u.number ≢ 8 → r.number ≢ 13 → u.number ≢ 13 → (r.number ≡ 0) ↔ (u.number ≡ 0)
  pub equally_general : Agree p q (verdict_of p (run_of p)) (verdict_of q (run_of q))
