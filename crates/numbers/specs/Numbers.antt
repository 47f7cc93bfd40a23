-- Document 01, "Numbers given back": what the solver and the judge give back, and the code's form of it. Definitions alone.
use Rattle.std.specs.Prelude.{ℕ, ◌+◌, ◌*◌, ◌≤◌, List}
use Rattle.std.specs.Prelude as std
use Rattle.numbers.specs.declared.Reason.{Reason}
use Rattle.numbers.specs.declared.Reason.TheVariants as reason
use Rattle.numbers.specs.declared.Refusal.{Refusal}
use Rattle.numbers.specs.declared.Given.{Given}

-- The solver: "no." and "place", and what the lent output holds in the end.
pub record Result : Type 0 where
  pub number : ℕ
  pub place : ℕ
  pub output : List ℕ

-- The judge, which writes nothing: number and place.
abbrev pub Judgement : Type 0
Judgement = ℕ × ℕ

-- Those of the table's numbers that say that no allowed solution exists.
abbrev pub NoSolution : ℕ → Type 0
NoSolution n = (9 ≤ n) × (n ≤ 12)

-- The table's rows and their numbers.
abbrev pub number_of : Reason → ℕ
number_of reason.TooLong = 1
number_of reason.NoHead = 2
number_of reason.Cut = 3
number_of reason.UnknownTag = 4
number_of reason.WrongLength = 5
number_of reason.TooMany = 6
number_of reason.NotThere = 7
number_of reason.Limit = 8
number_of reason.Clash = 9
number_of reason.Inside = 10
number_of reason.Protected = 11
number_of reason.NotFresh = 12
number_of reason.TooShort = 13
number_of reason.DoesNotHold = 14

-- A refusal's number and place.
abbrev pub given_of : Refusal → Given
given_of r = record { number = number_of r.reason; place = r.place }

-- "0: accepted (solver), place: the answer's length; holds (judge), place 0"; or what the refusal says.
abbrev pub solver_gives : std.Result ℕ Refusal → Given
solver_gives (std.Ok n) = record { number = 0; place = n }
solver_gives (std.Err r) = given_of r

abbrev pub judge_gives : std.Result Unit Refusal → Given
judge_gives (std.Ok u) = record { number = 0; place = 0 }
judge_gives (std.Err r) = given_of r

-- What is given back in code, with the output's final content; and of the judge.
abbrev pub result_of : std.Result ℕ Refusal → List ℕ → Result
result_of r output = record { number = (solver_gives r).number; place = (solver_gives r).place; output = output }

abbrev pub judgement_given : std.Result Unit Refusal → Judgement
judgement_given r = ((judge_gives r).number, (judge_gives r).place)

-- For C both numbers are one word: the number in its high half, the place in its low half.
abbrev pub packed : ℕ → ℕ → ℕ
packed number place = number * 4294967296 + place
