-- From what the solver and the judge give back to the one word that C gets: what each export cites.
use Rattle.std.proofs.Common.{ℕ, ◌≤◌, ◌≡◌, Result, sym, subst, List}
use Rattle.field.specs.Field.{Bytes}
use Rattle.run.specs.Answer as run
use Rattle.numbers.specs.declared.Given.{Given}
use Rattle.numbers.specs.declared.Refusal.{Refusal}
use Rattle.numbers.specs.Numbers as numbers
use Rattle.numbers.specs.Numbers.{Judgement, solver_gives, judge_gives, result_of, judgement_given}
use Rattle.cheesetrestle.proofs.Places.{solver_place, judge_place}

pub solved_fits :
    (input output after : List ℕ) (r : Result ℕ Refusal) (g : Given) → result_of r after ≡ run.solve input output → g ≡ solver_gives r → Bytes input →
    g.place ≤ 65535
solved_fits input output after r g h e b =
    subst (λ (x : Given). x.place ≤ 65535) (sym e) (subst (λ (x : numbers.Result). x.place ≤ 65535) (sym h) (solver_place input output b))

pub judged_fits :
    (input : List ℕ) (r : Result Unit Refusal) (g : Given) → judgement_given r ≡ run.judge input → g ≡ judge_gives r → Bytes input → g.place ≤ 65535
judged_fits input r g h e b =
    subst (λ (x : Given). x.place ≤ 65535) (sym e) (subst (λ (x : Judgement). x.1 ≤ 65535) (sym h) (judge_place input b))
