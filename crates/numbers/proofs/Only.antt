-- No second answer fits: what the solver and the judge give back, with the output's final content, is one for every input.
use Rattle.std.specs.Prelude.{ℕ, zero, suc, List, [], ◌∷◌, get_or}
use Rattle.std.specs.Prelude as std
use mathlib.Core.Path.{◌≡◌, refl, sym, ap, ◌∙◌}
use Rattle.numbers.specs.declared.Reason.{Reason}
use Rattle.numbers.specs.declared.Reason.TheVariants as reason
use Rattle.numbers.specs.declared.Refusal.{Refusal}
use Rattle.numbers.specs.declared.Given.{Given}
use Rattle.numbers.specs.Numbers.{Result, Judgement, number_of, solver_gives, judge_gives, result_of, judgement_given}

-- The table's rows in its order: that of the number 1 comes first.
abbrev reasons : List Reason
reasons = reason.TooLong ∷ reason.NoHead ∷ reason.Cut ∷ reason.UnknownTag ∷ reason.WrongLength ∷ reason.TooMany
    ∷ reason.NotThere ∷ reason.Limit ∷ reason.Clash ∷ reason.Inside ∷ reason.Protected ∷ reason.NotFresh
    ∷ reason.TooShort ∷ reason.DoesNotHold ∷ []

-- What a number and a place stand for, where 0 stands for a value.
abbrev back : {A : Type 0} → A → ℕ → ℕ → std.Result A Refusal
back value zero o = std.Ok value
back value (suc k) o = std.Err (record { reason = get_or reasons k reason.DoesNotHold; place = o })

-- No two rows have one number, and none has 0.
again : {A : Type 0} → (value : A) (r : Reason) (o : ℕ) → back value (number_of r) o ≡ std.Err (record { reason = r; place = o })
again value reason.TooLong o = refl
again value reason.NoHead o = refl
again value reason.Cut o = refl
again value reason.UnknownTag o = refl
again value reason.WrongLength o = refl
again value reason.TooMany o = refl
again value reason.NotThere o = refl
again value reason.Limit o = refl
again value reason.Clash o = refl
again value reason.Inside o = refl
again value reason.Protected o = refl
again value reason.NotFresh o = refl
again value reason.TooShort o = refl
again value reason.DoesNotHold o = refl

solver_kept : (r : std.Result ℕ Refusal) → back (solver_gives r).place (solver_gives r).number (solver_gives r).place ≡ r
solver_kept (std.Ok n) = refl
solver_kept (std.Err r) = again r.place r.reason r.place

judge_kept : (r : std.Result Unit Refusal) → back tt (judge_gives r).number (judge_gives r).place ≡ r
judge_kept (std.Ok u) = refl
judge_kept (std.Err r) = again tt r.reason r.place

pub one_result : (r u : std.Result ℕ Refusal) (d e : List ℕ) → result_of r d ≡ result_of u e → (r ≡ u) × (d ≡ e)
one_result r u d e q =
    (sym (solver_kept r) ∙ ap (λ (x : Result). back x.place x.number x.place) q ∙ solver_kept u, ap (λ (x : Result). x.output) q)

pub one_judgement : (r u : std.Result Unit Refusal) → judgement_given r ≡ judgement_given u → r ≡ u
one_judgement r u q = sym (judge_kept r) ∙ ap (λ (x : ℕ × ℕ). back tt x.0 x.1) q ∙ judge_kept u

-- The same of a number and a place.
pub one_given : (r u : Given) (d e : List ℕ)
    → ◌≡◌ {A = Result} (record { number = r.number; place = r.place; output = d }) (record { number = u.number; place = u.place; output = e })
    → (r ≡ u) × (d ≡ e)
one_given r u d e q =
    (ap {B = Given} (λ (x : Result). record { number = x.number; place = x.place }) q, ap (λ (x : Result). x.output) q)

-- Without the output.
pub one_given_judgement : (r u : Given) → ◌≡◌ {A = Judgement} (r.number, r.place) (u.number, u.place) → r ≡ u
one_given_judgement r u q = ap {B = Given} (λ (x : Judgement). record { number = x.0; place = x.1 }) q
