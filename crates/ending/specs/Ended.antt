-- After the last equation: how bindings and demands stand in the tables, what resolving tells, and what the solver and the judge then give back. Nothing here
-- says who made the bindings or raised the demands. Definitions alone; their laws are in proofs/.
use Rattle.std.specs.Prelude.{ℕ, ◌-◌, ◌<◌, ◌≡◌, Bool, true, false, not, ◌&&◌, List, ◌++◌, get_or, Result}
use Rattle.std.proofs.Math.Option.{none, some}
use Rattle.sets.specs.Bits.{member}
use Rattle.problem.specs.Problem.{Problem}
use Rattle.run.specs.Meaning.{Binding, meaning, Fact}
use Rattle.run.specs.Run.{Demand, End, finished}
use Rattle.run.specs.Answer.{Asked, asked_fresh, asked_raised, resolved_all, has_fact, verdict_of, given}
use Rattle.run.specs.Answer as run
use Rattle.bindings.specs.Bindings.{Bindings, bindings_of, Keeps}
use Rattle.visit.specs.Pairs.{Pair}
use Rattle.fresh.specs.Resolved.{Asks}
use Rattle.fresh.specs.Meaning.{Meaningful}
use Rattle.fresh.specs.Marks.{Demanded, atom_of}
use Rattle.numbers.specs.declared.Refusal.{Refusal}
use Rattle.numbers.specs.Numbers.{result_of, judgement_given}

-- Only atoms that are there are demanded.
abbrev pub Small : Problem → List (List ℕ) → Type 0
Small p asked = (w : Pair) → Demanded p asked w → atom_of w < p.atoms

-- The tables have bindings that have a meaning, in the order made. Which variables were protected makes no difference.
pub record MeaningIn (p : Problem) (t : Bindings) (count bound : ℕ) : Type 0 where
  pub keeps : Keeps t.made count bound
  pub protected : ℕ → Bool
  pub meaning : Meaningful (record { atoms = p.atoms; nodes = p.nodes; protected = protected }) p.variables (bindings_of p.atoms t count)

-- What resolving the demands under the bindings tells: whether they fail, and else the facts, read off the sets of the unbound variables.
pub record Outcome (p : Problem) (bs : List Binding) (asked : List Asked) (bound : ℕ) (variables : List ℕ) (fails : Bool) : Type 0 where
  pub not_fresh : fails ≡ true → resolved_all (meaning p.nodes bs) asked ≡ none
  pub facts : fails ≡ false → (fs : List Fact) × (resolved_all (meaning p.nodes bs) asked ≡ some fs)
      × ((a X : ℕ) → X < p.variables → has_fact (a, X) fs ≡ (not (member bound X) && member (get_or variables X 0) a))
      × ((a X : ℕ) → has_fact (a, X) fs ≡ true → X < p.variables)

-- "the demands of tags 21 .. are resolved under the bindings", with whatever demands the table asks for; the sets of the variables are left.
abbrev pub Resolves : Problem → Bindings → ℕ → List (List ℕ) → List ℕ → Bool → Type 0
Resolves p t bound asked variables fails =
    (count : ℕ) → MeaningIn p t count bound → (ds : List Asked) → Asks p.nodes ds (Demanded p asked)
    → Outcome p (bindings_of p.atoms t count) (asked_fresh p.nodes p.freshness ++ ds) bound variables fails

-- No equation is left after so many steps: the bindings have a meaning, and the table asks for the demands raised.
pub record Ended (p : Problem) (t : Bindings) (count bound : ℕ) (asked : List (List ℕ)) (steps : ℕ) : Type 0 where
  pub meant : MeaningIn p t count bound
  pub demands : List Demand
  pub asks : Asks p.nodes (asked_raised p.nodes demands) (Demanded p asked)
  pub small : Small p asked
  pub left : ℕ
  pub counted : p.limit - left ≡ steps

-- The definition's end that the tables have.
abbrev pub end_in : {p : Problem} {t : Bindings} {count bound : ℕ} {asked : List (List ℕ)} {steps : ℕ} → Ended p t count bound asked steps → End
end_in {p} {t} {count} e = finished e.left (bindings_of p.atoms t count) e.demands

-- What the solver gives back for it, and the judge.
abbrev pub Concludes : Problem → Bindings → ℕ → ℕ → List (List ℕ) → ℕ → Result ℕ Refusal → List ℕ → List ℕ → Type 0
Concludes p t count bound asked steps r before after =
    (e : Ended p t count bound asked steps) → result_of r after ≡ given (verdict_of p (end_in e)) before

-- The judge does not ask for the number of bindings or of steps.
abbrev pub SomeEnded : Problem → Bindings → ℕ → List (List ℕ) → Type 0
SomeEnded p t bound asked = (count : ℕ) × (steps : ℕ) × Ended p t count bound asked steps

abbrev pub Judges : Problem → Bindings → ℕ → List (List ℕ) → Result Unit Refusal → Type 0
Judges p t bound asked r =
    (count steps : ℕ) (e : Ended p t count bound asked steps) → judgement_given r ≡ run.judgement_of p (end_in e)
