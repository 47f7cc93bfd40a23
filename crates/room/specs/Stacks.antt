-- The stacks that a run goes through, in the run's own words. Definitions alone.
use Rattle.std.specs.Prelude.{ℕ, zero, suc, ◌≡◌, List, [], ◌∷◌, ◌++◌}
use Rattle.run.specs.Meaning.{Side, Binding}
use Rattle.run.specs.Run.{Equation, Demand, Ground, Subject, Step, refuses, goes_on, step, pending, bindings, demands}

-- What waits after a step of equation number n above the equations es; nothing does after a refusal.
abbrev pub onwards : (List Equation → List Binding → List (List Equation)) → ℕ → List Equation → List Binding → Step → List (List Equation)
onwards onward n es bs (refuses r) = []
onwards onward n es bs (goes_on qs b d) = onward (pending n qs ++ es) (bs ++ bindings n b)

-- Every stack of a run of at most k steps, from its first on: "Equations wait in a stack", "Take the top, if fewer than L steps have been taken".
unfoldable pub stacks : Ground → ℕ → List Equation → List Binding → List (List Equation)
stacks g zero es bs = es ∷ []
stacks g (suc k) [] bs = [] ∷ []
stacks g (suc k) (e ∷ es) bs = (e ∷ es) ∷ onwards (λ es' bs'. stacks g k es' bs') e.number es bs (step g bs e.left e.right)

-- What a run from the equations es₀, the bindings bs₀ and the demands ds₀ comes to, whatever its limit: the equations that wait, the bindings made and
-- the demands raised.
pub data Reaches (g : Ground) (es₀ : List Equation) (bs₀ : List Binding) (ds₀ : List Demand) : List Equation → List Binding → List Demand → Type 0 where
  at_start : Reaches g es₀ bs₀ ds₀ es₀ bs₀ ds₀
  after_step : {e : Equation} {es : List Equation} {bs : List Binding} {ds : List Demand} {qs : List (Side × Side)} {b : List (ℕ × Side)}
      {d : List (ℕ × Subject)}
      → Reaches g es₀ bs₀ ds₀ (e ∷ es) bs ds → step g bs e.left e.right ≡ goes_on qs b d
      → Reaches g es₀ bs₀ ds₀ (pending e.number qs ++ es) (bs ++ bindings e.number b) (ds ++ demands e.number d)
