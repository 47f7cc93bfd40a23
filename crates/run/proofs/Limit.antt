-- The step limit: a larger one changes nothing but the number of steps left, once the run does not end by it.
use Prim.Native.Nat.{ℕ, zero, suc, ◌+◌, ◌-◌, ◌≤◌}
use native.Mathlib.Nat.{zero-add, suc-add}
use native.Mathlib.Omega.{arith}
use mathlib.Core.Path.{◌≡◌, refl}
use mathlib.Core.List.{List, [], ◌∷◌, ◌++◌}
use Rattle.run.specs.Meaning.{Binding}
use Rattle.run.specs.Run.{Equation, Demand, Ground, Step, refuses, goes_on, step, pending, bindings, demands, End, limit, refused, finished, next, run}

-- The run did not end by the limit.
abbrev pub Ends : End → Type 0
Ends (limit n) = ⊥
Ends (refused r n) = Unit {0}
Ends (finished k bs ds) = Unit {0}

-- The same end, with j more steps left.
abbrev pub longer : ℕ → End → End
longer j (limit n) = limit n
longer j (refused r n) = refused r n
longer j (finished k bs ds) = finished (k + j) bs ds

longer_ends : (j : ℕ) (f : End) → Ends f → Ends (longer j f)
longer_ends j (limit n) h = h
longer_ends j (refused r n) h = tt
longer_ends j (finished k bs ds) h = tt

abbrev Onward : Type 0
Onward = List Equation → List Binding → List Demand → End

next_longer : (j n : ℕ) (es : List Equation) (bs : List Binding) (ds : List Demand) (short long : Onward)
    → ((es' : List Equation) (bs' : List Binding) (ds' : List Demand) → Ends (short es' bs' ds') → long es' bs' ds' ≡ longer j (short es' bs' ds'))
    → (s : Step) → Ends (next short n es bs ds s) → next long n es bs ds s ≡ longer j (next short n es bs ds s)
next_longer j n es bs ds short long same (refuses r) h = refl
next_longer j n es bs ds short long same (goes_on qs b d) h = same (pending n qs ++ es) (bs ++ bindings n b) (ds ++ demands n d) h

module _ (g : Ground) (j : ℕ) where
  pub run_longer : (k : ℕ) (es : List Equation) (bs : List Binding) (ds : List Demand) → Ends (run g k es bs ds)
      → run g (k + j) es bs ds ≡ longer j (run g k es bs ds)
  unfolding run
  run_longer zero [] bs ds h = rw zero-add (none j)
    where
      none : (j : ℕ) → run g j [] bs ds ≡ finished j bs ds
      none zero = refl
      none (suc i) = refl
  run_longer zero (e ∷ es) bs ds h = absurd h
  run_longer (suc k) [] bs ds h = rw suc-add
  run_longer (suc k) (e ∷ es) bs ds h =
      rw suc-add
      (next_longer j e.number es bs ds (λ es' bs' ds'. run g k es' bs' ds') (λ es' bs' ds'. run g (k + j) es' bs' ds')
      (λ es' bs' ds'. run_longer k es' bs' ds') (step g bs e.left e.right) h)

-- A number of steps that is enough stays enough when there are more.
pub run_ends : (g : Ground) (k m : ℕ) (es : List Equation) (bs : List Binding) (ds : List Demand) → k ≤ m → Ends (run g k es bs ds) → Ends (run g m es bs ds)
run_ends g k m es bs ds l h =
    let e : k + (m - k) ≡ m = omega arith in
    let n : Ends (run g (k + (m - k)) es bs ds) = rw (run_longer g (m - k) k es bs ds h) (longer_ends (m - k) (run g k es bs ds) h) in
    rw e at n
