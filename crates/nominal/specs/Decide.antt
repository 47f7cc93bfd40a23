-- Figure 2 decided: freshness and equality as functions that compute, from an environment that is given by a test. That they are sound and
-- complete for the two families is proved in proofs/Decide.antt.
use Rattle.std.specs.Prelude.{ℕ, Bool, true, false, cond, not, ◌&&◌, ◌||◌, List, [], ◌∷◌, ◌++◌, T, eqb}
use Rattle.permutation.specs.Swaps.{act, inverse, atoms}
use Rattle.nominal.specs.Tree.{Tree, unit, atom, abstraction, pair, application, suspension, permute}
use Rattle.nominal.specs.Form.{form, name, swaps_at, first, second}
use Rattle.nominal.specs.Figure2.{Environment}
use Rattle.nominal.specs.Solutions.{Facts}

-- Which atom is fresh for which variable, as a test; and the environment that it gives.
abbrev pub Test : Type 0
Test = ℕ → ℕ → Bool

abbrev pub tested : Test → Environment
tested m a X = T (m a X)

-- The test of a finite set of facts.
abbrev pub is_given : Facts → Test
is_given [] a X = false
is_given (f ∷ F) a X = (eqb a f.0 && eqb X f.1) || is_given F a X

abbrev pub pass_all : (ℕ → Bool) → List ℕ → Bool
pass_all p [] = true
pass_all p (a ∷ l) = p a && pass_all p l

abbrev pub is_fresh : Test → ℕ → Tree → Bool
is_fresh m a unit = true
is_fresh m a (atom b) = not (eqb a b)
is_fresh m a (abstraction b t) = eqb a b || is_fresh m a t
is_fresh m a (pair s t) = is_fresh m a s && is_fresh m a t
is_fresh m a (application f t) = is_fresh m a t
is_fresh m a (suspension π X) = m (act (inverse π) a) X

-- By recursion on the left tree; the right one is looked at by form and parts. Only atoms that two lists of swaps name can be in their
-- disagreement set.
abbrev pub is_equal : Test → Tree → Tree → Bool
is_equal m unit u = eqb (form u) 0
is_equal m (atom a) u = eqb (form u) 1 && eqb a (name u)
is_equal m (abstraction a s) u =
    eqb (form u) 2 && cond (eqb a (name u)) (is_equal m s (first u)) (is_fresh m a (first u) && is_equal m s (permute ((a, name u) ∷ []) (first u)))
is_equal m (pair s₁ s₂) u = eqb (form u) 3 && (is_equal m s₁ (first u) && is_equal m s₂ (second u))
is_equal m (application f s) u = eqb (form u) 4 && (eqb f (name u) && is_equal m s (first u))
is_equal m (suspension π X) u =
    eqb (form u) 5 && (eqb X (name u) && pass_all (λ c. eqb (act π c) (act (swaps_at u) c) || m c X) (atoms π ++ atoms (swaps_at u)))
