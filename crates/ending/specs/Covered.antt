-- The judge's last question. Definitions alone; their laws are in proofs/.
use Rattle.std.specs.Prelude.{ℕ, zero, suc, Bool, true, false, ◌||◌, cond, List, get_or, eqb}
use Rattle.sets.specs.Bits.{member, difference}

-- Facts are pairs of atom and unbound variable: whether the variable X has none that isn't assumed.
unfoldable pub covered_at : ℕ → List ℕ → List ℕ → ℕ → Bool
covered_at bound asked assumed X = member bound X || eqb (difference (get_or asked X 0) (get_or assumed X 0)) 0

-- "a resulting fact that isn't assumed": whether there is none, for n variables from X on.
unfoldable pub covered_from : ℕ → List ℕ → List ℕ → ℕ → ℕ → Bool
covered_from bound asked assumed X zero = true
covered_from bound asked assumed X (suc n) = cond (covered_at bound asked assumed X) (covered_from bound asked assumed (suc X) n) false

unfoldable pub covered : ℕ → ℕ → List ℕ → List ℕ → Bool
covered variables bound asked assumed = covered_from bound asked assumed 0 variables
