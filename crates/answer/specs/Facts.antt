-- The facts of an answer, read off the sets of atoms that are demanded of each variable when all demands are resolved. Definitions alone; their laws
-- are in proofs/.
use Rattle.std.specs.Prelude.{ℕ, zero, suc, ◌<◌, ◌≡◌, cond, not, ◌&&◌, List, [], ◌++◌, map, get_or}
use Rattle.sets.specs.Bits.{member, intersection, all_below, members}
use Rattle.run.specs.Meaning.{Fact}
use Rattle.run.specs.Answer.{has_fact, fact_bytes}

-- "The rest are the facts of the answer: pairs of atom and unbound variable": the atoms of the variable X, as a set. Only the A atoms in use count.
unfoldable pub fact_set : ℕ → ℕ → List ℕ → ℕ → ℕ
fact_set A bound asked X = cond (member bound X) 0 (intersection (all_below 32 A) (get_or asked X 0))

-- "by variable, then atom, each once": of n variables from X on.
unfoldable pub facts_from : ℕ → ℕ → List ℕ → ℕ → ℕ → List Fact
facts_from A bound asked X zero = []
facts_from A bound asked X (suc n) = map (λ a. (a, X)) (members 32 (fact_set A bound asked X)) ++ facts_from A bound asked (suc X) n

unfoldable pub facts_in : ℕ → ℕ → ℕ → List ℕ → List Fact
facts_in A variables bound asked = facts_from A bound asked 0 variables

-- The bytes of the facts of one variable, whose atoms are a set.
abbrev pub fact_bytes_of : ℕ → ℕ → List ℕ
fact_bytes_of X atoms = fact_bytes (map (λ (a : ℕ). (a, X)) (members 32 atoms))

-- The sets say the facts that are given: an atom of an unbound variable is demanded exactly if it is among them.
abbrev pub Says : ℕ → ℕ → ℕ → List ℕ → List Fact → Type 0
Says A variables bound asked given = (a X : ℕ) → a < A → X < variables → has_fact (a, X) given ≡ (not (member bound X) && member (get_or asked X 0) a)
