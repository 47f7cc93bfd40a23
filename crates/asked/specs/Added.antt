-- The demands of the file on top of those that were raised, in the table of sets. Definitions alone; their laws are in proofs/.
use Rattle.std.specs.Prelude.{ℕ, zero, suc, ◌^◌, ◌<◌, ◌≡◌, Bool, false, ◌&&◌, ◌||◌, List, [], ◌∷◌, get_or, set, eqb}
use Rattle.sets.specs.Bits.{member, union, inserted}
use Rattle.problem.specs.Problem.{Fresh}
use Rattle.problem.specs.Held.{assumed_for}
use Rattle.demands.specs.Demands.{asked_of_nodes, asked_of_variables, asked_of_node, asked_of_variable}

-- Tag 21, "freshness: atom, node": one atom more for the node, field by field.
unfoldable pub with_atom : ℕ → ℕ → List ℕ → List ℕ
with_atom n a sets = set sets n (inserted 32 (get_or sets n 0) a)

unfoldable pub freshened : List Fresh → List ℕ → List ℕ
freshened [] sets = sets
freshened (d ∷ ds) sets = freshened ds (with_atom d.node d.atom sets)

-- Whether a field of the list asks that atom a is fresh for node n.
abbrev pub asks_fresh : List Fresh → ℕ → ℕ → Bool
asks_fresh [] a n = false
asks_fresh (d ∷ ds) a n = (eqb d.node n && eqb d.atom a) || asks_fresh ds a n

-- Tag 22, "assumption: atom, variable": of the first n variables the atoms assumed fresh are demanded too.
unfoldable pub joined : ℕ → List ℕ → List ℕ → List ℕ
joined zero more sets = sets
joined (suc n) more sets = set (joined n more sets) n (union (get_or sets n 0) (get_or more n 0))

-- What adding does: the table's whole content, who is in it, and that the other column stays.
pub record FreshnessAdded (ds : List Fresh) (before after : List (List ℕ)) : Type 0 where
  pub content : after ≡ set before 0 (freshened ds (asked_of_nodes before))
  pub marks : (n a : ℕ) → member (asked_of_node after n) a ≡ (asks_fresh ds a n || member (asked_of_node before n) a)
  pub others : asked_of_variables after ≡ asked_of_variables before

pub record AssumptionsAdded (variables : ℕ) (assumed : List ℕ) (before after : List (List ℕ)) : Type 0 where
  pub content : after ≡ set before 1 (joined variables assumed (asked_of_variables before))
  pub marks : (X a : ℕ) → X < variables
      → member (asked_of_variable after X) a ≡ (member (assumed_for assumed X) a || member (asked_of_variable before X) a)
  pub others : asked_of_nodes after ≡ asked_of_nodes before

-- Every set is one of 32 atoms, as in a table of 32-bit words.
abbrev pub Words : List ℕ → Type 0
Words sets = (i : ℕ) → get_or sets i 0 < 2 ^ 32
