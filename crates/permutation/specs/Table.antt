-- Permutations as tables of images, of any length: the image of atom a stands at place a. Definitions alone; their laws are in proofs/.
use Rattle.std.specs.Prelude.{ℕ, zero, suc, ◌<◌, ◌≡◌, Bool, true, false, cond, not, List, [], ◌∷◌, ◌++◌, map, length, get_or, eqb}
use Rattle.permutation.specs.Swaps.{Swaps, swapped, act}

abbrev pub Table : Type 0
Table = List ℕ

-- The image of an atom: itself, where the table has none.
abbrev pub image : Table → ℕ → ℕ
image P a = get_or P a a

-- i, i + 1, .. , n of them; and 0, 1, .. , n - 1.
abbrev pub from : ℕ → ℕ → List ℕ
from i zero = []
from i (suc n) = i ∷ from (suc i) n

abbrev pub upto : ℕ → List ℕ
upto n = from 0 n

-- The table of a function on the first n atoms.
abbrev pub tabulate : ℕ → (ℕ → ℕ) → Table
tabulate n f = map f (upto n)

abbrev pub identity : ℕ → Table
identity n = upto n

-- First Q, then P: for tables of one length.
unfoldable pub after : Table → Table → Table
after P Q = map (image P) Q

-- Where an atom first stands in a table whose first place is i; 0 if nowhere.
abbrev pub place_from : ℕ → ℕ → Table → ℕ
place_from i a [] = 0
place_from i a (b ∷ P) = cond (eqb a b) i (place_from (suc i) a P)

abbrev pub place : ℕ → Table → ℕ
place a P = place_from 0 a P

unfoldable pub inverted : Table → Table
inverted P = tabulate (length P) (λ a. place a P)

-- The table of a list of swaps.
unfoldable pub of_swaps : ℕ → Swaps → Table
of_swaps n π = tabulate n (act π)

-- First P, then the swap of a and b.
unfoldable pub swapped_after : ℕ → ℕ → Table → Table
swapped_after a b P = map (swapped a b) P

-- The atoms that two tables send to different atoms, from the lowest up.
abbrev pub kept : (ℕ → Bool) → List ℕ → List ℕ
kept f [] = []
kept f (a ∷ l) = cond (f a) (a ∷ kept f l) (kept f l)

unfoldable pub disagreement : Table → Table → List ℕ
disagreement P Q = kept (λ a. not (eqb (image P a) (image Q a))) (upto (length P))

-- What makes a table a permutation of its places: it stays among them and sends no two of them to one.
pub record Permutes (P : Table) : Type 0 where
  pub inside : (a : ℕ) → a < length P → image P a < length P
  pub distinct : (a b : ℕ) → a < length P → b < length P → image P a ≡ image P b → a ≡ b

-- The swaps of a table that is a permutation, by its cycles (document 02, E2): from the lowest atom up, each cycle (p q r ..) as the swaps
-- (p q)(q r).., nothing for fixed atoms. From p the cycle is unwound: with q the image of p, P is (p q) after a table that fixes p and
-- in which the cycle goes on from q. What is left in the end is the identity.
pub record Unwound : Type 0 where
  pub swaps : Swaps
  pub left : Table

abbrev pub before : ℕ → ℕ → Unwound → Unwound
before p q u = record { swaps = (p, q) ∷ u.swaps; left = u.left }

-- The cycle from p on, in at most k swaps.
abbrev pub unwind : ℕ → Table → ℕ → Unwound
unwind zero P p = record { swaps = []; left = P }
unwind (suc k) P p =
    elim (eqb (image P p) p) [
      | true ↦ record { swaps = []; left = P }
      | false ↦ before p (image P p) (unwind k (swapped_after p (image P p) P) (image P p))
    ]

abbrev pub cycles : List ℕ → Table → Swaps
cycles [] P = []
cycles (p ∷ l) P = let u : Unwound = unwind (length P) P p in u.swaps ++ cycles l u.left

unfoldable pub swaps_of : Table → Swaps
swaps_of P = cycles (upto (length P)) P
