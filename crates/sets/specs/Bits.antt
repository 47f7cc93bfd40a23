-- Sets of small numbers as the bits of a word, of any width: number i is in the set if bit i is set. Atoms (at most 32) and variables (at most 64)
-- are both kept so. Definitions alone; their laws are in proofs/.
use Rattle.std.specs.Prelude.{ℕ, zero, suc, ◌+◌, ◌-◌, ◌/◌, ◌%◌, ◌^◌, min, Bool, false, cond, ◌||◌, List, [], ◌∷◌, eqb, ltb}
use Rattle.std.specs.Int.Bits.{bit_and, bit_or}
use Rattle.std.specs.Int.Count.{ones, count_trailing_zeros}

-- Bit i of w: 0 or 1.
unfoldable pub bit : ℕ → ℕ → ℕ
bit w i = w / 2 ^ i % 2

unfoldable pub member : ℕ → ℕ → Bool
unfolding bit
member w i = eqb (bit w i) 1

unfoldable pub union : ℕ → ℕ → ℕ
union v w = bit_or v w

unfoldable pub intersection : ℕ → ℕ → ℕ
intersection v w = bit_and v w

-- What is in v and not in w.
unfoldable pub difference : ℕ → ℕ → ℕ
difference v w = v - bit_and v w

-- In a word of k bits there is no room for i where i is k or more: then nothing changes.
unfoldable pub inserted : ℕ → ℕ → ℕ → ℕ
unfolding union
inserted k w i = cond (ltb i k) (union w (2 ^ i)) w

unfoldable pub removed : ℕ → ℕ → ℕ
unfolding difference
removed w i = difference w (2 ^ i)

-- All numbers below n for which a word of k bits has room.
unfoldable pub all_below : ℕ → ℕ → ℕ
all_below k n = 2 ^ min n k - 1

-- The least member; k for the empty set.
unfoldable pub lowest : ℕ → ℕ → ℕ
lowest k w = count_trailing_zeros k w

-- How many members there are.
unfoldable pub count : ℕ → ℕ
count w = ones w

-- The members of n numbers from i on, rising; and all members of a word of k bits.
abbrev pub members_from : ℕ → ℕ → ℕ → List ℕ
members_from i zero w = []
members_from i (suc n) w = cond (member w i) (i ∷ members_from (suc i) n w) (members_from (suc i) n w)

unfoldable pub members : ℕ → ℕ → List ℕ
members k w = members_from 0 k w

-- The word of k bits whose members are those of a test, and those of a list.
abbrev pub set_of : (ℕ → Bool) → ℕ → ℕ
set_of f zero = 0
set_of f (suc k) = cond (f k) (2 ^ k) 0 + set_of f k

abbrev pub of_list : ℕ → List ℕ → ℕ
of_list k [] = 0
of_list k (i ∷ l) = inserted k (of_list k l) i

-- Whether a number stands in a list.
abbrev pub among : ℕ → List ℕ → Bool
among i [] = false
among i (j ∷ l) = eqb i j || among i l
