-- Permutations as 003 has them (figure 1): lists of swaps of atoms, for any number of atoms. Definitions alone; their laws are in proofs/.
use Rattle.std.specs.Prelude.{ℕ, ◌<◌, ◌≡◌, ◌≢◌, cond, List, [], ◌∷◌, ◌++◌, eqb}

-- "A swap of an atom with itself is allowed and does nothing."
abbrev pub Swap : Type 0
Swap = ℕ × ℕ

abbrev pub Swaps : Type 0
Swaps = List Swap

-- (a b) sends a to b, b to a and every other atom to itself.
unfoldable pub swapped : ℕ → ℕ → ℕ → ℕ
swapped a b c = cond (eqb c a) b (cond (eqb c b) a c)

-- "In a list of swaps the RIGHTMOST acts first."
abbrev pub act : Swaps → ℕ → ℕ
act [] c = c
act (s ∷ π) c = swapped s.0 s.1 (act π c)

-- "The inverse is the reversed list."
abbrev pub inverse : Swaps → Swaps
inverse [] = []
inverse (s ∷ π) = inverse π ++ (s ∷ [])

-- "The disagreement set of two permutations is the set of atoms that they send to different atoms."
abbrev pub Disagree : Swaps → Swaps → ℕ → Type 0
Disagree π ρ a = act π a ≢ act ρ a

-- Lists of swaps that send every atom alike count as one permutation.
abbrev pub Alike : Swaps → Swaps → Type 0
Alike π ρ = (a : ℕ) → act π a ≡ act ρ a

-- The atoms that a list of swaps names: no other atom moves.
abbrev pub atoms : Swaps → List ℕ
atoms [] = []
atoms (s ∷ π) = s.0 ∷ s.1 ∷ atoms π

-- All atoms that a list of swaps names are below A, as the reader ensures for the number of atoms that the problem gives.
abbrev pub Within : ℕ → Swaps → Type 0
Within A [] = Unit {0}
Within A (s ∷ π) = ((s.0 < A) × (s.1 < A)) × Within A π

-- "0 to 32 swaps of two atoms each": a suspension's swaps in the problem's bytes, in their order.
abbrev pub swaps_in : List ℕ → Swaps
swaps_in [] = []
swaps_in (a ∷ []) = []
swaps_in (a ∷ b ∷ s) = (a, b) ∷ swaps_in s
