-- What writing an answer gives back: 0, or 13 where the lent output is too short for it.
use Prim.Native.Nat.{ℕ, ◌*◌}
use native.Mathlib.Omega.{arith}
use mathlib.Core.Path.{◌≡◌, refl}
use mathlib.Core.Logic.{◌≢◌, ◌⊎◌, inl, inr}
use mathlib.Core.Bool.{Bool, true, false}
use mathlib.Core.List.{List, [], ◌∷◌}
use lib.ListN.{length}
use lib.Dec.{leb}
use Rattle.field.specs.Field.{bytes2, field_bytes}
use Rattle.run.specs.Meaning.{Fact}
use Rattle.run.specs.Answer.{fact_bytes, written}

by_room : (answer output : List ℕ) (b : Bool) → leb (length answer) (length output) ≡ b
    → ((written answer output).number ≡ 0) ⊎ ((written answer output).number ≡ 13)
unfolding written
by_room answer output true e = inl (rw e)
by_room answer output false e = inr (rw e)

pub written_number : (answer output : List ℕ) → ((written answer output).number ≡ 0) ⊎ ((written answer output).number ≡ 13)
written_number answer output = by_room answer output (leb (length answer) (length output)) refl

first : {x : ℕ} → (x ≡ 0) ⊎ (x ≡ 13) → x ≢ 13 → x ≡ 0
first (inl e) n = e
first (inr e) n = absurd (n e)

pub written_fits : (answer output : List ℕ) → (written answer output).number ≢ 13 → (written answer output).number ≡ 0
written_fits answer output n = first (written_number answer output) n

-- Five bytes for each fact.
pub length_fact_bytes : (fs : List Fact) → length (fact_bytes fs) ≡ 5 * length fs
unfolding fact_bytes field_bytes bytes2
length_fact_bytes [] = refl
length_fact_bytes (f ∷ fs) = omega (arith, length_fact_bytes fs)
