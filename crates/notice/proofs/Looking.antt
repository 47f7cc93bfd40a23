-- Bytes looked at one by one.
use Prim.Native.Nat.{ℕ, ◌+◌, ◌≤◌, ◌<◌, min}
use native.Mathlib.Decide.{ℕ_discrete}
use native.Mathlib.Numerals.{add-one}
use native.Mathlib.Omega.{arith}
use mathlib.Core.Path.{◌≡◌, refl, sym, ap}
use mathlib.Core.Logic.{by_cases}
use mathlib.Core.Bool.{Bool, true, false, ◌||◌}
use mathlib.Core.List.{List, [], ◌∷◌}
use borrow.Author.Tests.{eq-eqb, ne_eqb, eqb-true}
use lib.Dec.{eqb}
use lib.ListN.{length, get_or, take, drop, drop_of_length-le}
use lib.Seq.{drop-cons}
use Rattle.std.specs.List.{list_any}
use Rattle.std.proofs.Math.Nat.{min_comm}
use Rattle.std.proofs.lemmas.List.{take_min}
use Rattle.sets.specs.Bits.{among}
use Rattle.notice.specs.Notices.{plain, in_comment, looks, is_text}

-- The library's test whether a byte is among others.
pub any_among : (b : ℕ) (s : List ℕ) → list_any (λ y. eqb y b) s ≡ among b s
any_among b [] = refl
any_among b (a ∷ s) =
    by_cases (ℕ_discrete a b) (λ e. rw (eq-eqb a b e, eq-eqb b a (sym e)))
    (λ d. rw (ne_eqb a b d, ne_eqb b a (λ e. d (sym e))) (any_among b s))

module _ (comment : Bool) (s : List ℕ) (i : ℕ) where
  pub looks_end : length s ≤ i → looks comment (drop i s) ≡ true
  unfolding looks
  looks_end h = rw (drop_of_length-le s h)

  module _ (h : i < length s) where
    pub looks_no : (comment || among (get_or s i 0) plain) ≡ false → looks comment (drop i s) ≡ false
    unfolding looks
    looks_no e = rw (drop-cons s i 0 h, e)

    pub looks_on :
        {next : Bool} → (comment || among (get_or s i 0) plain) ≡ true → next ≡ in_comment comment (get_or s i 0) →
        looks comment (drop i s) ≡ looks next (drop (i + 1) s)
    unfolding looks
    looks_on e f = rw (add-one i, drop-cons s i 0 h, e, f)

pub empty_no : (s : List ℕ) → true ≡ eqb (length s) 0 → false ≡ is_text s
unfolding is_text
empty_no [] e = refl
empty_no (b ∷ s) e = absurd (omega (arith, eqb-true (length (b ∷ s)) 0 (sym e)))

-- The first bytes, 64 or all where there are fewer.
pub some_text : (s : List ℕ) (n : ℕ) → n ≡ min (length s) 64 → false ≡ eqb (length s) 0 → looks false (take n s) ≡ is_text s
unfolding is_text
some_text [] n e h = cc
some_text (b ∷ s) n e h = ap (looks false) (rw (e, min_comm (length (b ∷ s)) 64) (take_min 64 (b ∷ s)))
