-- How the definitions of the lines go on: one digit more, one image more, one field more, as the code writes them.
use Prim.Native.Nat.{ℕ, zero, suc, ◌+◌, ◌/◌, ◌%◌, ◌≤◌, ◌<◌}
use native.Mathlib.Decide.{dec_lt}
use native.Mathlib.Omega.{arith}
use native.Mathlib.Numerals.{add-one}
use mathlib.Core.Path.{◌≡◌, refl}
use mathlib.Core.List.{List, [], ◌∷◌, ◌++◌, append_assoc, append-nil}
use mathlib.Core.Logic.{by_cases}
use borrow.Author.Tests.{lt-ltb, le-ltb}
use lib.ListN.{length, get_or, take}
use lib.Seq.{take-suc}
use Rattle.printer.specs.Lines.{digits, decimal, spaced, images}

-- Room for more digits than there are makes no difference.
digits_more : (j k x : ℕ) → x < j → x < k → digits j x ≡ digits k x
unfolding digits
digits_more zero k x p q = absurd (omega arith)
digits_more (suc j) zero x p q = absurd (omega arith)
digits_more (suc j) (suc k) x p q =
    by_cases (dec_lt x 10)
    (λ h. rw (lt-ltb x 10 h))
    (λ h. let g : 10 ≤ x = omega arith in rw (le-ltb x 10 g, digits_more j k (x / 10) (omega arith) (omega arith)))

pub decimal_small : (x : ℕ) → x < 10 → decimal x ≡ (48 + x % 10) ∷ []
unfolding decimal digits
decimal_small x h = rw (lt-ltb x 10 h)

pub decimal_more : (x : ℕ) → 10 ≤ x → decimal x ≡ decimal (x / 10) ++ ((48 + x % 10) ∷ [])
unfolding decimal digits
decimal_more x h = rw (le-ltb x 10 h, digits_more x (suc (x / 10)) (x / 10) (omega arith) (omega arith))

-- One image more.
images_append : (s t : List ℕ) → images (s ++ t) ≡ images s ++ images t
unfolding images
images_append [] t = refl
images_append (a ∷ s) t = rw (images_append s t, append_assoc (spaced a) (images s) (images t))

pub images_more : (s : List ℕ) (i : ℕ) → i < length s → images (take (i + 1) s) ≡ images (take i s) ++ spaced (get_or s i 0)
unfolding images
images_more s i h = rw (add-one i, take-suc s i 0 h, images_append (take i s) (get_or s i 0 ∷ []), append-nil)
