-- What there is to say of an answer beside its lines. Definitions alone.
use Rattle.std.specs.Prelude.{ℕ, Bool, true, false, cond, not, ◌||◌, List, [], ◌∷◌, eqb, take}
use Rattle.sets.specs.Bits.{among}
use Rattle.notice.specs.declared.Notice.{Notice}
use Rattle.notice.specs.declared.Notice.TheVariants.{Nothing, Refused, Text}

-- Digits, letters from a to f, space, tab, carriage return, newline and #.
unfoldable pub plain : List ℕ
plain =
    48 ∷ 49 ∷ 50 ∷ 51 ∷ 52 ∷ 53 ∷ 54 ∷ 55 ∷ 56 ∷ 57 ∷ 97 ∷ 98 ∷ 99 ∷ 100 ∷ 101 ∷ 102 ∷ 65 ∷ 66 ∷ 67 ∷ 68 ∷ 69 ∷ 70
    ∷ 32 ∷ 9 ∷ 13 ∷ 10 ∷ 35 ∷ []

-- Whether what comes after a byte stands in a comment: # begins one, a newline ends it.
abbrev pub in_comment : Bool → ℕ → Bool
in_comment true b = not (eqb b 10)
in_comment false b = eqb b 35

-- Whether all bytes are plain or stand in a comment.
unfoldable pub looks : Bool → List ℕ → Bool
looks comment [] = true
looks comment (b ∷ s) = cond (comment || among b plain) (looks (in_comment comment b) s) false

unfoldable pub is_text : List ℕ → Bool
is_text [] = false
is_text (b ∷ s) = looks false (take 64 (b ∷ s))

-- There is no good head (2), or the first field is cut (3).
abbrev pub no_problem : ℕ → ℕ → Bool
no_problem number place = cond (eqb place 0) (cond (eqb number 2) true (eqb number 3)) false

unfoldable pub notice_of : ℕ → ℕ → List ℕ → Notice
notice_of number place input = cond (eqb number 0) Nothing (cond (no_problem number place) (cond (is_text input) Text Refused) Refused)
