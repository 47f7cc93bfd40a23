-- What a printed line says, told by the fixed word that it begins with. Definitions alone.
use Rattle.std.specs.Prelude.{ℕ, Bool, true, false, cond, List, [], ◌∷◌, ◌++◌, eqb}
use Rattle.printer.specs.Lines.{accepted_word, refused_word, bind_word, fresh_word, holds_word, newline}
use Rattle.printer.specs.declared.Kind.{Kind}
use Rattle.printer.specs.declared.Kind.TheVariants.{Accepted, Refused, Bind, Fresh, Holds, Other}

-- Whether a text begins with a word.
unfoldable pub begins : List ℕ → List ℕ → Bool
begins [] s = true
begins (a ∷ word) [] = false
begins (a ∷ word) (b ∷ s) = cond (eqb b a) (begins word s) false

unfoldable pub kind_of : List ℕ → Kind
kind_of s =
    cond (begins accepted_word s) Accepted
    (cond (begins refused_word s) Refused
    (cond (begins bind_word s) Bind
    (cond (begins fresh_word s) Fresh
    (cond (begins (holds_word ++ newline) s) Holds Other))))
