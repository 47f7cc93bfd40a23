-- What the code tells of the first field, in its own types: a good head's numbers, or why there is none. Definitions alone.
use Rattle.std.specs.Prelude.{ℕ, cond, List, [], ◌∷◌, Result, Ok, Err}
use Rattle.field.specs.Field.{Field, cut, whole, front, byte, long}
use Rattle.numbers.specs.declared.Reason.{Reason}
use Rattle.numbers.specs.declared.Reason.TheVariants as reason
use Rattle.problem.specs.Reader.{good_head}
use Rattle.opening.specs.declared.Head.{Head}

unfoldable pub head_said : ℕ → List ℕ → Result Head Reason
head_said tag s = cond (good_head tag s) (Ok (record { atoms = byte s 0; variables = byte s 1; limit = long s 2 })) (Err reason.NoHead)

abbrev pub opened_by : Field → Result Head Reason
opened_by cut = Err reason.Cut
opened_by (whole tag s rest) = head_said tag s

unfoldable pub opening_of : List ℕ → Result Head Reason
opening_of [] = Err reason.NoHead
opening_of (b ∷ s) = opened_by (front (b ∷ s))
