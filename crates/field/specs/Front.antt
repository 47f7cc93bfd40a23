-- The field at the front as the code tells it: its body is told by its length, since it is a part of the bytes.
use Rattle.std.specs.Prelude.{ℕ, List, [], ◌∷◌, length}
use Rattle.field.specs.Field.{Field, cut, whole, front}
use Rattle.field.specs.declared.AtFront.{AtFront}
use Rattle.field.specs.declared.AtFront.TheVariants.{Whole, Cut, End}

abbrev pub front_told : Field → AtFront
front_told cut = Cut
front_told (whole tag body rest) = Whole tag (length body)

unfoldable pub front_of : List ℕ → AtFront
front_of [] = End
front_of (b ∷ s) = front_told (front (b ∷ s))
