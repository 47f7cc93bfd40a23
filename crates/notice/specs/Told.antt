-- What is told on standard error. Definitions alone.
use Rattle.std.specs.Prelude.{ℕ, List, [], ◌∷◌, ◌++◌, Option, take}
use Rattle.std.specs.Io.KnownBytes.{Appends}
use Rattle.notice.specs.declared.Notice.{Notice}
use Rattle.notice.specs.declared.Notice.TheVariants.{Nothing, Refused, Text}

-- The line `refused`.
abbrev pub refused_said : List ℕ
refused_said = 114 ∷ 101 ∷ 102 ∷ 117 ∷ 115 ∷ 101 ∷ 100 ∷ 10 ∷ []

-- `refused`, and the line `text` after it where a problem was refused that looks like text.
abbrev pub said : Notice → List ℕ
said Nothing = []
said Refused = refused_said
said Text = refused_said ++ 116 ∷ 101 ∷ 120 ∷ 116 ∷ 10 ∷ []

-- The line `cut`.
abbrev pub cut_said : List ℕ
cut_said = 99 ∷ 117 ∷ 116 ∷ 10 ∷ []

-- A writer that knows what it holds got the text, or where a write failed the front of it, and nothing else.
abbrev pub Tells : Option (List ℕ) → Option (List ℕ) → List ℕ → Type 0
Tells old new text = (n : ℕ) × Appends old new (take n text)
