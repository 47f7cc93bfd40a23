-- The tag of each kind of field of an answer. Definitions alone.
use Rattle.std.specs.Prelude.{ℕ}
use Rattle.printer.specs.declared.Part.{Part}
use Rattle.printer.specs.declared.Part.TheVariants.{Steps, Binding, Fact}

abbrev pub tag_of : Part → ℕ
tag_of Steps = 0x4E
tag_of Binding = 0x40
tag_of Fact = 0x41
