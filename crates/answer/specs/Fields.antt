-- The fields of an answer, one by one, by the layout (layout, specs/Parts.antt). The definition (run, specs/Answer.antt) joins them; what the code writes is
-- said of each. Definitions alone.
use Rattle.std.specs.Prelude.{ℕ, List}
use Rattle.layout.specs.Parts.{steps, binding, fact, part_field}
use Rattle.run.specs.Meaning.{Binding, Fact}

unfoldable pub steps_field : ℕ → List ℕ
steps_field n = part_field (steps n)

unfoldable pub binding_field : Binding → List ℕ
binding_field b = part_field (binding b.variable b.value.node b.value.images)

unfoldable pub fact_field : Fact → List ℕ
fact_field f = part_field (fact f.0 f.1)
