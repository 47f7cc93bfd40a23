-- The lines of what the solver finds, as data: what the printed bytes are held to. Definitions alone.
use Rattle.std.specs.Prelude.{ℕ, ◌+◌, ◌<◌, List, [], ◌∷◌, ◌++◌, length}
use Rattle.run.specs.Meaning.{Binding, Fact}
use Rattle.run.specs.Answer.{Verdict, accepted, refusal}
use Rattle.printer.specs.Lines.{accepted_line, refused_line, bind_line, fresh_line}

-- "then `bind VARIABLE NODE IMAGES` ..; then `fresh ATOM VARIABLE`, in answer order".
unfoldable pub bind_lines : List Binding → List ℕ
bind_lines [] = []
bind_lines (b ∷ bs) = bind_line b.variable b.value.node b.value.images ++ bind_lines bs

unfoldable pub fresh_lines : List Fact → List ℕ
fresh_lines [] = []
fresh_lines (f ∷ fs) = fresh_line f.0 f.1 ++ fresh_lines fs

unfoldable pub verdict_lines : Verdict → List ℕ
verdict_lines (accepted steps bs fs) = accepted_line steps ++ (bind_lines bs ++ fresh_lines fs)
verdict_lines (refusal number place) = refused_line number place

-- The numbers that the answer's fields have room for: four bytes of steps, two of a node, and two of a field's length.
abbrev pub SmallBindings : List Binding → Type 0
SmallBindings [] = Unit
SmallBindings (b ∷ bs) = ((b.value.node < 65536) × (3 + length b.value.images < 65536)) × SmallBindings bs
