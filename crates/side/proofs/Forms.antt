-- Which form it is: the code tells forms apart by their tags.
use Prim.Native.Nat.{ℕ}
use native.Mathlib.Omega.{arith}
use mathlib.Core.Path.{◌≡◌, refl, ◌∙◌, subst}
use mathlib.Core.Logic.{◌≢◌}
use mathlib.Core.Bool.{false, not}
use mathlib.Core.List.{List, [], ◌∷◌}
use mathlib.Core.Option.{none}
use lib.Dec.{T}
use mir.Val.{has_key}
use types.Run.{OneOf, miss}
use denote.Enum.Declared.{tag_of}
use Rattle.names.specs.declared.Variable.{Variable}
use Rattle.problem.specs.Problem.{Node, unit_form, atom_form, abstraction_form, pair_form, application_form, suspension_form}
use Rattle.problem.specs.Look.{form_told, Suspended}
use Rattle.problem.specs.declared.Form.{Form}
use Rattle.problem.specs.declared.Form.TheVariants.{Unit, Atom, Abstraction, Pair, Application, Suspension}
use Rattle.problem.specs.contracts.Form.{the_type}
use Rattle.run.specs.Meaning.{Binding}
use Rattle.side.specs.Side.{kind, Suspends, Compound, value_told, is_bound}

pub tag_kind : (w : Form) → tag_of the_type w ≡ kind w
tag_kind Unit = refl
tag_kind (Atom a) = refl
tag_kind (Abstraction a n) = refl
tag_kind (Pair l r) = refl
tag_kind (Application f n) = refl
tag_kind (Suspension x) = refl

-- A form whose tag is one of some is of no kind but theirs.
pub not_kind : (tags : List ℕ) (k : ℕ) → T (not (has_key tags k)) → (w : Form) → OneOf tags (tag_of the_type w) → kind w ≢ k
not_kind tags k n w h e = miss tags k n (subst (OneOf tags) (tag_kind w ∙ e) h)

pub compound : (w : Form) → OneOf (0 ∷ 1 ∷ 2 ∷ 3 ∷ 4 ∷ []) (tag_of the_type w) → Compound w
compound = not_kind (0 ∷ 1 ∷ 2 ∷ 3 ∷ 4 ∷ []) 5 tt

pub no_suspension : (w : Form) → ((x : Variable) → w ≡ Suspension x → ⊥) → Compound w
no_suspension Unit h k = omega arith
no_suspension (Atom a) h k = omega arith
no_suspension (Abstraction a n) h k = omega arith
no_suspension (Pair l r) h k = omega arith
no_suspension (Application f n) h k = omega arith
no_suspension (Suspension x) h k = h x refl

-- ---- a suspension, or none

pub suspended : (node : Node) → Suspends (form_told node) → Suspended node
suspended unit_form k = absurd (omega arith)
suspended (atom_form a) k = absurd (omega arith)
suspended (abstraction_form a n) k = absurd (omega arith)
suspended (pair_form l r) k = absurd (omega arith)
suspended (application_form f n) k = absurd (omega arith)
suspended (suspension_form π X) k = tt

pub compound_valueless : (bs : List Binding) (w : Form) → Compound w → value_told bs w ≡ none
compound_valueless bs Unit h = refl
compound_valueless bs (Atom a) h = refl
compound_valueless bs (Abstraction a n) h = refl
compound_valueless bs (Pair l r) h = refl
compound_valueless bs (Application f n) h = refl
compound_valueless bs (Suspension x) h = absurd (h refl)

pub compound_unbound : (bound : ℕ) (w : Form) → Compound w → false ≡ is_bound bound w
compound_unbound bound Unit h = refl
compound_unbound bound (Atom a) h = refl
compound_unbound bound (Abstraction a n) h = refl
compound_unbound bound (Pair l r) h = refl
compound_unbound bound (Application f n) h = refl
compound_unbound bound (Suspension x) h = absurd (h refl)
