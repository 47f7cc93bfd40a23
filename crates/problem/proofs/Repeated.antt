-- One more assumption, and one more protected variable, behind those that there are; and that one that was there already changes nothing.
use Prim.Native.Nat.{ℕ}
use mathlib.Core.Path.{◌≡◌, sym, ◌∙◌, ap}
use mathlib.Core.Bool.{Bool, true, ◌&&◌, ◌||◌, or_assoc, or-false}
use mathlib.Core.List.{List, [], ◌∷◌, ◌++◌}
use lib.Dec.{eqb}
use borrow.Author.Tests.{eqb-true}
use Rattle.sets.specs.Bits.{among}
use Rattle.sets.proofs.Bits.{by_test}
use Rattle.problem.specs.Problem.{Assumed}
use Rattle.problem.specs.Held.{assumes}

-- An assumption is of this atom and this variable.
abbrev is_of : ℕ → ℕ → Assumed → Bool
is_of a X d = eqb d.atom a && eqb d.variable X

pub assumes_more : (ds : List Assumed) (d : Assumed) (a X : ℕ) → assumes (ds ++ (d ∷ [])) a X ≡ assumes ds a X || is_of a X d
assumes_more [] d a X = or-false (is_of a X d)
assumes_more (e ∷ ds) d a X = ap (λ b. is_of a X e || b) (assumes_more ds d a X) ∙ sym (or_assoc (is_of a X e) (assumes ds a X) (is_of a X d))

pub among_more : (l : List ℕ) (X Y : ℕ) → among Y (l ++ (X ∷ [])) ≡ among Y l || eqb Y X
among_more [] X Y = or-false (eqb Y X)
among_more (Z ∷ l) X Y = ap (λ b. eqb Y Z || b) (among_more l X Y) ∙ sym (or_assoc (eqb Y Z) (among Y l) (eqb Y X))

-- "22 and 30 may repeat, which changes nothing": whether an atom is assumed fresh for a variable, and whether a variable is protected, is all that is ever
-- asked.
pub assumed_again : (ds : List Assumed) (d : Assumed) → assumes ds d.atom d.variable ≡ true → (a X : ℕ) → assumes (ds ++ (d ∷ [])) a X ≡ assumes ds a X
assumed_again ds d h a X =
    assumes_more ds d a X
    ∙ by_test (eqb d.atom a)
    (λ e. by_test (eqb d.variable X)
    (λ f.
    let g : assumes ds a X ≡ true = rw (eqb-true d.atom a e, eqb-true d.variable X f) at h in
    rw g)
    (λ f. rw (e, f) (or-false (assumes ds a X))))
    (λ e. rw e (or-false (assumes ds a X)))

pub protected_again : (l : List ℕ) (X : ℕ) → among X l ≡ true → (Y : ℕ) → among Y (l ++ (X ∷ [])) ≡ among Y l
protected_again l X h Y =
    among_more l X Y
    ∙ by_test (eqb Y X) (λ e. let g : among Y l ≡ true = rw (sym (eqb-true Y X e)) at h in rw g) (λ e. rw e (or-false (among Y l)))
