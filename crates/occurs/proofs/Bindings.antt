-- The set and the table in which the bindings are kept are what the occurs check wants.
use Prim.Native.Nat.{ℕ}
use mathlib.Core.Path.{◌≡◌, refl, ◌∙◌}
use mathlib.Core.Logic.{⊎_elim}
use mathlib.Core.Bool.{Bool, true, false, ◌||◌}
use mathlib.Core.List.Memᴰ
use mathlib.Core.List.{List, [], ◌∷◌, map, Memᴰ}
use lib.ListN.{take}
use lib.Dec.{eqb}
use borrow.Author.Tests.{eq-eqb}
use Rattle.sets.specs.Bits.{among}
use Rattle.run.specs.Meaning.{Binding}
use Rattle.bindings.specs.Bindings.{Bindings, order_in, binding_at, bindings_of, Keeps}
use Rattle.bindings.proofs.Laws.{value_of_set}
use Rattle.occurs.specs.Reached.{Rooted}

or_true : (a b : Bool) → b ≡ true → a || b ≡ true
or_true true b e = refl
or_true false b e = e

-- A binding of the list is that of one of its variables.
one_of : (A : ℕ) (t : Bindings) (l : List ℕ) (b : Binding) → Memᴰ b (map (binding_at A t) l) → (X : ℕ) × (among X l ≡ true) × (b ≡ binding_at A t X)
one_of A t [] b m = absurd (Memᴰ.not-nil m)
one_of A t (X ∷ l) b m =
    ⊎_elim
    (λ e. (X, rw (eq-eqb X X refl), e))
    (λ k. let (Y, y, e) = one_of A t l b k in (Y, or_true (eqb Y X) (among Y l) y, e))
    (Memᴰ.cases_cons m)

pub rooted : (A : ℕ) (t : Bindings) (k bound : ℕ) → Keeps t.made k bound → Rooted (bindings_of A t k) bound t.made
unfolding bindings_of binding_at
rooted A t k bound h = record {
  each = λ b m. let (X, x, e) = one_of A t (take k (order_in t.made)) b m in rw e (h.holds X ∙ x, refl);
  valued = λ Y m. ((binding_at A t Y).value, value_of_set A t k bound h Y ∙ rw m, refl);
}
