-- No second answer fits what the contracts say.
use Prim.Native.Nat.{ℕ, ◌^◌, ◌<◌}
use mathlib.Core.Path.{◌≡◌, sym, ◌∙◌}
use mathlib.Core.Bool.{Bool, true}
use mathlib.Core.List.{List}
use Rattle.sets.specs.Bits.{member}
use Rattle.sets.proofs.Bits.{by_test, sets_extensional}
use Rattle.occurs.specs.Reached.{VariableReached, inside, through, Closure, OccursAnswered}
use Rattle.occurs.proofs.Sets.{apart}

alike : (a b : Bool) → (a ≡ true → b ≡ true) → (b ≡ true → a ≡ true) → a ≡ b
alike a b f g = by_test b (λ q. g q ∙ sym q) (λ q. by_test a (λ p. apart (f p) q) (λ p. p ∙ sym q))

module _ {bound : ℕ} {made : List (List ℕ)} (variables_of_nodes : List ℕ) {start : ℕ} where
  -- A closure has all that is reached.
  closure_has : {w : ℕ} → Closure bound made variables_of_nodes start w → (X : ℕ) → VariableReached bound made variables_of_nodes start X → member w X ≡ true
  closure_has c X (inside m) = c.holds X m
  closure_has c X (through {Y = Y} r b m) = c.closed X Y (closure_has c Y r) b m

  closure_members : {v w : ℕ} → Closure bound made variables_of_nodes start v → Closure bound made variables_of_nodes start w
      → (X : ℕ) → member v X ≡ member w X
  closure_members {v} {w} c d X =
      alike (member v X) (member w X) (λ m. closure_has d X (c.reached X m)) (λ m. closure_has c X (d.reached X m))

  -- `reaches` gives one word of 64 bits.
  pub closure_only : {v w : ℕ} → v < 2 ^ 64 → w < 2 ^ 64 → Closure bound made variables_of_nodes start v → Closure bound made variables_of_nodes start w → v ≡ w
  closure_only {v} {w} h k c d = sets_extensional 64 v w h k (λ X l. closure_members c d X)

-- `occurs` gives one answer.
pub answered_only : {bound : ℕ} {made : List (List ℕ)} (variables_of_nodes : List ℕ) {n X : ℕ} {q r : Bool}
    → OccursAnswered bound made variables_of_nodes n X q → OccursAnswered bound made variables_of_nodes n X r → q ≡ r
answered_only variables_of_nodes {X = X} a b = a.answer ∙ closure_members variables_of_nodes a.closure b.closure X ∙ sym b.answer
