-- What stands at the front of the bytes tells what they open with.
use Prim.Native.Nat.{ℕ, ◌+◌}
use native.Mathlib.Omega.{arith}
use mathlib.Core.Path.{◌≡◌, ap}
use mathlib.Core.List.{List, [], ◌∷◌}
use lib.ListN.{take, drop}
use Rattle.std.specs.Prelude.{Err}
use Rattle.field.specs.Field.{Field, cut, whole, front}
use Rattle.field.specs.Front.{front_of}
use Rattle.field.specs.declared.AtFront.TheVariants as front-variants
use Rattle.field.proofs.Told.{at_end, at_cut, at_whole}
use Rattle.opening.specs.Head.{head_said, opened_by, opening_of}
use Rattle.numbers.specs.declared.Reason.TheVariants.{NoHead, Cut}

pub opened_end : (s : List ℕ) → front_of s ≡ front-variants.End → opening_of s ≡ Err NoHead
unfolding opening_of
opened_end s e = rw (at_end s e)

opened_front : (s : List ℕ) (b : ℕ) (u : List ℕ) (f : Field) → s ≡ b ∷ u → front s ≡ f → opening_of s ≡ opened_by f
unfolding opening_of
opened_front [] b u f e w = let z : ◌≡◌ {A = ℕ} 0 1 = cc in absurd (omega arith)
opened_front (a ∷ s) b u f e w = ap opened_by w

pub opened_cut : (s : List ℕ) → front_of s ≡ front-variants.Cut → opening_of s ≡ Err Cut
opened_cut s e = let h = at_cut s e in opened_front s h.first h.others cut h.some h.the_front

pub opened_whole : (s : List ℕ) (tag n : ℕ) → front_of s ≡ front-variants.Whole tag n → opening_of s ≡ head_said tag (take n (drop 3 s))
opened_whole s tag n e =
    let h = (at_whole s tag n e).0 in
    opened_front s h.first h.others (whole tag (take n (drop 3 s)) (drop (3 + n) s)) h.some h.the_front
