-- What the code tells of the front, read both ways: which answer fits which bytes, and what an answer says of the bytes.
use Prim.Native.Nat.{ℕ, ◌+◌, ◌-◌, ◌≤◌, ◌<◌}
use native.Mathlib.Omega.{arith}
use mathlib.Core.Path.{◌≡◌, refl, ◌∙◌, ap}
use mathlib.Core.List.{List, [], ◌∷◌}
use lib.ListN.{length, take, drop}
use lib.Seq.{length-take-le}
use borrow.Author.Tests.{le-leb, lt-leb}
use Rattle.field.specs.Field.{Field, cut, whole, front, bodied, byte, word}
use Rattle.field.specs.Front.{front_told, front_of}
use Rattle.field.specs.declared.AtFront.TheVariants.{Whole, Cut, End}
use Rattle.field.proofs.Standing.{stands}

pub is_end : (s : List ℕ) → length s ≡ 0 → front_of s ≡ End
unfolding front_of
is_end [] e = refl
is_end (b ∷ s) e = absurd (omega arith)

pub is_short : (s : List ℕ) → (length s ≡ 0 → ⊥) → length s < 3 → front_of s ≡ Cut
unfolding front_of front
is_short [] n h = absurd (n refl)
is_short (a ∷ []) n h = refl
is_short (a ∷ b ∷ []) n h = refl
is_short (a ∷ b ∷ c ∷ s) n h = absurd (omega arith)

pub is_whole : (s : List ℕ) (n : ℕ) → n ≡ word s 1 → 3 ≤ length s → n ≤ length s - 3 → front_of s ≡ Whole (byte s 0) n
unfolding front_of front bodied
is_whole [] n e h k = absurd (omega arith)
is_whole (a ∷ []) n e h k = absurd (omega arith)
is_whole (a ∷ b ∷ []) n e h k = absurd (omega arith)
is_whole (a ∷ b ∷ c ∷ s) n e h k =
    let l : n ≤ length s = omega arith in rw (← e, le-leb n (length s) l) (ap (Whole a) (length-take-le n s l))

pub is_cut : (s : List ℕ) (n : ℕ) → n ≡ word s 1 → 3 ≤ length s → length s - 3 < n → front_of s ≡ Cut
unfolding front_of front bodied
is_cut [] n e h k = absurd (omega arith)
is_cut (a ∷ []) n e h k = absurd (omega arith)
is_cut (a ∷ b ∷ []) n e h k = absurd (omega arith)
is_cut (a ∷ b ∷ c ∷ s) n e h k = let l : length s < n = omega arith in rw (← e, lt-leb n (length s) l)

-- The other way.
pub at_end : (s : List ℕ) → front_of s ≡ End → s ≡ []
unfolding front_of
at_end [] e = refl
at_end (b ∷ s) e = absurd (go (front (b ∷ s)) e)
  where
    go : (f : Field) → front_told f ≡ End → ⊥
    go cut e = let z : ◌≡◌ {A = ℕ} 0 1 = cc in omega arith
    go (whole t x y) e = let z : ◌≡◌ {A = ℕ} 0 1 = cc in omega arith

-- Something stands there, and it is what `front` says.
pub record Something (s : List ℕ) (f : Field) : Type 0 where
  pub first : ℕ
  pub others : List ℕ
  pub some : s ≡ first ∷ others
  pub the_front : front s ≡ f

pub at_cut : (s : List ℕ) → front_of s ≡ Cut → Something s cut
unfolding front_of
at_cut [] e = let z : ◌≡◌ {A = ℕ} 0 1 = cc in absurd (omega arith)
at_cut (b ∷ s) e = record { first = b; others = s; some = refl; the_front = go (front (b ∷ s)) e }
  where
    go : (f : Field) → front_told f ≡ Cut → f ≡ cut
    go cut e = refl
    go (whole t x y) e = let z : ◌≡◌ {A = ℕ} 0 1 = cc in absurd (omega arith)

pub at_whole : (s : List ℕ) (tag n : ℕ) → front_of s ≡ Whole tag n → Something s (whole tag (take n (drop 3 s)) (drop (3 + n) s)) × (3 + n ≤ length s)
unfolding front_of
at_whole [] tag n e = let z : ◌≡◌ {A = ℕ} 0 1 = cc in absurd (omega arith)
at_whole (b ∷ s) tag n e = go (front (b ∷ s)) refl e
  where
    go : (f : Field) → front (b ∷ s) ≡ f → front_told f ≡ Whole tag n
        → Something (b ∷ s) (whole tag (take n (drop 3 (b ∷ s))) (drop (3 + n) (b ∷ s))) × (3 + n ≤ length (b ∷ s))
    go cut w e = let z : ◌≡◌ {A = ℕ} 0 1 = cc in absurd (omega arith)
    go (whole t x y) w e =
        let l : length x ≡ n = cc in
        let k : t ≡ tag = cc in
        let h = stands (b ∷ s) t x y w in (
          record {
            first = b;
            others = s;
            some = refl;
            the_front = w
                ∙ rw (k, h.the_rest, ← l) (ap (λ z. whole tag z (drop (3 + length x) (b ∷ s))) h.the_body);
          },
          rw (← l) h.fits,
        )
