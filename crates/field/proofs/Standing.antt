-- Where a whole field stands in the bytes that it was found in.
use Prim.Native.Nat.{ℕ, ◌+◌, ◌*◌, ◌-◌, ◌≤◌, ◌<◌}
use native.Mathlib.Omega.{arith}
use native.Mathlib.Nat.{le_refl}
use native.Mathlib.Decide.{dec_lt}
use mathlib.Core.Path.{◌≡◌, refl, sym, ◌∙◌, ap}
use mathlib.Core.Bool.{Bool, true, false, cond}
use mathlib.Core.List.{List, [], ◌∷◌}
use lib.ListN.{length, take, drop, length-take, length-drop, get_or-eq_default}
use lib.Seq.{take_all, drop-drop, get_or-take, get_or-drop, length-take-le}
use lib.Dec.{leb}
use borrow.Author.Tests.{leb-true}
use Rattle.field.specs.Field.{cut, whole, front, bodied, byte, Bytes, FieldStands}

whole_chosen : (b : Bool) (t t' : ℕ) (x y x' y' : List ℕ) → cond b (whole t x y) cut ≡ whole t' x' y' → (b ≡ true) × (t ≡ t') × (x ≡ x') × (y ≡ y')
whole_chosen true t t' x y x' y' e = (refl, cc, cc, cc)
whole_chosen false t t' x y x' y' e = let z : ◌≡◌ {A = ℕ} 0 1 = cc in absurd (omega arith)

pub stands : (s : List ℕ) (tag : ℕ) (body rest : List ℕ) → front s ≡ whole tag body rest → FieldStands s tag body rest
unfolding front bodied
stands [] tag body rest e = let z : ◌≡◌ {A = ℕ} 0 1 = cc in absurd (omega arith)
stands (t ∷ []) tag body rest e = let z : ◌≡◌ {A = ℕ} 0 1 = cc in absurd (omega arith)
stands (t ∷ h ∷ []) tag body rest e = let z : ◌≡◌ {A = ℕ} 0 1 = cc in absurd (omega arith)
stands (t ∷ h ∷ l ∷ s) tag body rest e =
    let n : ℕ = h * 256 + l in
    let w = whole_chosen (leb n (length s)) t tag (take n s) (drop n s) body rest e in
    let k : n ≤ length s = leb-true n (length s) w.0 in
    let m : length body ≡ n = ap length (sym w.2) ∙ length-take-le n s k in
    record {
      the_tag = sym w.1;
      the_length = m;
      fits = omega arith;
      the_body = rw m (sym w.2);
      the_rest = rw m (sym w.3 ∙ drop-drop n 3 (t ∷ h ∷ l ∷ s));
    }

-- A part of a list of bytes is one.
pub bytes_drop : (n : ℕ) (s : List ℕ) → Bytes s → Bytes (drop n s)
bytes_drop n s b i = rw (get_or-drop n s i 0) (b (n + i))

pub bytes_take : (n : ℕ) (s : List ℕ) → Bytes s → Bytes (take n s)
bytes_take n s b i = go (dec_lt i n)
  where
    go : Dec (i < n) → byte (take n s) i < 256
    go (yes h) = rw (get_or-take n s i 0 h) (b i)
    go (no h) = rw (get_or-eq_default (take n s) 0 {n = i} (omega (arith, length-take n s))) (omega arith)

pub bytes_body : (s : List ℕ) (tag : ℕ) (body rest : List ℕ) → Bytes s → FieldStands s tag body rest → Bytes body
bytes_body s tag body rest b w = rw w.the_body (bytes_take (length body) (drop 3 s) (bytes_drop 3 s b))

-- A part that goes to the end is what is left of the list.
pub tail_part : (s : List ℕ) (e : ℕ) → take (length s - e) (drop e s) ≡ drop e s
tail_part s e = take_all (length s - e) (drop e s) (rw (length-drop e s) (le_refl (length s - e)))
