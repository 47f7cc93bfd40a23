-- The laws of placing: nothing, one byte, and one text right after another, which is placing both as one text. All that is written goes by these.
use Prim.Native.Nat.{ℕ, zero, suc, ◌+◌, ◌-◌, ◌≤◌, ◌<◌, min}
use native.Mathlib.Nat.{add-zero, min-eq_left, min-eq_right, min-le_left}
use native.Mathlib.Decide.{dec_lt}
use native.Mathlib.Omega.{arith}
use mathlib.Core.Path.{◌≡◌, sym, ap, ◌∙◌}
use mathlib.Core.List.{List, [], ◌∷◌, ◌++◌, append-nil}
use mathlib.Core.Logic.{by_cases}
use borrow.Rule.Slice.PartMut.{put_mid}
use lib.ListN.{length, take, drop, length-append, take-append-drop, drop_of_length-le}
use lib.Seq.{take-nil, drop-nil, take_all, length-take-le}
use Rattle.std.proofs.lemmas.Slice.{put_mid-paste}
use Rattle.printer.specs.Placed.{pasted, reached, Placed}

-- Pasting, one byte at a time.
pasted_end : (at : ℕ) (s : List ℕ) → pasted [] at s ≡ []
unfolding pasted
pasted_end at s = let e : 0 - at ≡ 0 = omega arith in rw (take-nil at, e, drop-nil (at + length s))

pasted_before : (x : ℕ) (d : List ℕ) (at : ℕ) (s : List ℕ) → pasted (x ∷ d) (suc at) s ≡ x ∷ pasted d at s
unfolding pasted
pasted_before x d at s =
    let e : suc (length d) - suc at ≡ length d - at = omega arith in
    let f : suc at + length s ≡ suc (at + length s) = omega arith in
    rw (e, f)

pub pasted_nothing : (d : List ℕ) (at : ℕ) → pasted d at [] ≡ d
unfolding pasted
pasted_nothing d at = rw (take-nil (length d - at), append-nil, add-zero) (take-append-drop at d)

pasted_first : (x : ℕ) (d : List ℕ) (b : ℕ) (s : List ℕ) → pasted (x ∷ d) zero (b ∷ s) ≡ b ∷ pasted d zero s
unfolding pasted
pasted_first x d b s =
    let e : suc (length d) - 0 ≡ suc (length d) = omega arith in
    let f : 0 + suc (length s) ≡ suc (length s) = omega arith in
    let g : length d - 0 ≡ length d = omega arith in
    let h : 0 + length s ≡ length s = omega arith in
    rw (e, f, g, h)

pub pasted_length : (d : List ℕ) (at : ℕ) (s : List ℕ) → length (pasted d at s) ≡ length d
pasted_length [] at s = rw (pasted_end at s)
pasted_length (x ∷ d) (suc at) s = rw (pasted_before x d at s) (ap suc (pasted_length d at s))
pasted_length (x ∷ d) zero [] = rw (pasted_nothing (x ∷ d) zero)
pasted_length (x ∷ d) zero (b ∷ s) = rw (pasted_first x d b s) (ap suc (pasted_length d zero s))

pub pasted_past : (d : List ℕ) (at : ℕ) (s : List ℕ) → length d ≤ at → pasted d at s ≡ d
pasted_past [] at s h = pasted_end at s
pasted_past (x ∷ d) zero s h = absurd (omega arith)
pasted_past (x ∷ d) (suc at) s h = rw (pasted_before x d at s) (ap (◌∷◌ x) (pasted_past d at s (omega arith)))

pasted_then : (d : List ℕ) (at : ℕ) (s t : List ℕ) → pasted (pasted d at s) (at + length s) t ≡ pasted d at (s ++ t)
pasted_then [] at s t = rw (pasted_end at s, pasted_end (at + length s) t, pasted_end at (s ++ t))
pasted_then (x ∷ d) (suc at) s t =
    let f : suc at + length s ≡ suc (at + length s) = omega arith in
    rw (pasted_before x d at s, pasted_before x d at (s ++ t), f, pasted_before x (pasted d at s) (at + length s) t) (ap (◌∷◌ x) (pasted_then d at s t))
pasted_then (x ∷ d) zero [] t = rw (pasted_nothing (x ∷ d) zero)
pasted_then (x ∷ d) zero (b ∷ s) t =
    let f : 0 + suc (length s) ≡ suc (0 + length s) = omega arith in
    rw (pasted_first x d b s, pasted_first x d b (s ++ t), f, pasted_before b (pasted d zero s) (0 + length s) t) (ap (◌∷◌ b) (pasted_then d zero s t))

-- Past the end all indices are alike.
pasted_clipped : (d : List ℕ) (at : ℕ) (s : List ℕ) → pasted d (min (length d) at) s ≡ pasted d at s
pasted_clipped d at s =
    by_cases (dec_lt at (length d))
    (λ h. let k : at ≤ length d = omega arith in rw (min-eq_right k))
    (λ h. let k : length d ≤ at = omega arith in rw (min-eq_left k, pasted_past d (length d) s (omega arith), pasted_past d at s k))

pub placed : {d d' : List ℕ} {at r : ℕ} {s : List ℕ} → r ≡ reached d at s → d' ≡ pasted d at s → Placed d at s r d'
unfolding reached
placed {d} {d'} {at} {r} {s} e h =
    let k : r ≤ length d' = omega (arith, min-le_left (length d) (at + length s), ap length h, pasted_length d at s) in
    record { ends = e; holds = h; within = k; counts = sym (length-take-le r d' k) }

-- Nothing is left to write; the end is reached.
pub placed_nothing : (d : List ℕ) (at : ℕ) → at ≤ length d → Placed d at [] at d
unfolding reached
placed_nothing d at h = placed (rw (add-zero at) (sym (min-eq_right h))) (sym (pasted_nothing d at))

pub placed_past : (d : List ℕ) (at : ℕ) (s : List ℕ) → length d ≤ at → Placed d at s (length d) d
unfolding reached
placed_past d at s h = placed (omega arith) (sym (pasted_past d at s h))

-- As much as fits, in one piece.
pub placed_part : (d s m : List ℕ) (at k j : ℕ) → at < length d → k ≡ min (length s) (length d - at) → m ≡ take k s → j ≡ k
    → Placed d at s (at + k) (put_mid at j d m)
unfolding reached pasted
placed_part d s m at k j h e f g =
    placed (omega (arith, e)) (put_mid-paste at j d m (take k s) k f (sym g) (omega (arith, e, length-take-le k s (omega (arith, e)))) ∙ whole)
  where
    whole : take at d ++ take k (take k s) ++ drop (at + k) d ≡ take at d ++ take (length d - at) s ++ drop (at + length s) d
    whole =
        by_cases (dec_lt (length d) (at + length s))
        (λ l. let n : k ≡ length d - at = omega (arith, e) in
        rw (n, take_all (length d - at) (take (length d - at) s) (omega (arith, length-take-le (length d - at) s (omega arith))))
        (rw (drop_of_length-le d {i = at + (length d - at)} (omega arith), drop_of_length-le d {i = at + length s} (omega arith))))
        (λ l. let n : k ≡ length s = omega (arith, e) in
        rw (n, take_all (length s) s (omega arith), take_all (length s) s (omega arith), take_all (length d - at) s (omega arith)))

-- One text right after another.
infixl 5 ◌then◌
pub ◌then◌ : {d d' d'' : List ℕ} {at r r' : ℕ} {s t : List ℕ} → Placed d at s r d' → Placed d' r t r' d'' → Placed d at (s ++ t) r' d''
unfolding reached
◌then◌ {d} {d'} {d''} {at} {r} {r'} {s} {t} p q =
    placed (q.ends ∙ rw (p.holds, pasted_length d at s, p.ends, length-append s t) clipped) (q.holds ∙ rw (p.holds, p.ends) whole)
  where
    clipped : min (length d) (min (length d) (at + length s) + length t) ≡ min (length d) (at + (length s + length t))
    clipped = omega arith

    whole : pasted (pasted d at s) (min (length d) (at + length s)) t ≡ pasted d at (s ++ t)
    whole =
        ap (λ (n : ℕ). pasted (pasted d at s) (min n (at + length s)) t) (sym (pasted_length d at s)) ∙ pasted_clipped (pasted d at s) (at + length s) t
        ∙ pasted_then d at s t
