-- The laws of writing: one text right after another, and what is left to write in a loop.
use Prim.Native.Nat.{ℕ, suc, ◌+◌, ◌≤◌}
use native.Mathlib.Nat.{add-zero, zero-add}
use native.Mathlib.Omega.{arith}
use mathlib.Core.Path.{◌≡◌, refl, sym, ◌∙◌, ap}
use mathlib.Core.List.{List, [], ◌∷◌, ◌++◌}
use borrow.Rule.Slice.PartMut.{put_mid}
use lib.ListN.{length, take, drop, set, length-append}
use lib.Seq.{sets, length-sets, sets-eq, take-length}
use Rattle.std.proofs.lemmas.Slice.{put_mid-paste}
use Rattle.answer.specs.Written.{Wrote}

sets_append : (s t d : List ℕ) (at : ℕ) → sets d at (s ++ t) ≡ sets (sets d at s) (at + length s) t
sets_append [] t d at = rw (add-zero at)
sets_append (b ∷ s) t d at =
    let end : suc at + length s ≡ at + suc (length s) = omega arith in
    sets_append s t (set d at b) (suc at) ∙ ap (λ (n : ℕ). sets (sets (set d at b) (suc at) s) n t) end

pub wrote_length : {d e s : List ℕ} {at r : ℕ} → Wrote d at s r e → length e ≡ length d
wrote_length {d} {e} {s} {at} w = ap length w.holds ∙ length-sets d at s

pub wrote_same : {d e s t : List ℕ} {at r : ℕ} → s ≡ t → Wrote d at s r e → Wrote d at t r e
wrote_same p w = rw p at w

-- A text in one piece.
pub wrote_piece : (d s m : List ℕ) (at j : ℕ) → at + length s ≤ length d → m ≡ s → j ≡ length s → Wrote d at s (at + length s) (put_mid at j d m)
wrote_piece d s m at j h e f =
    record {
      ends = refl;
      holds =
          put_mid-paste at j d m s (length s) e (sym f) refl
          ∙ ap (λ (l : List ℕ). take at d ++ l ++ drop (at + length s) d) (take-length s)
          ∙ sym (sets-eq s d at h);
    }

-- One text right after another.
infixl 5 ◌then◌
pub ◌then◌ : {d e f s t : List ℕ} {at r q : ℕ} → Wrote d at s r e → Wrote e r t q f → Wrote d at (s ++ t) q f
◌then◌ {d} {e} {f} {s} {t} {at} {r} {q} v w =
    record {
      ends = w.ends ∙ ap (λ (n : ℕ). n + length t) v.ends ∙ rw length-append (omega arith);
      holds = w.holds ∙ ap (λ (n : ℕ). sets e n t) v.ends ∙ ap (λ (l : List ℕ). sets l (at + length s) t) v.holds ∙ sym (sets_append s t d at);
    }

-- In a loop: writing s from `at` on is all that is left of writing s₀ from at₀ on.
pub record Left (d : List ℕ) (at : ℕ) (s d₀ : List ℕ) (at₀ : ℕ) (s₀ : List ℕ) : Type 0 where
  pub ends : at + length s ≡ at₀ + length s₀
  pub holds : sets d at s ≡ sets d₀ at₀ s₀
  pub long : length d ≡ length d₀

pub left_all : (d : List ℕ) (at : ℕ) (s : List ℕ) → Left d at s d at s
left_all d at s = record { ends = refl; holds = refl; long = refl }

pub left_same : {d s t d₀ s₀ : List ℕ} {at at₀ : ℕ} → s ≡ t → Left d at s d₀ at₀ s₀ → Left d at t d₀ at₀ s₀
left_same p l = rw p at l

pub left_more : {d e s t d₀ s₀ : List ℕ} {at r at₀ : ℕ} → Left d at (s ++ t) d₀ at₀ s₀ → Wrote d at s r e → Left e r t d₀ at₀ s₀
left_more {d} {e} {s} {t} {d₀} {s₀} {at} {r} {at₀} l w =
    record {
      ends = ap (λ (n : ℕ). n + length t) w.ends ∙ omega (arith, l.ends, length-append s t);
      holds = ap (λ (n : ℕ). sets e n t) w.ends ∙ ap (λ (x : List ℕ). sets x (at + length s) t) w.holds ∙ sym (sets_append s t d at) ∙ l.holds;
      long = wrote_length w ∙ l.long;
    }

pub left_room : (s t : List ℕ) {d d₀ s₀ : List ℕ} {at at₀ : ℕ} → Left d at (s ++ t) d₀ at₀ s₀ → at₀ + length s₀ ≤ length d₀ → at + length s ≤ length d
left_room s t {d} l h = omega (arith, l.ends, l.long, length-append s t)

pub left_done : {d s d₀ s₀ : List ℕ} {at at₀ : ℕ} → Left d at s d₀ at₀ s₀ → s ≡ [] → Wrote d₀ at₀ s₀ at d
left_done {d} {s} {d₀} {s₀} {at} {at₀} l p =
    let m : Left d at [] d₀ at₀ s₀ = left_same p l in record { ends = omega (arith, m.ends); holds = m.holds }

-- What was written from the first byte on is the answer, and the bytes after it.
pub wrote_all : {d e s : List ℕ} {r : ℕ} → Wrote d 0 s r e → length s ≤ length d → e ≡ s ++ drop (length s) d
wrote_all {d} {e} {s} w h = w.holds ∙ sets-eq s d 0 (rw (zero-add (length s)) h) ∙ rw (zero-add (length s))
