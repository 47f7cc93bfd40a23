-- The atoms that a value's images send into a set, atom by atom.
use Prim.Native.Nat.{ℕ, ◌+◌, ◌^◌, ◌<◌}
use native.Mathlib.Omega.{arith}
use native.Mathlib.Nat.{zero-add}
use native.Mathlib.Numerals.{add-one}
use mathlib.Core.Path.{◌≡◌, refl, sym, ◌∙◌, ap}
use mathlib.Core.Bool.{Bool, true, false, cond}
use lib.Pow.{pow-lt}
use Rattle.sets.specs.Bits.{member, union, inserted, set_of}
use Rattle.sets.proofs.Bits.{union_lt, inserted_within, member_inserted_same, member_inserted_other}
use Rattle.names.proofs.Equal.{by_eq}
use Rattle.visit.specs.Visited.{sent_into}
use Rattle.visit.proofs.Sent.{sent_lt, member_sent, sent_unique}

pub sent_none : (f : ℕ → ℕ) (w : ℕ) → 0 ≡ sent_into 0 f w
unfolding sent_into
sent_none f w = refl

module _ (i : ℕ) (f : ℕ → ℕ) (w : ℕ) where
  pub sent_with : i < 32 → member w (f i) ≡ true → inserted 32 (sent_into i f w) i ≡ sent_into (i + 1) f w
  sent_with h e =
      sent_unique (i + 1) f w (inserted 32 (sent_into i f w) i) (rw (inserted_within 32 (sent_into i f w) i h) small)
      λ x l. by_eq x i
      (λ q. rw q (member_inserted_same 32 (sent_into i f w) i h ∙ sym e))
      (λ d. member_inserted_other 32 (sent_into i f w) i x d ∙ member_sent i f w x (omega arith))
    where
      more : 2 ^ i < 2 ^ (i + 1)
      more = pow-lt (omega arith)

      small : union (sent_into i f w) (2 ^ i) < 2 ^ (i + 1)
      small = union_lt (i + 1) (sent_into i f w) (2 ^ i) (omega (arith, sent_lt i f w, more)) more

  pub sent_without : member w (f i) ≡ false → sent_into i f w ≡ sent_into (i + 1) f w
  unfolding sent_into
  sent_without e =
      let below = set_of (λ a. member w (f a)) i in
      sym (ap (set_of (λ a. member w (f a))) (add-one i) ∙ ap (λ (t : Bool). cond t (2 ^ i) 0 + below) e ∙ zero-add below)
