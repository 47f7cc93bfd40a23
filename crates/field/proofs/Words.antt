-- What the number in the first eight bytes has of them, and of a whole field at the front.
use Prim.Native.Nat.{ℕ, ◌+◌, ◌*◌, ◌-◌, ◌%◌, ◌≤◌, ◌<◌, ◌^◌}
use native.Mathlib.Omega.{arith}
use mathlib.Core.Path.{◌≡◌, sym, ◌∙◌, ap}
use mathlib.Core.List.{List, [], ◌∷◌}
use lib.ListN.{length, drop, get_or-eq_default}
use lib.Seq.{get_or-take, get_or-drop}
use Rattle.field.specs.Field.{whole, front, byte, Bytes, word, long, FieldStands}
use Rattle.field.specs.Word.{eight, tag_in, length_in, key_in, first_byte_in, second_byte_in, first_two_in, middle_two_in, last_two_in}
use Rattle.field.proofs.Standing.{stands}

-- ---- of bytes

module _ (s : List ℕ) (b : Bytes s) where
  pub eight_tag : tag_in (eight s) ≡ byte s 0
  unfolding eight
  eight_tag = omega (arith, b 1, b 2, b 3, b 4, b 5, b 6, b 7)

  pub eight_key : key_in (eight s) ≡ byte s 0 * 65536 + word s 1
  unfolding eight
  eight_key = omega (arith, b 3, b 4, b 5, b 6, b 7)

  pub eight_length : length_in (eight s) ≡ word s 1
  unfolding eight
  eight_length = omega (arith, b 1, b 2, b 3, b 4, b 5, b 6, b 7)

  pub eight_first_byte : first_byte_in (eight s) ≡ byte s 3
  unfolding eight
  eight_first_byte = omega (arith, b 3, b 4, b 5, b 6, b 7)

  pub eight_second_byte : second_byte_in (eight s) ≡ byte s 4
  unfolding eight
  eight_second_byte = omega (arith, b 4, b 5, b 6, b 7)

  pub eight_first_two : first_two_in (eight s) ≡ word s 3
  unfolding eight
  eight_first_two = omega (arith, b 3, b 4, b 5, b 6, b 7)

  pub eight_middle_two : middle_two_in (eight s) ≡ word s 4
  unfolding eight
  eight_middle_two = omega (arith, b 4, b 5, b 6, b 7)

  pub eight_last_two : last_two_in (eight s) ≡ word s 5
  unfolding eight
  eight_last_two = omega (arith, b 5, b 6, b 7)

-- ---- of a whole field at the front

-- A byte of the body, and two, stand three bytes on.
one_on : {s body rest : List ℕ} {tag : ℕ} → FieldStands s tag body rest → (i : ℕ) → i < length body → byte s (3 + i) ≡ byte body i
one_on {s} {body} w i h =
    sym (ap (λ x. byte x i) w.the_body ∙ (get_or-take (length body) (drop 3 s) i 0 h ∙ get_or-drop 3 s i 0))

module _ (s : List ℕ) {tag : ℕ} {body rest : List ℕ} (b : Bytes s) (e : front s ≡ whole tag body rest) where
  field_stands : FieldStands s tag body rest
  field_stands = stands s tag body rest e

  pub field_tag : tag_in (eight s) ≡ tag
  field_tag = eight_tag s b ∙ sym field_stands.the_tag

  pub field_length : length_in (eight s) ≡ length body
  field_length = eight_length s b ∙ sym field_stands.the_length

  pub field_key : key_in (eight s) ≡ tag * 65536 + length body
  field_key = omega (arith, eight_key s b, field_stands.the_tag, field_stands.the_length)

  pub field_first_byte : 1 ≤ length body → first_byte_in (eight s) ≡ byte body 0
  field_first_byte h = eight_first_byte s b ∙ one_on field_stands 0 (omega arith)

  pub field_second_byte : 2 ≤ length body → second_byte_in (eight s) ≡ byte body 1
  field_second_byte h = eight_second_byte s b ∙ one_on field_stands 1 (omega arith)

  pub field_first_two : 2 ≤ length body → first_two_in (eight s) ≡ word body 0
  field_first_two h = omega (arith, eight_first_two s b, one_on field_stands 0 (omega arith), one_on field_stands 1 (omega arith))

  pub field_middle_two : 3 ≤ length body → middle_two_in (eight s) ≡ word body 1
  field_middle_two h = omega (arith, eight_middle_two s b, one_on field_stands 1 (omega arith), one_on field_stands 2 (omega arith))

  pub field_last_two : 4 ≤ length body → last_two_in (eight s) ≡ word body 2
  field_last_two h = omega (arith, eight_last_two s b, one_on field_stands 2 (omega arith), one_on field_stands 3 (omega arith))

-- ---- fewer than eight bytes

-- Of the last four, moved up, what goes over is among the first four.
pub few_joined : (s : List ℕ) → Bytes s → 4 ≤ length s → length s < 8
    → long s 0 * 4294967296 + long s (length s - 4) * 2 ^ (8 * (8 - length s)) % 2 ^ 64 % 4294967296 ≡ eight s
unfolding eight
few_joined [] b h few = absurd (omega arith)
few_joined (x ∷ []) b h few = absurd (omega arith)
few_joined (x ∷ y ∷ []) b h few = absurd (omega arith)
few_joined (x ∷ y ∷ z ∷ []) b h few = absurd (omega arith)
few_joined (x ∷ y ∷ z ∷ u ∷ []) b h few = omega (arith, b 0, b 1, b 2, b 3)
few_joined (x ∷ y ∷ z ∷ u ∷ v ∷ []) b h few = omega (arith, b 1, b 2, b 3, b 4)
few_joined (x ∷ y ∷ z ∷ u ∷ v ∷ w ∷ []) b h few = omega (arith, b 2, b 3, b 4, b 5)
few_joined (x ∷ y ∷ z ∷ u ∷ v ∷ w ∷ q ∷ []) b h few = omega (arith, b 3, b 4, b 5, b 6)
few_joined (x ∷ y ∷ z ∷ u ∷ v ∷ w ∷ q ∷ p ∷ s) b h few = absurd (omega arith)

-- Three bytes and no more.
pub fewest_joined : (s : List ℕ) → length s < 4 → byte s 0 * 72057594037927936 + byte s 1 * 281474976710656 + byte s 2 * 1099511627776 ≡ eight s
unfolding eight
fewest_joined s h =
    let none : (i : ℕ) → 3 ≤ i → byte s i ≡ 0 = λ i k. get_or-eq_default s 0 {n = i} (omega arith) in
    omega (arith, none 3 (omega arith), none 4 (omega arith), none 5 (omega arith), none 6 (omega arith), none 7 (omega arith))
