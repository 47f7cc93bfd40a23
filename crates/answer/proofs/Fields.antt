-- The laws of an answer's fields: the definition's answer is made of them, how long each is, and the parts in which the code writes each.
use Prim.Native.Nat.{ℕ, ◌+◌, ◌/◌, ◌%◌}
use native.Mathlib.Omega.{arith}
use mathlib.Core.Path.{◌≡◌, refl, ap}
use mathlib.Core.List.{List, [], ◌∷◌, ◌++◌}
use mir.Syntax.{w16, w32}
use lib.ListN.{length}
use Rattle.std.specs.Int.{to_be_bytes}
use Rattle.field.specs.Field.{bytes2, bytes4, field_bytes}
use Rattle.run.specs.Meaning.{Binding, Fact}
use Rattle.run.specs.Answer.{binding_bytes, fact_bytes, answer_bytes}
use Rattle.answer.specs.Fields.{steps_field, binding_field, fact_field}

-- ---- the definition's answer

pub binding_bytes_none : binding_bytes [] ≡ []
unfolding binding_bytes
binding_bytes_none = refl

pub binding_bytes_first : (b : Binding) (bs : List Binding) → binding_bytes (b ∷ bs) ≡ binding_field b ++ binding_bytes bs
unfolding binding_bytes binding_field
binding_bytes_first b bs = refl

pub fact_bytes_none : fact_bytes [] ≡ []
unfolding fact_bytes
fact_bytes_none = refl

pub fact_bytes_first : (f : Fact) (fs : List Fact) → fact_bytes (f ∷ fs) ≡ fact_field f ++ fact_bytes fs
unfolding fact_bytes fact_field
fact_bytes_first f fs = refl

pub answer_fields : (steps : ℕ) (bs : List Binding) (fs : List Fact) → steps_field steps ++ binding_bytes bs ++ fact_bytes fs ≡ answer_bytes steps bs fs
unfolding answer_bytes steps_field
answer_fields steps bs fs = refl

-- ---- lengths

pub length_two : (n : ℕ) → length (bytes2 n) ≡ 2
unfolding bytes2
length_two n = refl

pub length_steps_field : (steps : ℕ) → length (steps_field steps) ≡ 7
unfolding steps_field field_bytes bytes4 bytes2
length_steps_field steps = refl

pub length_binding_field : (b : Binding) → length (binding_field b) ≡ 6 + length b.value.images
unfolding binding_field field_bytes bytes2
length_binding_field b = omega arith

pub length_fact_field : (f : Fact) → length (fact_field f) ≡ 5
unfolding fact_field field_bytes bytes2
length_fact_field f = refl

-- ---- the parts in which a field is written

pub two_bytes : (n : ℕ) → to_be_bytes w16 n ≡ bytes2 n
unfolding bytes2
two_bytes n = refl

pub four_bytes : (n : ℕ) → to_be_bytes w32 n ≡ bytes4 n
unfolding bytes4 bytes2
four_bytes n =
    let high : n / 16777216 % 256 ≡ n / 65536 / 256 % 256 = omega arith in ap (λ (x : ℕ). x ∷ n / 65536 % 256 ∷ n / 256 % 256 ∷ n % 256 ∷ []) high

pub steps_parts : (n : ℕ) → (0x4E ∷ bytes2 4) ++ bytes4 n ≡ steps_field n
unfolding steps_field field_bytes bytes4 bytes2
steps_parts n = refl

pub binding_parts : (b : Binding) (n : ℕ) → length b.value.images ≡ n
    → (0x40 ∷ bytes2 (3 + n)) ++ (b.variable ∷ []) ++ bytes2 b.value.node ++ b.value.images ≡ binding_field b
unfolding binding_field field_bytes bytes2
binding_parts b n l =
    let body = b.variable ∷ bytes2 b.value.node ++ b.value.images in
    let long : 3 + n ≡ length body = omega arith in
    ap (λ (k : ℕ). (0x40 ∷ bytes2 k) ++ body) long

pub fact_parts : (f : Fact) → (0x41 ∷ bytes2 2) ++ (f.0 ∷ f.1 ∷ []) ≡ fact_field f
unfolding fact_field field_bytes bytes2
fact_parts f = refl
