-- The answer as a whole: its bindings' bytes one by one, how long it is, and what the lent output holds in the end.
use Prim.Native.Nat.{ℕ, zero, suc, ◌+◌, ◌*◌, ◌≤◌, ◌<◌}
use native.Mathlib.Nat.{zero-mul, suc-mul}
use native.Mathlib.Omega.{arith}
use mathlib.Core.Path.{◌≡◌, sym, ◌∙◌, ap}
use mathlib.Core.List.{List, [], ◌∷◌, ◌++◌, map}
use lib.ListN.{length, take, drop, length-map, length-append, drop_of_length-le}
use borrow.Author.Tests.{le-leb, lt-leb}
use Rattle.bindings.specs.Bindings.{Bindings, order_in, variable_at, binding_at, bindings_of, Keeps}
use Rattle.bindings.proofs.Laws.{keeps_few, length_images_of, length_bindings_of, bindings_of_at}
use Rattle.run.specs.Meaning.{Fact}
use Rattle.run.specs.Answer.{binding_bytes, fact_bytes, answer_bytes, written}
use Rattle.std.specs.Prelude.{Ok, Err}
use Rattle.numbers.specs.declared.Refusal.{Refusal}
use Rattle.numbers.specs.declared.Reason.TheVariants.{TooShort}
use Rattle.numbers.specs.Numbers.{result_of}
use Rattle.answer.specs.Written.{Wrote}
use Rattle.answer.specs.Fields.{steps_field, binding_field}
use Rattle.answer.proofs.Writing.{wrote_all}
use Rattle.run.proofs.Written.{length_fact_bytes}
use Rattle.answer.proofs.Fields.{binding_bytes_none, binding_bytes_first, answer_fields, length_steps_field, length_binding_field}

-- ---- the bindings' bytes

pub length_binding : (A : ℕ) (t : Bindings) (X : ℕ) → length (binding_field (binding_at A t X)) ≡ 6 + A
unfolding binding_at
length_binding A t X = length_binding_field (binding_at A t X) ∙ ap (λ (n : ℕ). 6 + n) (length_images_of A t.values X)

length_each : (A : ℕ) (t : Bindings) (l : List ℕ) → length (binding_bytes (map (binding_at A t) l)) ≡ length l * (6 + A)
length_each A t [] = ap length binding_bytes_none ∙ sym (zero-mul (6 + A))
length_each A t (X ∷ l) =
    let rest = binding_bytes (map (binding_at A t) l) in
    ap length (binding_bytes_first (binding_at A t X) (map (binding_at A t) l))
    ∙ length-append (binding_field (binding_at A t X)) rest
    ∙ omega (arith, length_binding A t X, length_each A t l, suc-mul (length l) (6 + A))

few : (k A : ℕ) → A ≤ 32 → k * (6 + A) ≤ 38 * k
few zero A h = rw (zero-mul (6 + A)) (omega arith)
few (suc k) A h = rw (suc-mul k (6 + A)) (omega (arith, few k A h))

module _ (A : ℕ) (t : Bindings) (k bound : ℕ) (h : Keeps t.made k bound) where
  -- The bytes from the binding after i others on.
  pub bytes_at : (i : ℕ) → i < k
      → binding_bytes (drop i (bindings_of A t k)) ≡ binding_field (binding_at A t (variable_at t.made i)) ++ binding_bytes (drop (i + 1) (bindings_of A t k))
  bytes_at i l = ap binding_bytes (bindings_of_at A t k bound h i l) ∙ binding_bytes_first _ (drop (i + 1) (bindings_of A t k))

  pub bytes_past : (i : ℕ) → k ≤ i → binding_bytes (drop i (bindings_of A t k)) ≡ []
  bytes_past i l =
      ap binding_bytes (drop_of_length-le (bindings_of A t k) {i = i} (rw (length_bindings_of A t k bound h) l)) ∙ binding_bytes_none

  pub length_bindings : length (binding_bytes (bindings_of A t k)) ≡ k * (6 + A)
  unfolding bindings_of
  length_bindings =
      let first = take k (order_in t.made) in
      length_each A t first ∙ ap (λ (n : ℕ). n * (6 + A)) (sym (length-map first (binding_at A t)) ∙ length_bindings_of A t k bound h)

  -- So no sum on the way to the length wraps.
  pub bindings_few : A ≤ 32 → k * (6 + A) ≤ 2432
  bindings_few l = omega (arith, keeps_few t.made k bound h, few k A l)

  -- The length wanted.
  pub length_answer : (steps : ℕ) (fs : List Fact) → length (answer_bytes steps (bindings_of A t k) fs) ≡ 7 + k * (6 + A) + 5 * length fs
  length_answer steps fs =
      let S = steps_field steps in
      let B = binding_bytes (bindings_of A t k) in
      ap length (sym (answer_fields steps (bindings_of A t k) fs))
      ∙ length-append (S ++ B) (fact_bytes fs)
      ∙ ap (λ (n : ℕ). n + length (fact_bytes fs)) (length-append S B)
      ∙ omega (arith, length_steps_field steps, length_bindings, length_fact_bytes fs)

-- ---- what is given back

pub written_whole : (answer d e : List ℕ) (r : ℕ) → Wrote d 0 answer r e → length answer ≤ length d → result_of (Ok r) e ≡ written answer d
unfolding written
written_whole answer d e r w h = let n : r ≡ length answer = omega (arith, w.ends) in rw (le-leb (length answer) (length d) h, n, wrote_all w h)

pub written_short : (answer d : List ℕ) (n : ℕ) {r : Refusal} → r ≡ record { reason = TooShort; place = n } → n ≡ length answer
    → length d < length answer → result_of (Err r) d ≡ written answer d
unfolding written
written_short answer d n e p h = rw (lt-leb (length answer) (length d) h, e, p)
