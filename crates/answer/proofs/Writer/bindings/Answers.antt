use Rattle.std.proofs.Common.{ℕ, ◌+◌, ◌≤◌, ◌<◌, List, ◌++◌, length, drop, ap, ◌∙◌, arith}
use Rattle.bindings.specs.Bindings.{Bindings, binding_tables, variable_at, binding_at, bindings_of, Keeps}
use Rattle.bindings.proofs.Laws.{keeps_few, keeps_variable}
use Rattle.run.specs.Answer.{binding_bytes}
use Rattle.answer.specs.Fields.{binding_field}
use Rattle.answer.proofs.Writing.{Left, left_same, left_more, left_room, left_done, wrote_same}
use Rattle.answer.proofs.Answer.{length_binding, bytes_at, bytes_past}
use Rattle.answer.proofs.Writer.bindings.Goals as goal

-- In a turn: the next binding and those after it are left, and there is room for it.
module _ (A : ℕ) (t : Bindings) (k bound : ℕ) (h : Keeps t.made k bound) (i : ℕ) (l : i < k) {d d₀ : List ℕ} {e at : ℕ}
    (left : Left d e (binding_bytes (drop i (bindings_of A t k))) d₀ at (binding_bytes (bindings_of A t k))) where
  next_left :
      Left d e (binding_field (binding_at A t (variable_at t.made i)) ++ binding_bytes (drop (i + 1) (bindings_of A t k))) d₀ at
      (binding_bytes (bindings_of A t k))
  next_left = left_same (bytes_at A t k bound h i l) left

  next_room : at + length (binding_bytes (bindings_of A t k)) ≤ length d₀ → e + (6 + A) ≤ length d
  next_room r =
      let room : e + length (binding_field (binding_at A t (variable_at t.made i))) ≤ length d = left_room _ _ next_left r in
      omega (arith, length_binding A t (variable_at t.made i))

pub variable_at-x-requires : goal.variable_at-x-requires
variable_at-x-requires c =
    let few : c.args.k ≤ 64 = keeps_few c.args.bindings.now.made.now c.args.k c.requires.0.0 c.requires.0.1 in
    (omega arith, keeps_variable c.args.bindings.now.made.now c.args.k c.requires.0.0 c.requires.0.1 c.loop-i.i c.loop-i-test.true)

pub binding-requires : goal.binding-requires
binding-requires c =
    let a = c.args in
    let t = binding_tables a.bindings.now.made.now a.bindings.now.values.now in (
      c.requires.1,
      omega (arith, c.variable_at-x.ensures, keeps_variable a.bindings.now.made.now a.k c.requires.0.0 c.requires.0.1 c.loop-i.i c.loop-i-test.true),
      next_room a.atoms t a.k c.requires.0.0 c.requires.0.1 c.loop-i.i c.loop-i-test.true c.loop-i.invariant.1 c.requires.2,
    )

pub loop-i-preserved : goal.loop-i-preserved
loop-i-preserved c =
    let a = c.args in
    let t = binding_tables a.bindings.now.made.now a.bindings.now.values.now in (
      c.binding.ensures.same ∙ c.loop-i.invariant.0,
      left_more (next_left a.atoms t a.k c.requires.0.0 c.requires.0.1 c.loop-i.i c.loop-i-test.true c.loop-i.invariant.1)
          (wrote_same (ap (λ (X : ℕ). binding_field (binding_at a.atoms t X)) c.variable_at-x.ensures) c.binding.ensures.wrote),
    )

pub returns : goal.returns
returns c =
    let t = binding_tables c.args.bindings.now.made.now c.args.bindings.now.values.now in
    record {
      same = c.loop-i.invariant.0;
      wrote = left_done c.loop-i.invariant.1 (bytes_past c.args.atoms t c.args.k c.requires.0.0 c.requires.0.1 c.loop-i.i c.loop-i-test.false);
    }
