use Rattle.std.proofs.Common.{◌≡◌, ℕ, ◌+◌, ◌<◌, ◌≤◌, length, ◌∙◌, List, [], ◌∷◌, ◌++◌, drop, ap, add-one, arith}
use lib.ListN.{drop_of_length-le}
use lib.Seq.{drop-cons}
use Rattle.permutation.specs.Table.{image}
use Rattle.bindings.specs.Bindings.{images_of}
use Rattle.bindings.proofs.Laws.{length_images_of}
use Rattle.answer.proofs.Writing.{Left, left_room, left_same, left_more, left_done, wrote_same}
use Rattle.answer.proofs.Writer.images.Goals as goal

images_here : (n : ℕ) (values : List (List ℕ)) (X i : ℕ) → i < n
    → drop i (images_of n values X) ≡ (image (images_of n values X) i ∷ []) ++ drop (i + 1) (images_of n values X)
images_here n values X i h = rw (add-one i) (drop-cons (images_of n values X) i i (omega (arith, length_images_of n values X)))

left_next : {d d₀ s₀ t : List ℕ} {e at b : ℕ} → Left d e ((b ∷ []) ++ t) d₀ at s₀ → at + length s₀ ≤ length d₀ → e < length d
left_next {d} {e = e} {b = b} l r = let room : e + length (b ∷ []) ≤ length d = left_room (b ∷ []) _ l r in omega arith

pub put-requires : goal.put-requires
put-requires c =
    let here = images_here c.args.n c.args.bindings.now.values.now c.args.x.0 c.loop-i.i c.loop-i-test.true in
    left_next (left_same here c.loop-i.invariant.1) (omega (arith, length_images_of c.args.n c.args.bindings.now.values.now c.args.x.0))

pub loop-i-preserved : goal.loop-i-preserved
loop-i-preserved c = (
  c.put.ensures.same ∙ c.loop-i.invariant.0,
  left_more (left_same (images_here c.args.n c.args.bindings.now.values.now c.args.x.0 c.loop-i.i c.loop-i-test.true) c.loop-i.invariant.1)
      (wrote_same (ap (λ (b : ℕ). b ∷ []) c.image_of-a.ensures) c.put.ensures.wrote),
)

pub returns : goal.returns
returns c =
    let a = c.args in
    let images = images_of a.n a.bindings.now.values.now a.x.0 in
    record {
      same = c.loop-i.invariant.0;
      wrote =
          left_done c.loop-i.invariant.1
          (drop_of_length-le images {i = c.loop-i.i} (omega (arith, length_images_of a.n a.bindings.now.values.now a.x.0)));
    }
