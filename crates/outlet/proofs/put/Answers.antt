-- What a write took is the front of what was left, and stands after what was taken before.
use Rattle.std.proofs.Common.{◌≡◌, ℕ, ◌+◌, ◌-◌, ◌≤◌, List, ◌++◌, arith, length, take, drop, sym, ap, ◌∙◌, subst, le_refl}
use Rattle.std.specs.Io.KnownBytes.{Appends}
use Rattle.std.proofs.KnownBytes.{Appends-trans}
use borrow.Rule.Slice.PartMut.{mid_of, mid_len}
use lib.Seq.{take-add, take-take}
use Rattle.descriptor.specs.Answers.{moved_of}
use Rattle.descriptor.proofs.Turns.{goes_on, no_more}
use Rattle.outlet.proofs.put.Goals as goal

front-mid : (a k n : ℕ) (xs : List ℕ) → n ≤ k → take a xs ++ take n (mid_of a k xs) ≡ take (a + n) xs
front-mid a k n xs fits = ap (λ l. take a xs ++ l) (take-take n k (drop a xs) fits) ∙ sym (take-add a n xs)

pub loop-count-preserved : goal.loop-count-preserved
loop-count-preserved g c =
    let done = c.loop-count.count in
    let buf = c.args.buf.now in
    let more = c.moved-count.result in
    let k = length buf - done in
    let long = mid_len done (length buf) buf (le_refl (length buf)) in
    let most : moved_of c.write-last.result.got ≤ length (mid_of done k buf) = no_more _ c.write-last.result.got c.write-last.ensures.moved in
    let fits : more ≤ k = omega (arith, c.moved-count.ensures) in
    let asked = c.write-last.ensures.asked_value in
    let (within, reached) =
    goes_on (length buf) done more c.write-last.result (omega arith) (omega (arith, asked)) (omega (arith, asked)) c.moved-count.ensures in
    record {
      within = within;
      reached = reached;
      bytes = subst (Appends _ _) (ap (λ n. take done buf ++ take n (mid_of done k buf)) (sym c.moved-count.ensures) ∙ front-mid done k more buf fits)
          (Appends-trans _ _ _ _ _ c.loop-count.invariant.bytes c.write-last.ensures.bytes);
    }
