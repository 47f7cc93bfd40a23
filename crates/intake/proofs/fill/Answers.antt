-- What was read into the part stands after what was there before, and is what the reader gave.
use Rattle.std.proofs.Common.{◌≡◌, ℕ, ◌+◌, ◌-◌, ◌≤◌, List, ◌++◌, rules, arith, length, take, drop, sym, ap, ◌∙◌, subst, le_refl, drop_at, length-take-le}
use Rattle.std.proofs.lemmas.Slice.{take-put_mid_below}
use Rattle.std.specs.Io.KnownBytes.{Consumes}
use Rattle.std.proofs.KnownBytes.{Consumes-trans}
use borrow.Rule.Slice.PartMut.{mid_of, put_mid, post_of, same_len_mid, mid_len}
use lib.Seq.{take-add, take-append-le}
use Rattle.descriptor.specs.Answers.{moved_of}
use Rattle.descriptor.proofs.Turns.{goes_on, no_more}
use Rattle.intake.proofs.fill.Goals as goal

front-put_mid : (a k n : ℕ) (xs ys : List ℕ) → a ≤ length xs → n ≤ length ys → take a xs ++ take n ys ≡ take (a + n) (put_mid a k xs ys)
front-put_mid a k n xs ys within fits =
    let after = post_of a k xs in
    let all = put_mid a k xs ys in
    sym (take-add a n all
    ∙ ap (λ l. l ++ take n (drop a all)) (take-put_mid_below a k xs ys a (le_refl a) within)
    ∙ ap (λ l. take a xs ++ take n l) (drop_at (take a xs) (ys ++ after) a (length-take-le a xs within))
    ∙ ap (λ l. take a xs ++ l) (take-append-le n ys after fits))

pub loop-count-preserved : goal.loop-count-preserved
loop-count-preserved g c =
    let done = c.loop-count.count in
    let buf = c.loop-count.buf in
    let part = c.read-last.new.buf in
    let more = c.moved-count.result in
    let k = length buf - done in
    let same : length part ≡ length (mid_of done k buf) = search rules in
    let kept = same_len_mid done k buf part same in
    let long = mid_len done (length buf) buf (le_refl (length buf)) in
    let most : moved_of c.read-last.result.got ≤ length part = no_more (length part) c.read-last.result.got c.read-last.ensures.moved in
    let fits : more ≤ length part = omega (arith, c.moved-count.ensures) in
    let asked = c.read-last.ensures.asked_value in
    let (within, reached) =
    goes_on (length (put_mid done k buf part)) done more c.read-last.result (omega arith) (omega arith) (omega (arith, asked))
    c.moved-count.ensures in
    let front = front-put_mid done k more buf part c.loop-count.invariant.within fits in
    record {
      same_length = kept ∙ c.loop-count.invariant.same_length;
      within = within;
      reached = reached;
      bytes = subst (Consumes _ _) (ap (λ n. take done buf ++ take n part) (sym c.moved-count.ensures) ∙ front)
          (Consumes-trans _ _ _ _ _ c.loop-count.invariant.bytes c.read-last.ensures.bytes);
    }
