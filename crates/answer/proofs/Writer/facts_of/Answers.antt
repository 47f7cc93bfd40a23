use Rattle.std.proofs.Common.{◌≡◌, ℕ, ◌+◌, ◌^◌, ◌≤◌, ◌<◌, List, ◌++◌, length, sym, ap, ◌∙◌, arith}
use borrow.Author.Tests.{eqb-true}
use Rattle.sets.specs.Bits.{removed, lowest, count}
use Rattle.sets.proofs.Bits.{not_empty, lowest_member, count_removed_lt}
use Rattle.answer.specs.Fields.{fact_field}
use Rattle.answer.specs.Facts.{fact_bytes_of}
use Rattle.answer.proofs.Writing.{Left, left_same, left_more, left_room, left_done, wrote_same}
use Rattle.answer.proofs.Fields.{length_fact_field}
use Rattle.answer.proofs.Facts.{fact_bytes_of_none, fact_bytes_of_lowest}
use Rattle.answer.proofs.Writer.facts_of.Goals as goal

-- In a turn: of the atoms that are left the lowest is written, and there is room for it.
module _ (X w : ℕ) (some : 0 < w) (h : w < 2 ^ 32) where
  falls : count (removed w (lowest 32 w)) < count w
  falls = count_removed_lt w (lowest 32 w) (lowest_member 32 w some h)

  module _ {d d₀ s₀ : List ℕ} {e at : ℕ} (left : Left d e (fact_bytes_of X w) d₀ at s₀) where
    lowest_left : Left d e (fact_field (lowest 32 w, X) ++ fact_bytes_of X (removed w (lowest 32 w))) d₀ at s₀
    lowest_left = left_same (fact_bytes_of_lowest X w some h) left

    lowest_room : at + length s₀ ≤ length d₀ → e + 5 ≤ length d
    lowest_room r =
        let room : e + length (fact_field (lowest 32 w, X)) ≤ length d = left_room _ _ lowest_left r in omega (arith, length_fact_field (lowest 32 w, X))

pub fact-requires : goal.fact-requires
fact-requires c =
    let some = not_empty _ (sym c.is_empty.ensures ∙ c.loop-x-test.true) in
    lowest_room c.args.x.0 c.loop-x.rest.0 some c.loop-x.invariant.1 c.loop-x.invariant.2 c.requires

pub loop-x-smaller : goal.loop-x-smaller
loop-x-smaller c =
    let some = not_empty _ (sym c.is_empty.ensures ∙ c.loop-x-test.true) in
    rw c.without_lowest-rest.ensures (falls c.args.x.0 c.loop-x.rest.0 some c.loop-x.invariant.1)

pub loop-x-preserved : goal.loop-x-preserved
loop-x-preserved c =
    let some = not_empty _ (sym c.is_empty.ensures ∙ c.loop-x-test.true) in
    let written = wrote_same (ap (λ (a : ℕ). fact_field (a, c.args.x.0)) c.lowest.ensures) c.fact.ensures.wrote in
    let left = left_more (lowest_left c.args.x.0 c.loop-x.rest.0 some c.loop-x.invariant.1 c.loop-x.invariant.2) written in (
      c.fact.ensures.same ∙ c.loop-x.invariant.0,
      omega arith,
      left_same (ap (fact_bytes_of c.args.x.0) (sym c.without_lowest-rest.ensures)) left,
    )

pub returns : goal.returns
returns c =
    let none : c.loop-x.rest.0 ≡ 0 = eqb-true _ _ (sym c.is_empty.ensures ∙ c.loop-x-test.false) in
    record {
      same = c.loop-x.invariant.0;
      wrote = left_done c.loop-x.invariant.2 (ap (fact_bytes_of c.args.x.0) none ∙ fact_bytes_of_none c.args.x.0);
    }
