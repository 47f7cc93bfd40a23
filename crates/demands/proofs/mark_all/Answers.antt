use Rattle.std.proofs.Common.{◌≡◌, ℕ, arith, rules, sym, ◌∙◌, ap}
use borrow.Author.Tests.{eqb-true}
use Rattle.sets.specs.Bits.{removed, lowest, members, count}
use Rattle.sets.proofs.Bits.{not_empty, lowest_lt, lowest_member, count_removed_lt}
use Rattle.demands.specs.Demands.{line, line_marked, line_marked_all}
use Rattle.demands.proofs.Laws.{line_marked_none, line_marked_lowest, line_marked_rest}
use Rattle.demands.proofs.mark_all.Goals as goal

pub mark-requires : goal.mark-requires
mark-requires c =
    let some_left = not_empty _ (sym c.is_empty.ensures ∙ c.loop-rest-test.true) in
    let small = lowest_lt 32 _ some_left c.loop-rest.invariant.1 in
    (search rules, omega (arith, small, c.lowest.ensures), c.loop-rest.invariant.0)

-- The measure is how many atoms are left.
pub loop-rest-smaller : goal.loop-rest-smaller
loop-rest-smaller c =
    let left : ℕ = c.loop-rest.rest.0 in
    let some_left = not_empty _ (sym c.is_empty.ensures ∙ c.loop-rest-test.true) in
    let fewer = count_removed_lt left _ (lowest_member 32 left some_left c.loop-rest.invariant.1) in
    omega (arith, fewer, ap count c.without_lowest-rest.ensures)

-- Marking what is left now is marking what was left before the turn.
pub loop-rest-preserved : goal.loop-rest-preserved
loop-rest-preserved c =
    let i : ℕ = c.args.i in
    let k : ℕ = c.args.number in
    let left : ℕ = c.loop-rest.rest.0 in
    let row = line c.loop-rest.sets c.loop-rest.numbers in
    let after = line c.mark.new.sets c.mark.new.numbers in
    let some_left = not_empty _ (sym c.is_empty.ensures ∙ c.loop-rest-test.true) in
    let marked : after ≡ line_marked i k (lowest 32 left) row =
    c.mark.ensures ∙ ap (λ (b : ℕ). line_marked i k b row) c.lowest.ensures in (
      search rules,
      search rules,
      ap (λ (w : ℕ). line_marked_all i k (members 32 w) after) c.without_lowest-rest.ensures
          ∙ ap (line_marked_all i k (members 32 (removed left (lowest 32 left)))) marked
          ∙ sym (line_marked_lowest i k left row some_left c.loop-rest.invariant.1)
          ∙ c.loop-rest.invariant.2,
    )

pub returns : goal.returns
returns c =
    let a = c.args in
    let row_before = line a.sets.now a.numbers.now in
    let row = line c.loop-rest.sets c.loop-rest.numbers in
    let none_left : c.loop-rest.rest.0 ≡ 0 = eqb-true _ _ (sym c.is_empty.ensures ∙ c.loop-rest-test.false) in
    sym (line_marked_none a.i a.number row)
    ∙ ap (λ (w : ℕ). line_marked_all a.i a.number (members 32 w) row) (sym none_left)
    ∙ c.loop-rest.invariant.2
    ∙ ap (λ (w : ℕ). line_marked_all a.i a.number (members 32 w) row_before) c.minus-rest.ensures
    ∙ line_marked_rest a.i a.number a.atoms.0 row_before c.requires.0
