-- `down` meets its contract: each turn's step is the definition's, and what it leaves is on its way.
use native.Mathlib.Omega.{arith}
use borrow.Author.Rules.{rules}
use mathlib.Core.Path.{refl}
use Rattle.quick.proofs.Descending.{some_few, down_start, down_facing, down_waits, down_all, down_led, down_done, down_part, down_room, down_parts}
use Rattle.quick.proofs.down.Goals.{in-Part, in-Parts}
use Rattle.quick.proofs.down.Goals as goal

-- ---- the top

pub nodes_at-top-requires : goal.nodes_at-top-requires
nodes_at-top-requires c = omega (arith, c.requires.standing.2, some_few c.requires.standing.0 c.requires.some_going)

pub loop-steps-init : goal.loop-steps-init
loop-steps-init c = (down_start c.requires.standing c.requires.some_going c.nodes_at-top.ensures, search rules)

-- ---- a turn of the loop

pub through-i-requires : goal.through-i-requires
through-i-requires c = (c.loop-steps.invariant.0.standing, (down_facing c.loop-steps.invariant.0).left.there)

pub through-j-requires : goal.through-j-requires
through-j-requires c = (c.loop-steps.invariant.0.standing, (down_facing c.loop-steps.invariant.0).right.there)

pub meet-requires : goal.meet-requires
meet-requires c = down_led c.loop-steps.invariant.0 c.through-i.ensures c.through-j.ensures

-- ---- the equation is left, or no step more may be taken

pub wait-requires : goal.wait-requires
wait-requires c = (down_facing c.loop-steps.invariant.0).placed

pub wait-requires-2 : goal.wait-requires-2
wait-requires-2 c = (down_facing c.loop-steps.invariant.0).placed

pub returns-in-Leave-clause-carried : goal.returns-in-Leave-clause-carried
returns-in-Leave-clause-carried c =
    rw c.wait.ensures.images
    (down_waits c.loop-steps.invariant.0 c.in-Leave.ensures.meets (rw c.in-Leave.ensures.heads at c.wait.ensures.waits))

pub returns-clause-carried : goal.returns-clause-carried
returns-clause-carried c =
    let waits = rw (← (down_all c.loop-steps.invariant.0 c.loop-steps-test.false)) at c.wait-2.ensures.waits in
    rw c.wait-2.ensures.images (down_waits c.loop-steps.invariant.0 refl waits)

-- ---- it is done

pub returns-in-Done-clause-carried : goal.returns-in-Done-clause-carried
returns-in-Done-clause-carried c =
    rw c.in-Done.ensures.heads
    (down_done c.loop-steps.invariant.0 c.through-i.ensures c.through-j.ensures c.loop-steps-test.true c.in-Done.ensures.meets)

-- ---- it goes on with one part, or with two

pub split-requires : goal.split-requires
split-requires c = down_room c.loop-steps.invariant.0 c.through-i.ensures c.through-j.ensures c.loop-steps-test.true c.in-Parts.ensures.meets

pub overflow_add-n : goal.overflow_add-n
overflow_add-n c =
    omega (arith, down_room c.loop-steps.invariant.0 c.through-i.ensures c.through-j.ensures c.loop-steps-test.true c.in-Parts.ensures.meets)

pub loop-steps-preserved : goal.loop-steps-preserved
loop-steps-preserved c =
    elim c.match-meet.branch [
      | in-Part w ↦ (
        rw (w.stack-is, w.n-is, w.l-is, w.r-is, w.in-Part.ensures.heads)
            (down_part c.loop-steps.invariant.0 c.through-i.ensures c.through-j.ensures c.loop-steps-test.true w.in-Part.ensures.meets),
        search rules,
      )
      | in-Parts w ↦ (
        rw (w.stack-is, w.n-is, w.l-is, w.r-is)
            (down_parts c.loop-steps.invariant.0 c.through-i.ensures c.through-j.ensures c.loop-steps-test.true w.in-Parts.ensures.meets
            (rw w.in-Parts.ensures.heads at w.split.ensures.split)),
        search rules,
      )
    ]
