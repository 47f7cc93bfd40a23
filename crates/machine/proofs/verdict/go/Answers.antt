-- `go` meets its contract: what is left of the run from each state that it comes to is what the whole run ends with.
use native.Mathlib.Omega.{arith}
use borrow.Author.Rules.{rules}
use Rattle.machine.proofs.Running.{going_start, going_quick, going_few, going_done, going_present, going_limit, going_refused, going_next}
use Rattle.machine.proofs.verdict.go.Goals as goal

pub loop-state-init : goal.loop-state-init
loop-state-init c = (going_start c.requires, search rules)

-- ---- no equation is left

pub returns-then-state-eq0-clause-ended : goal.returns-then-state-eq0-clause-ended
returns-then-state-eq0-clause-ended c =
    going_done c.requires.footing (going_quick c.shown-bindings.ensures c.go-went.ensures.carried c.loop-state.invariant.0) c.if-state-eq0.true

-- ---- the top is taken

pub top-e-requires : goal.top-e-requires
top-e-requires c =
    let going = going_quick c.shown-bindings.ensures c.go-went.ensures.carried c.loop-state.invariant.0 in
    omega (arith, going_few c.requires.footing going, c.if-state-eq0.false)

pub returns-then-limit-steps-clause-ended : goal.returns-then-limit-steps-clause-ended
returns-then-limit-steps-clause-ended c =
    let going = going_quick c.shown-bindings.ensures c.go-went.ensures.carried c.loop-state.invariant.0 in
    rw (c.refuse.ensures, c.from-place.ensures)
    (going_limit c.requires.footing going c.if-state-eq0.false c.top-e.ensures c.if-limit-steps.true)

-- ---- a step: it refuses, or the loop goes on

pub step-requires : goal.step-requires
step-requires c =
    let going = going_quick c.shown-bindings.ensures c.go-went.ensures.carried c.loop-state.invariant.0 in
    going_present c.requires.footing going c.if-state-eq0.false c.top-e.ensures

pub returns-in-Err-clause-ended : goal.returns-in-Err-clause-ended
returns-in-Err-clause-ended c =
    let going = going_quick c.shown-bindings.ensures c.go-went.ensures.carried c.loop-state.invariant.0 in
    rw (c.refuse-in-Err.ensures, c.from-place.ensures)
    (going_refused c.requires.footing going c.if-state-eq0.false c.top-e.ensures c.if-limit-steps.false _ _ c.in-Err.ensures.performed)

pub loop-state-preserved : goal.loop-state-preserved
loop-state-preserved c =
    let going = going_quick c.shown-bindings.ensures c.go-went.ensures.carried c.loop-state.invariant.0 in
    (going_next c.requires.footing going c.if-state-eq0.false c.top-e.ensures c.if-limit-steps.false _ _ c.in-Ok.ensures.performed, search rules)
