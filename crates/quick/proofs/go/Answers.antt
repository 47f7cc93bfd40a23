-- `go` meets its contract: each turn's steps carry the run on, and one that takes none ends the loop.
use native.Mathlib.Omega.{arith}
use Rattle.quick.proofs.Descending.{onward_some}
use Rattle.quick.proofs.go.Goals as goal

pub loop-went-smaller : goal.loop-went-smaller
loop-went-smaller c =
    let later = onward_some c.down-went.ensures.carried (onward_some c.loop-went.invariant.0 c.requires.some_going) in
    omega (arith, c.down-went.ensures.carried.more, later.going.within, c.if-went-before.false)
