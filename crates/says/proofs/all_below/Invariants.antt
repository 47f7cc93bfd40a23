-- The greatest byte so far and those that are left decide as all of them do.
use Rattle.std.proofs.Common.{◌≡◌, ◌&&◌, ltb, drop}
use Rattle.says.specs.Told.{below}
use Rattle.says.proofs.all_below.Given as goal

abbrev pub invariant-loop-a : goal.invariant-loop-a
invariant-loop-a l = ltb 0 l.atoms && below l.atoms l.b ≡ ltb l.most l.atoms && below l.atoms (drop l.a-index l.b)
