-- Where the words joined so far are nothing, each of them is.
use Rattle.std.proofs.Common.{◌≡◌, ℕ, ◌<◌, get_or}
use Rattle.visit.proofs.none_waits.Given as goal

abbrev pub invariant-loop-word : goal.invariant-loop-word
invariant-loop-word l = l.all ≡ 0 → (j : ℕ) → j < l.word-index → get_or l.late j 0 ≡ 0
