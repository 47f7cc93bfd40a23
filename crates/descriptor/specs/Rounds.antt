-- How a round of calls that was to move n bytes came to its end, from how many were moved and the last call's answer. Definitions alone.
use Rattle.std.specs.Prelude.{ℕ, ◌+◌, ◌≤◌, ◌<◌, ◌⊎◌, ◌≡◌}
use Rattle.descriptor.specs.Answers.{moved_of}
use Rattle.descriptor.specs.declared.Answer.{Answer}

-- All were moved: the last call moved all that it was asked to, and only where there was nothing to move was none made.
abbrev pub All : ℕ → ℕ → Answer → Type 0
All n count last = (count ≡ n) × ((n ≡ 0) ⊎ ((0 < last.asked) × ((last.asked ≤ n) × (moved_of last.got ≡ last.asked))))

-- The last call was asked to move all that was left, and moved nothing.
abbrev pub Stopped : ℕ → ℕ → Answer → Type 0
Stopped n count last = (count < n) × ((count + last.asked ≡ n) × (moved_of last.got ≡ 0))
