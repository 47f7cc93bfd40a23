-- What filling n bytes gives back, tied to what the last read answered. Definitions alone.
use Rattle.std.specs.Prelude.{ℕ, Result, Ok, Err, true, false, ◌⊎◌, ◌≡◌}
use Rattle.descriptor.specs.Answers.{failed_of}
use Rattle.descriptor.specs.Rounds.{All, Stopped}
use Rattle.intake.specs.declared.Filled.{Filled}
use Rattle.intake.specs.declared.Unread.{Unread}

-- How many bytes came, before a read that failed too.
abbrev pub came_of : Result Filled Unread → ℕ
came_of (Ok f) = f.count
came_of (Err u) = u.count

-- All came, or the last read gave nothing since the input has ended; or it failed.
abbrev pub Fills : ℕ → Result Filled Unread → Type 0
Fills n (Ok f) = All n f.count f.last ⊎ (Stopped n f.count f.last × (failed_of f.last.got ≡ false))
Fills n (Err u) = Stopped n u.count u.last × (failed_of u.last.got ≡ true)
