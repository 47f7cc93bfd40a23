-- What writing n bytes gives back, tied to what the last write answered. Definitions alone.
use Rattle.std.specs.Prelude.{ℕ, Result, Ok, Err}
use Rattle.descriptor.specs.Rounds.{All, Stopped}
use Rattle.outlet.specs.declared.Taken.{Taken}
use Rattle.outlet.specs.declared.Unwritten.{Unwritten}

-- How many bytes were taken, before a write that failed too.
abbrev pub taken_of : Result Taken Unwritten → ℕ
taken_of (Ok t) = t.count
taken_of (Err u) = u.count

-- All were taken; or the last write, of all that was left, took nothing or failed.
abbrev pub Puts : ℕ → Result Taken Unwritten → Type 0
Puts n (Ok t) = All n t.count t.last
Puts n (Err u) = Stopped n u.count u.last
