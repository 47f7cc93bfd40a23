-- How the next problem of a stream came, and what tells it. Definitions alone.
use Rattle.std.specs.Prelude.{ℕ, ◌≤◌, ◌<◌, ◌≡◌, ◌⊎◌, Result, Ok, Err, cond, eqb}
use Rattle.intake.specs.declared.Filled.{Filled}
use Rattle.intake.specs.declared.Unread.{Unread}
use Rattle.intake.specs.Fills.{Fills}
use Rattle.frames.specs.declared.Frame.{Frame}
use Rattle.frames.specs.declared.Stop.{Stop}
use Rattle.frames.specs.declared.Stop.TheVariants.{End, Cut, Unreadable}

-- How many of the lent bytes are the problem.
abbrev pub bytes_of : Result Frame Stop → ℕ
bytes_of (Ok f) = f.size
bytes_of (Err s) = 0

-- What came of the last reading.
abbrev pub reading_of : Result Frame Stop → Result Filled Unread
reading_of (Ok f) = Ok f.filled
reading_of (Err (End f)) = Ok f
reading_of (Err (Cut f)) = Ok f
reading_of (Err (Unreadable u)) = Err u

-- A problem came whole if all bytes that were wanted came, and these are the problem, or it fills the room. A failed read is neither an end nor a cut.
abbrev pub Tells : ℕ → ℕ → Result Frame Stop → Type 0
Tells room wanted (Ok f) = (f.filled.count ≡ wanted) × ((f.size ≡ wanted) ⊎ (f.size ≡ room))
Tells room wanted (Err (End f)) = (f.count ≡ 0) × (0 < wanted)
Tells room wanted (Err (Cut f)) = f.count < wanted
Tells room wanted (Err (Unreadable u)) = Unit {0}

-- How a problem came is what the last reading tells, of as many bytes as it wanted, and a problem lies within the room.
pub record Told (room : ℕ) (r : Result Frame Stop) : Type 0 where
  pub wanted : ℕ
  pub fills : Fills wanted (reading_of r)
  pub tells : Tells room wanted r
  pub within : bytes_of r ≤ room

-- A cut before the first byte of a length is an end.
abbrev pub at_start : Stop → Stop
at_start (End f) = End f
at_start (Cut f) = cond (eqb f.count 0) (End f) (Cut f)
at_start (Unreadable u) = Unreadable u
