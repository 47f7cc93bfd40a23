-- What is handed out to be written, what a turn means for the stream, and how the stream ends. Definitions alone.
use Rattle.std.specs.Prelude.{ℕ, ◌≡◌, List, [], length, take, Result, Ok, Err}
use Rattle.descriptor.specs.declared.Answer.{Answer}
use Rattle.intake.specs.declared.Filled.{Filled}
use Rattle.outlet.specs.declared.Taken.{Taken}
use Rattle.outlet.specs.declared.Unwritten as outlet
use Rattle.outlet.specs.Puts.{Puts}
use Rattle.printer.specs.Lines.{cut_line}
use Rattle.frames.specs.declared.Stop.{Stop}
use Rattle.frames.specs.declared.Stop.TheVariants as stop
use Rattle.standing.specs.declared.Turn.{Turn}
use Rattle.standing.specs.declared.Ending.{Ending}
use Rattle.standing.specs.declared.Ending.TheVariants.{Through, Cut, Unreadable, Unwritten}

-- A text was handed out to be written: it stands at the front of the lent bytes, and `taken` tells how much of it was taken.
pub record Handed (text out : List ℕ) (taken : Result Taken outlet.Unwritten) : Type 0 where
  pub stands : take (length text) out ≡ text
  pub puts : Puts (length text) taken

-- After a problem whose block was written so, the stream goes on, or ends as unwritten.
abbrev pub standing_of : Filled → Result Taken outlet.Unwritten → Result Taken Ending
standing_of filled (Ok taken) = Ok taken
standing_of filled (Err unwritten) = Err (Unwritten filled unwritten)

-- After a cut whose line was written so, it ends as cut, or as unwritten.
abbrev pub cut_of : Filled → Result Taken outlet.Unwritten → Ending
cut_of filled (Ok taken) = Cut filled taken
cut_of filled (Err unwritten) = Unwritten filled unwritten

-- What is written after the block of a turn: the line of a cut.
abbrev pub said_of : ℕ → Result Turn Stop → List ℕ
said_of count (Ok turn) = []
said_of count (Err (stop.End filled)) = []
said_of count (Err (stop.Cut filled)) = cut_line count
said_of count (Err (stop.Unreadable unread)) = []

-- How many bytes the last writing took: the block's, or that of a cut's line, or none.
abbrev pub written_of : Result Taken Ending → ℕ
written_of (Ok taken) = taken.count
written_of (Err (Through filled)) = 0
written_of (Err (Cut filled taken)) = taken.count
written_of (Err (Unreadable unread)) = 0
written_of (Err (Unwritten filled unwritten)) = unwritten.count

-- What a turn means for the stream after so many problems; the lent bytes are those before and after.
abbrev pub Settled : ℕ → List ℕ → List ℕ → Result Turn Stop → Result Taken Ending → Type 0
Settled count out after (Ok turn) r = (r ≡ standing_of turn.frame.filled turn.taken) × (after ≡ out)
Settled count out after (Err (stop.End filled)) r = r ≡ Err (Through filled)
Settled count out after (Err (stop.Cut filled)) r =
    (taken : Result Taken outlet.Unwritten) × Handed (cut_line count) after taken × (r ≡ Err (cut_of filled taken))
Settled count out after (Err (stop.Unreadable unread)) r = r ≡ Err (Unreadable unread)

-- What the last read answered: of a turn, and of an ending.
abbrev pub read_of : Result Turn Stop → Answer
read_of (Ok turn) = turn.frame.filled.last
read_of (Err (stop.End filled)) = filled.last
read_of (Err (stop.Cut filled)) = filled.last
read_of (Err (stop.Unreadable unread)) = unread.last

abbrev pub ended_by : Ending → Answer
ended_by (Through filled) = filled.last
ended_by (Cut filled taken) = filled.last
ended_by (Unreadable unread) = unread.last
ended_by (Unwritten filled unwritten) = filled.last
