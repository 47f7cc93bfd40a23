-- What one turn of the stream does. Definitions alone.
use Rattle.std.specs.Prelude.{ℕ, List, [], length, take, Result, Ok, Err}
use Rattle.block.specs.Block.{block}
use Rattle.frames.specs.Came.{Told}
use Rattle.frames.specs.declared.Frame.{Frame}
use Rattle.frames.specs.declared.Stop.{Stop}
use Rattle.outlet.specs.Puts.{taken_of}
use Rattle.standing.specs.Settled.{Handed}
use Rattle.standing.specs.declared.Turn.{Turn}

-- How the problem came.
abbrev pub came_of : Result Turn Stop → Result Frame Stop
came_of (Ok turn) = Ok turn.frame
came_of (Err stop) = Err stop

-- What is written where a problem came so: the block of the bytes that were read, or nothing if it did not come whole; and how much of it was taken.
abbrev pub text_of : List ℕ → List ℕ → Result Turn Stop → List ℕ
text_of input output (Ok turn) = block (take turn.frame.size input) output
text_of input output (Err stop) = []

abbrev pub taken_by : Result Turn Stop → ℕ
taken_by (Ok turn) = taken_of turn.taken
taken_by (Err stop) = 0

-- The block is what was handed out to be written.
abbrev pub Hands : List ℕ → List ℕ → List ℕ → Result Turn Stop → Type 0
Hands input output out (Ok turn) = Handed (block (take turn.frame.size input) output) out turn.taken
Hands input output out (Err stop) = Unit {0}

-- One turn: what its reads left in the lent input, what the output held before it, and what is in the lent bytes after it.
pub record Turned (input output out : List ℕ) (r : Result Turn Stop) : Type 0 where
  pub told : Told (length input) (came_of r)
  pub wrote : Hands input output out r
