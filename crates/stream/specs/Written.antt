-- What a stream writes in all. Definitions alone.
use Rattle.std.specs.Prelude.{ℕ, ◌≡◌, ◌<◌, ◌⊎◌, List, [], ◌∷◌, ◌++◌, Option, Result, Ok, Err, length, take}
use Rattle.std.specs.Io.KnownBytes.{Appends}
use Rattle.block.specs.Block.{block}
use Rattle.frames.specs.declared.Stop.TheVariants as stop
use Rattle.standing.specs.Settled.{said_of}
use Rattle.standing.specs.declared.Ending.{Ending}
use Rattle.standing.specs.declared.Ending.TheVariants.{Through, Cut, Unreadable, Unwritten}

-- The blocks of problems, one after the other; beside each problem stands what the lent output held before it.
unfoldable pub blocks : List (List ℕ × List ℕ) → List ℕ
blocks [] = []
blocks (p ∷ ps) = block p.0 p.1 ++ blocks ps

-- A text of which not everything was taken.
pub record IsPart (text bytes : List ℕ) : Type 0 where
  pub count : ℕ
  pub fewer : count < length text
  pub front : bytes ≡ take count text

-- What comes behind so many blocks: the line of a cut, which has their number; where a write failed, a part of one more block or of that line; else nothing.
abbrev pub Last : Result Unit Ending → ℕ → List ℕ → Type 0
Last (Ok u) count bytes = bytes ≡ []
Last (Err (Through filled)) count bytes = bytes ≡ []
Last (Err (Cut filled taken)) count bytes = bytes ≡ said_of count (Err (stop.Cut filled))
Last (Err (Unreadable unread)) count bytes = bytes ≡ []
Last (Err (Unwritten filled unwritten)) count bytes =
    IsPart (said_of count (Err (stop.Cut filled))) bytes ⊎ ((problem : List ℕ) × ((before : List ℕ) × IsPart (block problem before) bytes))

-- What was added to a writer that knows what it holds: whole blocks, and what comes behind them where the stream ends so.
pub record Wrote (old new : Option (List ℕ)) (r : Result Unit Ending) : Type 0 where
  pub problems : List (List ℕ × List ℕ)
  pub bytes : List ℕ
  pub written : Appends old new (blocks problems ++ bytes)
  pub last : Last r (length problems) bytes
