-- What the code tells of the fields behind the head and of a whole input, and what it leaves in the tables: the reader's contract. Definitions alone.
use Rattle.std.specs.Prelude.{ℕ, ◌≡◌, Bool, List, length, drop, Option, Some, None, Result, Ok, Err}
use Rattle.numbers.specs.Numbers.{given_of}
use Rattle.numbers.specs.declared.Given.{Given}
use Rattle.numbers.specs.declared.Refusal.{Refusal}
use Rattle.problem.specs.Problem.{Problem}
use Rattle.problem.specs.Reader.{Reading, read, unreadable, fields_from, reading, base_tags}
use Rattle.problem.specs.Readable.{Readable}
use Rattle.problem.specs.Held.{Held}
use Rattle.variables.specs.Variables.{VariablesKept}
use Rattle.problem.specs.Told.{all_in, counts_of}
use Rattle.problem.specs.declared.Counts.{Counts}
use Rattle.reader.specs.Tables.{ReaderTables, noted_from, left}
use Rattle.reader.specs.Noting.{started_by}

-- A problem is told by its numbers, a refusal by its number and place.
abbrev pub told : Reading → Result Counts Given
told (read p) = Ok (counts_of p)
told (unreadable n o) = Err (record { number = n; place = o })

-- So is what the code gives back; and of the field at an offset, where 0 says that it has no fault.
abbrev pub told_by : Result Counts Refusal → Result Counts Given
told_by (Ok c) = Ok c
told_by (Err r) = Err (given_of r)

abbrev pub refused_by : ℕ → Option Refusal → Given
refused_by o None = record { number = 0; place = o }
refused_by o (Some r) = given_of r

-- The tables hold the problem, with its protected variables as a set, and of each node the set of its variables.
abbrev pub HeldIn : List ℕ → ReaderTables → Problem → Type 0
HeldIn s t p = Held s t.places t.assumed (all_in 0 p.protected) p × VariablesKept p.nodes t.variables

-- All the fields from offset o on: their reading, and what it leaves in the tables.
abbrev pub read_on : (ℕ → Bool) → Problem → ℕ → List ℕ → Reading
read_on known p o s = fields_from known (length s) p o s

abbrev pub note_on : (ℕ → Bool) → Problem → ℕ → List ℕ → ReaderTables → ReaderTables
note_on known p o s t = noted_from known (length s) p o s t

-- The fields behind the head: the answer and the whole content of the tables are the definition's, and what the tables hold of the input is more by what
-- the fields say.
pub record FieldsRead (s : List ℕ) (head : Counts) (before : ReaderTables) (r : Result Counts Refusal) (after : ReaderTables) : Type 0 where
  pub the_answer : told_by r ≡ told (read_on base_tags (started_by head) 9 (drop 9 s))
  pub the_tables : after ≡ note_on base_tags (started_by head) 9 (drop 9 s) before
  pub is_held : (p : Problem) → HeldIn s before (started_by head) → read_on base_tags (started_by head) 9 (drop 9 s) ≡ read p → HeldIn s after p

-- The reader's contract: its answer, and the whole content of the tables, are the definition's, for every input and whatever the tables held before; and the
-- tables that it leaves hold the problem, if there is one.
pub record ReadAs (s : List ℕ) (before : ReaderTables) (r : Result Counts Refusal) (after : ReaderTables) : Type 0 where
  pub the_answer : told_by r ≡ told (reading base_tags s)
  pub the_tables : after ≡ left base_tags s before
  pub is_readable : (p : Problem) → reading base_tags s ≡ read p → Readable p
  pub is_held : (p : Problem) → reading base_tags s ≡ read p → HeldIn s after p
