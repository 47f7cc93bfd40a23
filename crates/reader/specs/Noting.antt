-- How the code notes what a field says: what it counts, and what it has to find in the tables for it. Definitions alone.
use Rattle.std.specs.Prelude.{ℕ, ◌+◌, ◌≤◌, ◌<◌, ◌≡◌, length, Result, Ok, Err}
use Rattle.sets.specs.Bits.{inserted}
use Rattle.problem.specs.Problem.{Problem}
use Rattle.problem.specs.Reader.{started}
use Rattle.problem.specs.Readable.{Readable}
use Rattle.problem.specs.Told.{counts_of}
use Rattle.reader.specs.Tables.{ReaderTables}
use Rattle.problem.specs.declared.Counts.{Counts}
use Rattle.says.specs.declared.Said.{Said}
use Rattle.says.specs.declared.Said.TheVariants.{Node, Equation, Freshness, Assumption, Protection}
use Rattle.numbers.specs.declared.Reason.{Reason}

-- A problem's numbers with these of its fields, and these variables protected.
abbrev pub with : Counts → ℕ → ℕ → ℕ → ℕ → Counts
with c nodes equations freshness protected =
    record {
      atoms = c.atoms;
      variables = c.variables;
      limit = c.limit;
      nodes = nodes;
      equations = equations;
      freshness = freshness;
      protected = record { 0 = protected };
    }

-- What a field says is counted. That the numbers are then those of the problem with the field is a law (proofs/Onward.antt).
abbrev pub counted : Result Said Reason → Counts → Counts
counted (Ok Node) c = with c (c.nodes + 1) c.equations c.freshness c.protected.0
counted (Ok Equation) c = with c c.nodes (c.equations + 1) c.freshness c.protected.0
counted (Ok Freshness) c = with c c.nodes c.equations (c.freshness + 1) c.protected.0
counted (Ok (Assumption a X)) c = c
counted (Ok (Protection X)) c = with c c.nodes c.equations c.freshness (inserted 64 c.protected.0 X.0)
counted (Err r) c = c

-- The tables have a row for it.
abbrev pub RowFor : Result Said Reason → Counts → ReaderTables → Type 0
RowFor (Ok Node) c t = (c.nodes < length t.places) × (c.nodes < length t.variables)
RowFor (Ok Equation) c t = 512 + c.equations < length t.places
RowFor (Ok Freshness) c t = 576 + c.freshness < length t.places
RowFor (Ok (Assumption a X)) c t = X.0 < length t.assumed
RowFor (Ok (Protection X)) c t = Unit {0}
RowFor (Err r) c t = Unit {0}

-- The problem that has a head and nothing else yet.
abbrev pub started_by : Counts → Problem
started_by c = started c.atoms c.variables c.limit

-- At the start: nothing is counted yet, the head is within the limits, and the input has the head and no more bytes than an input may have.
pub record Headed (bytes : ℕ) (head : Counts) : Type 0 where
  pub nothing : head ≡ counts_of (started_by head)
  pub readable : Readable (started_by head)
  pub nine : 9 ≤ bytes
  pub short : bytes ≤ 65535
