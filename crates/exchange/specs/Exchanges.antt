-- What a program does with the problem that it reads, for any answer in number n, place p and lines. Definitions alone.
use Rattle.std.specs.Prelude.{ℕ, ◌≤◌, true, List, [], ◌≡◌, length, take, Result, Ok, Err}
use Rattle.descriptor.specs.Answers.{failed_of}
use Rattle.notice.specs.Notices.{notice_of}
use Rattle.notice.specs.Told.{said}
use Rattle.outlet.specs.Puts.{taken_of, Puts}
use Rattle.intake.specs.declared.Filled.{Filled}
use Rattle.intake.specs.declared.Unread as intake
use Rattle.exchange.specs.declared.Worked.{Worked}
use Rattle.exchange.specs.declared.Served.{Served}

-- What there is to give back for a problem: number, place and lines.
pub record Gives : Type 0 where
  pub number : ℕ
  pub place : ℕ
  pub text : List ℕ

-- The lines stand whole at the start of the room.
pub record Works (n p : ℕ) (text out : List ℕ) (w : Worked) : Type 0 where
  pub number : w.given.number ≡ n
  pub place : w.given.place ≡ p
  pub lines : take w.end out ≡ text
  -- Both follow. They are what lending the part up to the end asks for.
  pub within : w.end ≤ length out
  pub counts : w.end ≡ length (take w.end out)

-- The problem is answered, in a room that then holds the lines.
pub record Answered (n p : ℕ) (text problem out : List ℕ) (r : Served) : Type 0 where
  pub told : r.notice ≡ notice_of n p problem
  pub lines : take r.end out ≡ text
  pub wrote : Puts (length text) r.taken

-- A read failed: nothing is worked, told or written.
pub record Unread (before after : List ℕ) (u : intake.Unread) : Type 0 where
  pub unread : failed_of u.last.got ≡ true
  pub kept : after ≡ before

-- What is given back is for the bytes that were read, which are those that the reads left at the start of the input; the room is given before and after.
abbrev pub Serves : (List ℕ → Gives) → List ℕ → List ℕ → List ℕ → Result Served intake.Unread → Type 0
Serves gives input before after (Ok s) =
    let problem : List ℕ = take s.filled.count input in
    Answered (gives problem).number (gives problem).place (gives problem).text problem after s
Serves gives input before after (Err u) = Unread before after u

-- How the problem was read; what was told of it, and what was written of a room.
abbrev pub reading_of : Result Served intake.Unread → Result Filled intake.Unread
reading_of (Ok s) = Ok s.filled
reading_of (Err u) = Err u

abbrev pub told_of : Result Served intake.Unread → List ℕ
told_of (Ok s) = said s.notice
told_of (Err u) = []

abbrev pub written_of : Result Served intake.Unread → List ℕ → List ℕ
written_of (Ok s) out = take (taken_of s.taken) (take s.end out)
written_of (Err u) out = []
