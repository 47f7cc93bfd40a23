-- What a call answered, and which errors pass. Definitions alone.
use Rattle.std.specs.Prelude.{ℕ, ◌≤◌, Bool, true, false, cond, eqb, ℤ, pos, negsuc, Result, Ok, Err}
use Rattle.descriptor.specs.declared.Fault.{Fault}
use Rattle.descriptor.specs.declared.Fault.TheVariants.{Interrupted, Busy, Lasting}

-- What a call that is handed n bytes may answer: why it failed, or how many bytes it moved, at most n.
abbrev pub Moved : ℕ → Result ℕ ℤ → Type 0
Moved n (Ok k) = k ≤ n
Moved n (Err e) = Unit {0}

-- How many bytes were moved: none where the call failed.
abbrev pub moved_of : Result ℕ ℤ → ℕ
moved_of (Ok k) = k
moved_of (Err e) = 0

abbrev pub failed_of : Result ℕ ℤ → Bool
failed_of (Ok k) = false
failed_of (Err e) = true

-- Why a call failed, and 0 where it did not.
abbrev pub error_of : Result ℕ ℤ → ℤ
error_of (Ok k) = pos 0
error_of (Err e) = e

-- 4 is EINTR, 11 is EAGAIN.
abbrev pub fault_of : ℤ → Fault
fault_of (pos k) = cond (eqb k 4) Interrupted (cond (eqb k 11) Busy Lasting)
fault_of (negsuc k) = Lasting

abbrev pub passes : Fault → Bool
passes Interrupted = true
passes Busy = true
passes Lasting = false

-- A call is made again exactly if it failed, and its fault passes.
abbrev pub tries_again : Result ℕ ℤ → Bool
tries_again (Ok k) = false
tries_again (Err e) = passes (fault_of e)
