-- How a stream stops, from what came of the last reading.
use Rattle.std.proofs.Common.{ℕ, ◌≡◌, Result, Err, sym, subst, arith}
use Rattle.intake.specs.declared.Filled.{Filled}
use Rattle.intake.specs.declared.Unread.{Unread}
use Rattle.intake.specs.Fills.{Fills}
use Rattle.frames.specs.Came.{Told}
use Rattle.frames.specs.declared.Frame.{Frame}
use Rattle.frames.specs.declared.Stop.{Stop}
use Rattle.frames.specs.declared.Stop.TheVariants.{Unreadable}

-- A failed read is what stops it.
pub failed :
    {room : ℕ} (wanted : ℕ) {u : Unread} {read : Result Filled Unread} {r : Result Frame Stop} → Fills wanted read → read ≡ Err u → r ≡ Err (Unreadable u) →
    Told room r
failed {room} wanted {u} f e t =
    subst (Told room) (sym t) (record { wanted = wanted; fills = subst (Fills wanted) e f; tells = tt; within = omega arith })
