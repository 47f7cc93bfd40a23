-- Where a problem lies that came whole.
use Rattle.std.specs.Prelude.{ℕ, ◌≤◌, ◌≡◌, List, length, Result, Ok}
use mathlib.Core.Path.{subst}
use Rattle.frames.specs.Came.{bytes_of, Told}
use Rattle.frames.specs.declared.Frame.{Frame}
use Rattle.frames.specs.declared.Stop.{Stop}

-- Within the room.
pub within : {f : Frame} (r : Result Frame Stop) (l : List ℕ) → r ≡ Ok f → Told (length l) r → f.size ≤ length l
within r l e t = subst (λ (x : Result Frame Stop). bytes_of x ≤ length l) e t.within
