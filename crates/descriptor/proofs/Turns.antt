-- A loop of calls that are each asked for all that is left.
use Prim.Native.Nat.{ℕ, ◌+◌, ◌≤◌, ◌<◌}
use native.Mathlib.Omega.{arith}
use mathlib.Core.Logic.{◌⊎◌, inl, inr, ⊎_elim}
use mathlib.Core.Path.{◌≡◌}
use Rattle.std.specs.Prelude.{ℤ, Result, Ok, Err}
use Rattle.descriptor.specs.Answers.{Moved, moved_of}
use Rattle.descriptor.specs.Rounds.{All}
use Rattle.descriptor.specs.declared.Answer.{Answer}

-- So far no call was made, or the last one was asked for what had been left before it.
abbrev pub Reached : ℕ → ℕ → Answer → Type 0
Reached n done last = (done ≡ 0) ⊎ ((0 < last.asked) × ((last.asked ≤ n) × (done + last.asked ≡ n + moved_of last.got)))

pub goes_on :
    (n done more : ℕ) (last : Answer) → done < n → done + last.asked ≡ n → moved_of last.got ≤ last.asked → more ≡ moved_of last.got →
    (done + more ≤ n) × Reached n (done + more) last
goes_on n done more last h e k m = (omega arith, inr (omega arith, (omega arith, omega arith)))

pub all_done : (n done : ℕ) (last : Answer) → Reached n done last → done ≡ n → All n done last
all_done n done last r d = (d, ⊎_elim (λ e. inl (omega arith)) (λ f. inr (f.0, (f.1.0, omega arith))) r)

pub no_more : (n : ℕ) (z : Result ℕ ℤ) → Moved n z → moved_of z ≤ n
no_more n (Ok k) h = h
no_more n (Err e) h = omega arith
