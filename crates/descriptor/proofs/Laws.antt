-- Tests of an answer, as the definitions say them.
use Rattle.std.specs.Prelude.{ℕ, ◌≡◌, true, false, T, ℤ, Result, Ok, Err, is_err}
use mathlib.Core.Path.{refl, sym, subst}
use Rattle.descriptor.specs.Answers.{Moved, moved_of, failed_of}

pub below : (z : Result ℕ ℤ) → is_err z ≡ failed_of z
below (Ok k) = refl
below (Err e) = refl

pub none_moved : (z : Result ℕ ℤ) → failed_of z ≡ true → 0 ≡ moved_of z
none_moved (Ok k) e = absurd (subst T (sym e) tt)
none_moved (Err x) e = refl

-- What a call may answer goes by how many bytes it is handed.
pub read_back : (z : Result ℕ ℤ) {n m : ℕ} → m ≡ n → Moved n z → Moved m z
read_back z e k = rw e k

-- A call that did not fail answers how many bytes were moved.
pub all_moved : (z : Result ℕ ℤ) → failed_of z ≡ false → z ≡ Ok (moved_of z)
all_moved (Ok k) e = refl
all_moved (Err x) e = absurd (subst T e tt)
