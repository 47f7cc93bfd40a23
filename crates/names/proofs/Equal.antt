-- Two names are equal or they are not; and a name is below a number, or it is not.
use Prim.Native.Nat.{ℕ, suc, ◌≤◌, ◌<◌}
use native.Mathlib.Omega.{arith}
use mathlib.Core.Path.{◌≡◌}
use mathlib.Core.Logic.{◌≢◌}
use native.Mathlib.Decide.{dec_le, ℕ_discrete}

pub by_eq : (a b : ℕ) {P : Type 0} → (a ≡ b → P) → (a ≢ b → P) → P
by_eq a b {P} f g = go (ℕ_discrete a b)
  where
    go : Dec (a ≡ b) → P
    go (yes p) = f p
    go (no n) = g n

pub by_lt : (a n : ℕ) {R : Type 0} → (a < n → R) → (n ≤ a → R) → R
by_lt a n {R} f g = go (dec_le (suc a) n)
  where
    go : Dec (suc a ≤ n) → R
    go (yes h) = f h
    go (no h) = g (omega arith)
