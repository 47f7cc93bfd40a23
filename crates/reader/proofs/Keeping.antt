-- A row of a table is set if a test holds, and else the table stays: what the functions that look at one field show of their tables.
use Prim.Native.Nat.{ℕ, ◌<◌}
use native.Mathlib.Omega.{arith}
use mathlib.Core.Path.{◌≡◌, refl, ap, ◌∙◌}
use mathlib.Core.Bool.{Bool, true, false, cond}
use mathlib.Core.List.{List}
use lib.ListN.{length, set}
use Rattle.std.specs.Prelude.{Option, Some, None}
use Rattle.sets.proofs.Bits.{by_test}
use Rattle.reader.specs.Found.{Kept}

module _ {good : Bool} {size n value : ℕ} {t : List ℕ} where
  pub not_kept : good ≡ false → Kept good size n value None t t
  not_kept e = record { the_size = rw e; the_table = rw e; row = λ q. let z : ◌≡◌ {A = ℕ} 0 1 = cc in absurd (omega arith) }

  pub is_kept : {u : List ℕ} → good ≡ true → n < length t → u ≡ set t n value → Kept good size n value (Some size) t u
  is_kept e h k = record { the_size = rw e; the_table = rw e k; row = λ q. h }

-- There is a size, or none.
pub by_size : {P : Type 0} (r : Option ℕ) → (r ≡ None → P) → ((n : ℕ) → r ≡ Some n → P) → P
by_size None none some = none refl
by_size (Some n) none some = some n refl

pub none_some : {n : ℕ} {r : Option ℕ} → r ≡ None → r ≡ Some n → ⊥
none_some e f = cc

-- The size is that of a test that holds.
module _ (good : Bool) (size : ℕ) {r : Option ℕ} (e : r ≡ cond good (Some size) None) where
  pub not_chosen : r ≡ None → good ≡ false
  not_chosen z = by_test good (λ q. absurd (none_some z (rw q at e))) (λ q. q)

  pub is_chosen : {n : ℕ} → r ≡ Some n → (good ≡ true) × (n ≡ size)
  is_chosen {n} z = by_test good (λ q. let x = rw q at e in (q, cc)) (λ q. absurd (none_some (rw q at e) z))

-- The same of the two tables that have a row for each node.
module _ {good : Bool} {size n word own : ℕ} {places variables : List ℕ} where
  pub not_put : good ≡ false → Kept good size n word None places places × Kept good size n own None variables variables
  not_put e = (not_kept e, not_kept e)

  pub is_put : {x : ℕ} {places' variables' : List ℕ} → good ≡ true → x ≡ own
      → (places' ≡ set places n word) × (variables' ≡ set variables n x) × (n < length places) × (n < length variables)
      → Kept good size n word (Some size) places places' × Kept good size n own (Some size) variables variables'
  is_put e q h = (is_kept e h.2 h.0, is_kept e h.3 (h.1 ∙ ap (set variables n) q))
