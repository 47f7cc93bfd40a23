-- The reader's refusals: their numbers and places, and their order.
use Prim.Native.Nat.{ℕ, zero, suc, ◌+◌, ◌-◌, ◌≤◌, ◌<◌}
use native.Mathlib.Omega.{arith}
use mathlib.Core.Path.{◌≡◌, refl, ◌∙◌, ap, subst}
use mathlib.Core.Bool.{Bool, true, false, cond}
use mathlib.Core.List.{List, [], ◌∷◌}
use lib.ListN.{length, length-drop}
use lib.Dec.{leb}
use borrow.Author.Tests.{lt-leb}
use Rattle.field.specs.Field.{Field, cut, whole, front}
use Rattle.field.proofs.Standing.{stands}
use Rattle.problem.specs.Problem.{Problem}
use Rattle.problem.specs.Reader.{Reading, read, unreadable, item, Sizes, sizes, length_fits, room, there, add, fault, unless, one_field, fields_from}
use Rattle.problem.specs.Reader.{good_head, headed, head_field, read_all, reading}
use Rattle.problem.proofs.Readable.{first_fault}

-- "1 comes before all. An empty input is 2."
pub one_first : (known : ℕ → Bool) (s : List ℕ) → 65535 < length s → reading known s ≡ unreadable 1 0
unfolding reading
one_first known s h = rw (lt-leb (length s) 65535 h)

pub empty_two : (known : ℕ → Bool) → reading known [] ≡ unreadable 2 0
unfolding reading read_all
empty_two known = refl

-- "within a field the order is 3, then 2 (first field only ..), 4, 5, 6, 7": each number exactly where the tests before it pass and its own fails.
module _ (known : ℕ → Bool) (z : Sizes) (tag : ℕ) (s : List ℕ) where
  pub four_first : known tag ≡ false → fault known z tag s ≡ 4
  unfolding fault
  four_first k = rw k

  pub five_second : known tag ≡ true → length_fits tag (length s) ≡ false → fault known z tag s ≡ 5
  unfolding fault
  five_second k l = rw (k, l)

  pub six_third : known tag ≡ true → length_fits tag (length s) ≡ true → room z (item tag s) ≡ false → fault known z tag s ≡ 6
  unfolding fault
  six_third k l r = rw (k, l, r)

  pub seven_last : known tag ≡ true → length_fits tag (length s) ≡ true → room z (item tag s) ≡ true → there z (item tag s) ≡ false → fault known z tag s ≡ 7
  unfolding fault
  seven_last k l r t = rw (k, l, r, t)

-- The place of a refusal lies within so many bytes, and its number is one of the reader's.
abbrev pub WellPlaced : ℕ → Reading → Type 0
WellPlaced most (read p) = Unit {0}
WellPlaced most (unreadable n o) = (o ≤ most) × (1 ≤ n) × (n ≤ 7)

either : (most : ℕ) (b : Bool) (r s : Reading) → WellPlaced most r → WellPlaced most s → WellPlaced most (cond b r s)
either most true r s h k = h
either most false r s h k = k

fault_placed : (most o : ℕ) (a b c d : Bool) (r : Reading) → o ≤ most → WellPlaced most r
    → WellPlaced most (unless (first_fault a b c d) o r)
fault_placed most o true true true true r h k = k
fault_placed most o true true true false r h k = (h, omega arith, omega arith)
fault_placed most o true true false d r h k = (h, omega arith, omega arith)
fault_placed most o true false c d r h k = (h, omega arith, omega arith)
fault_placed most o false b c d r h k = (h, omega arith, omega arith)

field_placed : (known : ℕ → Bool) (most : ℕ) (p : Problem) (o : ℕ) (onward : Problem → ℕ → List ℕ → Reading) (f : Field) (s : List ℕ)
    → front s ≡ f → o + length s ≤ most
    → ((q : Problem) (i : ℕ) (r : List ℕ) → i + length r ≤ most → WellPlaced most (onward q i r)) → WellPlaced most (one_field known p o onward f)
unfolding fault
field_placed known most p o onward cut s w h go = (omega arith, omega arith, omega arith)
field_placed known most p o onward (whole tag body rest) s w h go =
    let k = stands s tag body rest w in
    let l : length rest ≡ length s - (3 + length body) = ap length k.the_rest ∙ length-drop (3 + length body) s in
    let i = item tag body in
    fault_placed most o (known tag) (length_fits tag (length body)) (room (sizes p) i) (there (sizes p) i) _ (omega arith)
    (go (add p o i) (o + (3 + length body)) rest (omega (arith, k.fits)))

fields_placed : (known : ℕ → Bool) (most k : ℕ) (p : Problem) (o : ℕ) (s : List ℕ) → o + length s ≤ most → WellPlaced most (fields_from known k p o s)
unfolding fields_from
fields_placed known most zero p o s h = tt
fields_placed known most (suc k) p o [] h = tt
fields_placed known most (suc k) p o (b ∷ s) h =
    field_placed known most p o (λ q i r. fields_from known k q i r) (front (b ∷ s)) (b ∷ s) refl h (λ q i r. fields_placed known most k q i r)

head_placed : (known : ℕ → Bool) (f : Field) (s : List ℕ) → front s ≡ f → WellPlaced (length s) (head_field known f)
unfolding head_field
head_placed known cut s w = (omega arith, omega arith, omega arith)
head_placed known (whole tag body rest) s w =
    let k = stands s tag body rest w in
    let l : length rest ≡ length s - (3 + length body) = ap length k.the_rest ∙ length-drop (3 + length body) s in
    either (length s) (good_head tag body) (fields_from known (length rest) (headed body) (3 + length body) rest) (unreadable 2 0)
    (fields_placed known (length s) (length rest) (headed body) (3 + length body) rest (omega (arith, k.fits)))
    (omega arith, omega arith, omega arith)

all_placed : (known : ℕ → Bool) (s : List ℕ) → WellPlaced (length s) (read_all known s)
unfolding read_all
all_placed known [] = (omega arith, omega arith, omega arith)
all_placed known (b ∷ s) = head_placed known (front (b ∷ s)) (b ∷ s) refl

pub well_placed : (known : ℕ → Bool) (s : List ℕ) → WellPlaced (length s) (reading known s)
unfolding reading
well_placed known s =
    either (length s) (leb (length s) 65535) (read_all known s) (unreadable 1 0) (all_placed known s) (omega arith, omega arith, omega arith)

pub numbers_right : (known : ℕ → Bool) (s : List ℕ) (n o : ℕ) → reading known s ≡ unreadable n o → (o ≤ length s) × (1 ≤ n) × (n ≤ 7)
numbers_right known s n o e = subst (WellPlaced (length s)) e (well_placed known s)
