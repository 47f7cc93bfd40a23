-- What a field of each known tag says: whether its length fits, whether there is room for its item, and whether what it names is there, in this order.
use Prim.Native.Nat.{ℕ, ◌%◌, ◌-◌, ◌≤◌, ◌<◌}
use mathlib.Core.Path.{◌≡◌, refl}
use mathlib.Core.Bool.{Bool, true, not, ◌&&◌, cond, and-false, or-false}
use mathlib.Core.List.{List}
use lib.ListN.{length, take, drop}
use lib.Dec.{eqb, ltb}
use borrow.Author.Tests.{eq-eqb, ne_eqb, le-leb, lt-leb}
use Rattle.std.specs.Prelude.{Err}
use Rattle.field.specs.Field.{byte, word}
use Rattle.field.proofs.Standing.{tail_part}
use Rattle.permutation.specs.Swaps.{swaps_in}
use Rattle.problem.specs.Problem.{unit_form, atom_form, abstraction_form, pair_form, application_form, suspension_form}
use Rattle.problem.specs.Reader.{node, equation, freshness, assumption, protection, Sizes, base_tags, length_fits, item, room, there, fault}
use Rattle.says.specs.Told.{below, said_by, said_of}
use Rattle.numbers.specs.declared.Reason.TheVariants.{WrongLength}
use Rattle.says.proofs.Saying.{suspended}

abbrev pub checked : Bool → Bool → Bool → ℕ
checked fits roomy named = cond (not fits) 5 (cond (not roomy) 6 (cond (not named) 7 0))

module _ (z : Sizes) (s : List ℕ) where
  pub unit_said : said_of z 0x10 s ≡ said_by (checked (eqb (length s) 0) (ltb z.nodes 512) true) (node unit_form)
  unfolding said_of fault base_tags length_fits item room there
  unit_said = simp or-false

  pub atom_said : said_of z 0x11 s ≡ said_by (checked (eqb (length s) 1) (ltb z.nodes 512) (ltb (byte s 0) z.atoms)) (node (atom_form (byte s 0)))
  unfolding said_of fault base_tags length_fits item room there
  atom_said = simp or-false

  pub abstraction_said : said_of z 0x12 s
      ≡ said_by
      (checked (eqb (length s) 3) (ltb z.nodes 512) (ltb (byte s 0) z.atoms && ltb (word s 1) z.nodes))
      (node (abstraction_form (byte s 0) (word s 1)))
  unfolding said_of fault base_tags length_fits item room there
  abstraction_said = simp or-false

  pub pair_said : said_of z 0x13 s
      ≡ said_by
      (checked (eqb (length s) 4) (ltb z.nodes 512) (ltb (word s 0) z.nodes && ltb (word s 2) z.nodes))
      (node (pair_form (word s 0) (word s 2)))
  unfolding said_of fault base_tags length_fits item room there
  pair_said = simp or-false

  pub application_said : said_of z 0x14 s
      ≡ said_by (checked (eqb (length s) 4) (ltb z.nodes 512) (ltb (word s 2) z.nodes)) (node (application_form (word s 0) (word s 2)))
  unfolding said_of fault base_tags length_fits item room there
  application_said = simp or-false

  -- A suspension's length is odd and at most 65, and its swaps' atoms can be looked at byte by byte.
  pub suspension_even : (length s % 2 ≡ 1 → ⊥) → said_of z 0x15 s ≡ Err WrongLength
  unfolding said_of fault base_tags length_fits
  suspension_even e = rw (ne_eqb (length s % 2) 1 e)

  pub suspension_long : 65 < length s → said_of z 0x15 s ≡ Err WrongLength
  unfolding said_of fault base_tags length_fits
  suspension_long h = rw (lt-leb (length s) 65 h, and-false)

  pub suspension_said : length s % 2 ≡ 1
      → length s ≤ 65
      → said_of z 0x15 s
      ≡ said_by
      (checked true (ltb z.nodes 512) (ltb (byte s 0) z.variables && below z.atoms (take (length s - 1) (drop 1 s))))
      (node (suspension_form (swaps_in (drop 1 s)) (byte s 0)))
  unfolding said_of fault base_tags length_fits item room there
  suspension_said odd short = rw (eq-eqb (length s % 2) 1 odd, le-leb (length s) 65 short, suspended z.atoms s odd, tail_part s 1)

  pub equation_said : said_of z 0x20 s
      ≡ said_by
      (checked (eqb (length s) 4) (ltb z.equations 64) (ltb (word s 0) z.nodes && ltb (word s 2) z.nodes))
      (equation (record { left = word s 0; right = word s 2 }))
  unfolding said_of fault base_tags length_fits item room there
  equation_said = simp or-false

  pub freshness_said : said_of z 0x21 s
      ≡ said_by
      (checked (eqb (length s) 3) (ltb z.freshness 64) (ltb (byte s 0) z.atoms && ltb (word s 1) z.nodes))
      (freshness (byte s 0) (word s 1))
  unfolding said_of fault base_tags length_fits item room there
  freshness_said = simp or-false

  pub assumption_said : said_of z 0x22 s
      ≡ said_by
      (checked (eqb (length s) 2) true (ltb (byte s 0) z.atoms && ltb (byte s 1) z.variables))
      (assumption (byte s 0) (byte s 1))
  unfolding said_of fault base_tags length_fits item room there
  assumption_said = simp or-false

  pub protection_said : said_of z 0x30 s ≡ said_by (checked (eqb (length s) 1) true (ltb (byte s 0) z.variables)) (protection (byte s 0))
  unfolding said_of fault base_tags length_fits item room there
  protection_said = refl
