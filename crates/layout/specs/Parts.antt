-- An answer's fields in bytes, for writing and for reading back: document 01, "The answer in bytes". Definitions alone; that reading back gives what was
-- written is shown in proofs/.
use Rattle.std.specs.Prelude.{ℕ, zero, suc, ◌<◌, Bool, false, cond, List, [], ◌∷◌, ◌++◌, length, drop, eqb, leb}
use Rattle.std.proofs.Math.Option.{Option, none, some}
use Rattle.field.specs.Field.{Field, cut, whole, front, byte, word, long, bytes2, bytes4, field_bytes}

-- "4E, steps (4 bytes). Then 40 for each binding in the order made: variable, node (2 bytes), image of each atom (A bytes). Then 41 for each fact: atom,
-- variable."
pub data Part : Type 0 where
  steps : ℕ → Part
  binding : ℕ → ℕ → List ℕ → Part
  fact : ℕ → ℕ → Part

abbrev pub part_tag : Part → ℕ
part_tag (steps n) = 0x4E
part_tag (binding X n images) = 0x40
part_tag (fact a X) = 0x41

abbrev pub part_body : Part → List ℕ
part_body (steps n) = bytes4 n
part_body (binding X n images) = X ∷ bytes2 n ++ images
part_body (fact a X) = a ∷ X ∷ []

abbrev pub part_field : Part → List ℕ
part_field p = field_bytes (part_tag p) (part_body p)

-- Reading back: the tags that an answer has with the lengths that fit, and what such a field says.
unfoldable pub part_fits : ℕ → ℕ → Bool
part_fits tag n = cond (eqb tag 0x4E) (eqb n 4) (cond (eqb tag 0x40) (leb 3 n) (cond (eqb tag 0x41) (eqb n 2) false))

unfoldable pub part : ℕ → List ℕ → Part
part tag s =
    cond (eqb tag 0x4E) (steps (long s 0)) (cond (eqb tag 0x40) (binding (byte s 0) (word s 1) (drop 3 s)) (fact (byte s 0) (byte s 1)))

-- Numbers that have room where they are written.
abbrev pub PartHasRoom : Part → Type 0
PartHasRoom (steps n) = n < 4294967296
PartHasRoom (binding X n images) = (n < 65536) × (length images < 65533)
PartHasRoom (fact a X) = Unit {0}

-- All fields of an answer, written one behind the other, and read back: nothing where a field is cut, has another tag or does not fit. The first number
-- is how many fields there may be; no list of bytes has more fields than bytes.
abbrev pub part_fields : List Part → List ℕ
part_fields [] = []
part_fields (p ∷ ps) = part_field p ++ part_fields ps

abbrev pub ahead : Part → Option (List Part) → Option (List Part)
ahead p none = none
ahead p (some ps) = some (p ∷ ps)

abbrev pub part_then : (List ℕ → Option (List Part)) → Field → Option (List Part)
part_then onward cut = none
part_then onward (whole tag body rest) = cond (part_fits tag (length body)) (ahead (part tag body) (onward rest)) none

unfoldable pub parts_from : ℕ → List ℕ → Option (List Part)
parts_from zero s = none
parts_from (suc k) [] = some []
parts_from (suc k) (b ∷ s) = part_then (λ rest. parts_from k rest) (front (b ∷ s))

unfoldable pub parts_in : List ℕ → Option (List Part)
parts_in s = parts_from (suc (length s)) s

abbrev pub PartsHaveRoom : List Part → Type 0
PartsHaveRoom [] = Unit {0}
PartsHaveRoom (p ∷ ps) = PartHasRoom p × PartsHaveRoom ps
