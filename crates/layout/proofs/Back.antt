-- What is written is read back: a field's bytes as that field, a problem's item as that item, an answer's part as that part, and so all of an answer. So the
-- bytes determine what they say.
use Prim.Native.Nat.{ℕ, zero, suc, ◌+◌, ◌*◌, ◌/◌, ◌%◌, ◌<◌, ◌≤◌}
use native.Mathlib.Omega.{arith}
use mathlib.Core.Path.{◌≡◌, refl, sym, ◌∙◌, ap}
use mathlib.Core.Bool.{true}
use mathlib.Core.List.{List, [], ◌∷◌, ◌++◌}
use mathlib.Core.Option.{Option, some}
use lib.ListN.{length, length-append}
use lib.Seq.{take_at, drop_at}
use borrow.Author.Tests.{le-leb}
use Rattle.permutation.specs.Swaps.{Swaps, swaps_in}
use Rattle.field.specs.Field.{whole, front, bodied, bytes2, bytes4, field_bytes}
use Rattle.problem.specs.Problem.{unit_form, atom_form, abstraction_form, pair_form, application_form, suspension_form}
use Rattle.problem.specs.Reader.{Item, node, equation, freshness, assumption, protection, base_tags, item}
use Rattle.layout.specs.Fields.{swap_bytes, item_field}
use Rattle.layout.specs.Fields as fields
use Rattle.layout.specs.Parts.{Part, steps, binding, fact, part_field, part_fits, part, part_fields, part_then, parts_from, parts_in}
use Rattle.layout.specs.Parts as parts

-- ---- a field

pub two_bytes : (n : ℕ) → n < 65536 → n / 256 % 256 * 256 + n % 256 ≡ n
two_bytes n h = omega arith

pub field_front : (tag : ℕ) (body rest : List ℕ) → length body < 65536 → front (field_bytes tag body ++ rest) ≡ whole tag body rest
unfolding field_bytes bytes2 front bodied
field_front tag body rest h =
    let k : length body ≤ length (body ++ rest) = omega (arith, length-append body rest) in
    rw (two_bytes (length body) h, le-leb (length body) (length (body ++ rest)) k, take_at body rest (length body) refl, drop_at body rest (length body) refl)

-- ---- a problem's fields

swaps_back : (π : Swaps) → swaps_in (swap_bytes π) ≡ π
swaps_back [] = refl
swaps_back (s ∷ π) = ap (λ (ρ : Swaps). s ∷ ρ) (swaps_back π)

length_swap_bytes : (π : Swaps) → length (swap_bytes π) ≡ length π + length π
length_swap_bytes [] = refl
length_swap_bytes (s ∷ π) = let e = length_swap_bytes π in omega arith

pub item_back : (i : Item) → fields.ItemHasRoom i → item (fields.item_tag i) (fields.item_body i) ≡ i
unfolding item bytes2
item_back (node unit_form) h = refl
item_back (node (atom_form a)) h = refl
item_back (node (abstraction_form a n)) h = rw (two_bytes n h)
item_back (node (pair_form l r)) h = rw (two_bytes l h.0, two_bytes r h.1)
item_back (node (application_form f n)) h = rw (two_bytes f h.0, two_bytes n h.1)
item_back (node (suspension_form π X)) h = rw (swaps_back π)
item_back (equation e) h = rw (two_bytes e.left h.0, two_bytes e.right h.1)
item_back (freshness a n) h = rw (two_bytes n h)
item_back (assumption a X) h = refl
item_back (protection X) h = refl

-- Its tag is known, its length fits, and the field at the front is it.
pub tag_known : (i : Item) → base_tags (fields.item_tag i) ≡ true
unfolding base_tags
tag_known (node unit_form) = refl
tag_known (node (atom_form a)) = refl
tag_known (node (abstraction_form a n)) = refl
tag_known (node (pair_form l r)) = refl
tag_known (node (application_form f n)) = refl
tag_known (node (suspension_form π X)) = refl
tag_known (equation e) = refl
tag_known (freshness a n) = refl
tag_known (assumption a X) = refl
tag_known (protection X) = refl

body_short : (i : Item) → fields.ItemHasRoom i → length (fields.item_body i) < 65536
unfolding bytes2
body_short (node unit_form) h = omega arith
body_short (node (atom_form a)) h = omega arith
body_short (node (abstraction_form a n)) h = omega arith
body_short (node (pair_form l r)) h = omega arith
body_short (node (application_form f n)) h = omega arith
body_short (node (suspension_form π X)) h = let e = length_swap_bytes π in omega arith
body_short (equation e) h = omega arith
body_short (freshness a n) h = omega arith
body_short (assumption a X) h = omega arith
body_short (protection X) h = omega arith

pub item_front : (i : Item) (rest : List ℕ) → fields.ItemHasRoom i → front (item_field i ++ rest) ≡ whole (fields.item_tag i) (fields.item_body i) rest
item_front i rest h = field_front (fields.item_tag i) (fields.item_body i) rest (body_short i h)

-- ---- an answer's fields

pub part_back : (p : Part) → parts.PartHasRoom p → part (parts.part_tag p) (parts.part_body p) ≡ p
unfolding part bytes4 bytes2
part_back (steps n) h = ap steps (omega arith)
part_back (binding X n images) h = rw (two_bytes n h.0)
part_back (fact a X) h = refl

pub part_fits_lem : (p : Part) → part_fits (parts.part_tag p) (length (parts.part_body p)) ≡ true
unfolding part_fits bytes4 bytes2
part_fits_lem (steps n) = refl
part_fits_lem (binding X n images) = le-leb 3 (length (X ∷ bytes2 n ++ images)) (omega arith)
part_fits_lem (fact a X) = refl

part_short : (p : Part) → parts.PartHasRoom p → length (parts.part_body p) < 65536
unfolding bytes4 bytes2
part_short (steps n) h = omega arith
part_short (binding X n images) h = let (k, l) = h in omega arith
part_short (fact a X) h = omega arith

pub part_front : (p : Part) (rest : List ℕ) → parts.PartHasRoom p → front (part_field p ++ rest) ≡ whole (parts.part_tag p) (parts.part_body p) rest
part_front p rest h = field_front (parts.part_tag p) (parts.part_body p) rest (part_short p h)

parts_onward : (k : ℕ) (s : List ℕ) (p : Part) (ps : List Part) (rest : List ℕ) → front s ≡ whole (parts.part_tag p) (parts.part_body p) rest
    → parts.PartHasRoom p
    → parts_from k rest ≡ some ps → part_then (λ r. parts_from k r) (front s) ≡ some (p ∷ ps)
parts_onward k s p ps rest e h q = rw (e, part_fits_lem p, part_back p h, q)

parts_from_lem : (k : ℕ) (ps : List Part) → length ps < k → parts.PartsHaveRoom ps → parts_from k (part_fields ps) ≡ some ps
unfolding parts_from field_bytes
parts_from_lem zero ps l h = absurd (omega arith)
parts_from_lem (suc k) [] l h = refl
parts_from_lem (suc k) (p ∷ ps) l h =
    parts_onward k (part_fields (p ∷ ps)) p ps (part_fields ps) (part_front p (part_fields ps) h.0) h.0 (parts_from_lem k ps (omega arith) h.1)

-- A field has bytes: there are no more fields than bytes.
few_parts : (ps : List Part) → length ps ≤ length (part_fields ps)
unfolding field_bytes
few_parts [] = omega arith
few_parts (p ∷ ps) = let e = few_parts ps in omega (arith, length-append (part_field p) (part_fields ps))

-- All of an answer is read back.
pub parts_back : (ps : List Part) → parts.PartsHaveRoom ps → parts_in (part_fields ps) ≡ some ps
unfolding parts_in
parts_back ps h = parts_from_lem (suc (length (part_fields ps))) ps (let e = few_parts ps in omega arith) h

-- So two answers that are written alike say the same.
same_part : (ps qs : List Part) → ◌≡◌ {A = Option (List Part)} (some ps) (some qs) → ps ≡ qs
same_part ps qs e = cc

pub parts_determined : (ps qs : List Part) → parts.PartsHaveRoom ps → parts.PartsHaveRoom qs → part_fields ps ≡ part_fields qs → ps ≡ qs
parts_determined ps qs h k e = same_part ps qs (sym (parts_back ps h) ∙ ap parts_in e ∙ parts_back qs k)
