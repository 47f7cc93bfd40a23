-- What is found out of a field by its first eight bytes as one number, and what becomes of the tables then: what the functions that look at one field
-- answer for. Definitions alone.
use Rattle.std.specs.Prelude.{ℕ, ◌+◌, ◌-◌, ◌%◌, ◌<◌, ◌≤◌, ◌≡◌, Bool, true, ◌&&◌, ◌||◌, cond, List, length, set, take, drop, eqb, leb, ltb}
use Rattle.std.specs.Prelude.{Option, Some, None, Result, Err}
use Rattle.numbers.specs.declared.Given.{Given}
use Rattle.sets.specs.Bits.{inserted}
use Rattle.field.specs.Field.{Field, cut, whole, byte, front}
use Rattle.field.specs.Word.{eight, tag_in, length_in, key_in, first_byte_in, second_byte_in, first_two_in, middle_two_in, last_two_in}
use Rattle.problem.specs.Reader.{Sizes, base_tags, item, fault}
use Rattle.problem.specs.declared.Counts.{Counts}
use Rattle.says.specs.Told.{below, said_by}
use Rattle.says.specs.declared.Said.{Said}
use Rattle.numbers.specs.declared.Reason.{Reason}
use Rattle.numbers.specs.declared.Reason.TheVariants as reason
use Rattle.reader.specs.Tables.{ReaderTables, reader_tables, noted}
use Rattle.reader.specs.Noting.{with, RowFor}

-- ---- a field without a fault

-- The sizes that the counts give, and the counts with so many nodes.
abbrev pub sized_by : Counts → Sizes
sized_by c = record { atoms = c.atoms; variables = c.variables; nodes = c.nodes; equations = c.equations; freshness = c.freshness }

abbrev pub with_nodes : Counts → ℕ → Counts
with_nodes c n = with c n c.equations c.freshness c.protected.0

-- The size of the field at the front of some bytes, if it is whole and has no fault.
abbrev pub size_if_good : Sizes → Field → Option ℕ
size_if_good z cut = None
size_if_good z (whole tag s rest) = cond (eqb (fault base_tags z tag s) 0) (Some (3 + length s)) None

unfoldable pub good_size : Sizes → List ℕ → Option ℕ
good_size z t = size_if_good z (front t)

-- The six tags of nodes are one after the other. The size if it is a node; if it is none.
abbrev pub node_tag : ℕ → Bool
node_tag tag = leb 0x10 tag && leb tag 0x15

abbrev pub node_size : Sizes → List ℕ → Option ℕ
node_size z t = cond (node_tag (byte t 0)) (good_size z t) None

abbrev pub other_size : Sizes → List ℕ → Option ℕ
other_size z t = cond (node_tag (byte t 0)) None (good_size z t)

-- What it says if it has no fault.
abbrev pub said_in : Field → Result Said Reason
said_in cut = Err reason.Cut
said_in (whole tag s rest) = said_by 0 (item tag s)

unfoldable pub said_at : List ℕ → Result Said Reason
said_at t = said_in (front t)

-- The number and the place of the refusal of one that is cut or has a fault.
abbrev pub refusal_in : Sizes → ℕ → Field → Given
refusal_in z o cut = record { number = 3; place = o }
refusal_in z o (whole tag s rest) = record { number = fault base_tags z tag s; place = o }

unfoldable pub refusal_at : Sizes → ℕ → List ℕ → Given
refusal_at z o t = refusal_in z o (front t)

-- ---- the tests that are made of the number, for each tag

abbrev pub unit_good : ℕ → Bool
unit_good w = eqb (key_in w) 0x100000

abbrev pub atom_good : ℕ → ℕ → Bool
atom_good atoms w = eqb (key_in w) 0x110001 && ltb (first_byte_in w) atoms

abbrev pub abstraction_good : ℕ → ℕ → ℕ → Bool
abstraction_good atoms n w = eqb (key_in w) 0x120003 && (ltb (first_byte_in w) atoms && ltb (middle_two_in w) n)

abbrev pub pair_good : ℕ → ℕ → Bool
pair_good n w = eqb (key_in w) 0x130004 && (ltb (first_two_in w) n && ltb (last_two_in w) n)

abbrev pub application_good : ℕ → ℕ → Bool
application_good n w = eqb (key_in w) 0x140004 && ltb (last_two_in w) n

-- A suspension's swaps are looked at in the bytes t themselves.
abbrev pub swaps_good : ℕ → List ℕ → ℕ → Bool
swaps_good atoms t n = eqb (n % 2) 1 && (leb n 65 && (leb (3 + n) (length t) && below atoms (take (n - 1) (drop 4 t))))

abbrev pub permutation_good : ℕ → List ℕ → ℕ → Bool
permutation_good atoms t w = eqb (key_in w) 0x150001 || swaps_good atoms t (length_in w)

abbrev pub suspension_good : ℕ → ℕ → List ℕ → ℕ → Bool
suspension_good atoms variables t w = ltb (first_byte_in w) variables && permutation_good atoms t w

abbrev pub equation_good : Sizes → ℕ → Bool
equation_good z w = eqb (key_in w) 0x200004 && (ltb z.equations 64 && (ltb (first_two_in w) z.nodes && ltb (last_two_in w) z.nodes))

abbrev pub freshness_good : Sizes → ℕ → Bool
freshness_good z w = eqb (key_in w) 0x210003 && (ltb z.freshness 64 && (ltb (first_byte_in w) z.atoms && ltb (middle_two_in w) z.nodes))

abbrev pub assumption_good : Sizes → ℕ → Bool
assumption_good z w = eqb (key_in w) 0x220002 && (ltb (first_byte_in w) z.atoms && ltb (second_byte_in w) z.variables)

abbrev pub protection_good : Sizes → ℕ → Bool
protection_good z w = eqb (key_in w) 0x300001 && ltb (first_byte_in w) z.variables

-- What a field that is no node is counted as.
abbrev pub counted_in : ℕ → Counts → Counts
counted_in w c =
    cond (eqb (tag_in w) 0x20) (with c c.nodes (c.equations + 1) c.freshness c.protected.0)
    (cond (eqb (tag_in w) 0x21) (with c c.nodes c.equations (c.freshness + 1) c.protected.0)
    (cond (eqb (tag_in w) 0x30) (with c c.nodes c.equations c.freshness (inserted 64 c.protected.0 (first_byte_in w)))
    c))

-- ---- what becomes of the tables

-- If a test holds, a row of a table is set and the field's size given; if not, the table stays and none is given.
pub record Kept (good : Bool) (size n value : ℕ) (r : Option ℕ) (before after : List ℕ) : Type 0 where
  pub the_size : r ≡ cond good (Some size) None
  pub the_table : after ≡ cond good (set before n value) before
  pub row : good ≡ true → n < length before

-- Enough of the field is there: w shows it whole, or the bytes that are left end before w does and the field before them.
abbrev pub Seen : List ℕ → Type 0
Seen t = length t < 8 → 3 + length_in (eight t) ≤ length t

-- The field at offset o, whose bytes and those behind it are t, was looked at: if it has a size, that was given, and it is noted.
pub record Stepped (size : Option ℕ) (t : List ℕ) (o : ℕ) (c : Counts) (before : ReaderTables) (r : Option ℕ) (after : ReaderTables) : Type 0 where
  pub the_size : r ≡ size
  pub stays : r ≡ None → after ≡ before
  pub goes : (n : ℕ) → r ≡ Some n → after ≡ noted (said_at t) (eight t) o c before
  pub row : (n : ℕ) → r ≡ Some n → RowFor (said_at t) c before

-- As a node, and as a field that is none. The table that is not in hand stays, whatever it holds.
abbrev pub NodeStepped : List ℕ → ℕ → Counts → List ℕ → List ℕ → Option ℕ → List ℕ → List ℕ → Type 0
NodeStepped t o c places variables r places' variables' =
    (assumed : List ℕ)
    → Stepped (node_size (sized_by c) t) t o c (reader_tables places assumed variables) r (reader_tables places' assumed variables')

abbrev pub OtherStepped : List ℕ → ℕ → Counts → List ℕ → List ℕ → Option ℕ → List ℕ → List ℕ → Type 0
OtherStepped t o c places assumed r places' assumed' =
    (variables : List ℕ)
    → Stepped (other_size (sized_by c) t) t o c (reader_tables places assumed variables) r (reader_tables places' assumed' variables)
