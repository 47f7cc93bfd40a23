-- The first eight bytes of a field as one number, so that its tag, its length and the numbers in a short body are read at once. Definitions alone.
use Rattle.std.specs.Prelude.{ℕ, ◌+◌, ◌*◌, ◌/◌, ◌%◌, List}
use Rattle.field.specs.Field.{long}

-- "Numbers have the high byte first." The number in the first eight bytes; where fewer are left, zeros stand for the others.
unfoldable pub eight : List ℕ → ℕ
eight s = long s 0 * 4294967296 + long s 4

-- What such a number has of a field: its tag, its length, both together, and of its body the first and the second byte, and the numbers in the bytes from
-- the first, the second and the third on.
abbrev pub tag_in : ℕ → ℕ
tag_in w = w / 72057594037927936

abbrev pub length_in : ℕ → ℕ
length_in w = w / 1099511627776 % 65536

abbrev pub key_in : ℕ → ℕ
key_in w = w / 1099511627776

abbrev pub first_byte_in : ℕ → ℕ
first_byte_in w = w / 4294967296 % 256

abbrev pub second_byte_in : ℕ → ℕ
second_byte_in w = w / 16777216 % 256

abbrev pub first_two_in : ℕ → ℕ
first_two_in w = w / 16777216 % 65536

abbrev pub middle_two_in : ℕ → ℕ
middle_two_in w = w / 65536 % 65536

abbrev pub last_two_in : ℕ → ℕ
last_two_in w = w / 256 % 65536
