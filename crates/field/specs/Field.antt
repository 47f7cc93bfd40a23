-- The fields of document 01: what stands at the front of a list of bytes, and the numbers in it. Definitions alone.
use Rattle.std.specs.Prelude.{ℕ, ◌+◌, ◌*◌, ◌/◌, ◌%◌, ◌<◌, ◌≤◌, ◌≡◌, cond, List, [], ◌∷◌, ◌++◌, length, get_or, take, drop, leb}

-- "Fields: one byte tag, two bytes length, body." A field is cut short, or whole: its tag, its body, and the bytes after it.
pub data Field : Type 0 where
  cut : Field
  whole : ℕ → List ℕ → List ℕ → Field

-- "Numbers have the high byte first." The number in the byte at i, in the two bytes from i, in the four bytes from i.
abbrev pub byte : List ℕ → ℕ → ℕ
byte s i = get_or s i 0

-- A list of numbers is one of bytes: every number in it is one byte's. What a slice of bytes holds is such a list.
abbrev pub Bytes : List ℕ → Type 0
Bytes s = (i : ℕ) → byte s i < 256

abbrev pub word : List ℕ → ℕ → ℕ
word s i = byte s i * 256 + byte s (i + 1)

abbrev pub long : List ℕ → ℕ → ℕ
long s i = word s i * 65536 + word s (i + 2)

-- "The body of a field is handed back as a part of the input itself, and the rest of the input is read on from where that field ends."
unfoldable pub bodied : ℕ → ℕ → List ℕ → Field
bodied tag n s = cond (leb n (length s)) (whole tag (take n s) (drop n s)) cut

-- The field at the front.
unfoldable pub front : List ℕ → Field
front [] = cut
front (tag ∷ []) = cut
front (tag ∷ high ∷ []) = cut
front (tag ∷ high ∷ low ∷ s) = bodied tag (high * 256 + low) s

-- How a whole field stands at the front: the first byte is its tag, the next two its length, and body and rest are parts of the list.
pub record FieldStands (s : List ℕ) (tag : ℕ) (body rest : List ℕ) : Type 0 where
  pub the_tag : tag ≡ byte s 0
  pub the_length : length body ≡ word s 1
  pub fits : 3 + length body ≤ length s
  pub the_body : body ≡ take (length body) (drop 3 s)
  pub the_rest : rest ≡ drop (3 + length body) s

-- The other way: two and four bytes of a number, and a field's bytes.
unfoldable pub bytes2 : ℕ → List ℕ
bytes2 n = n / 256 % 256 ∷ n % 256 ∷ []

unfoldable pub bytes4 : ℕ → List ℕ
unfolding bytes2
bytes4 n = bytes2 (n / 65536) ++ bytes2 n

unfoldable pub field_bytes : ℕ → List ℕ → List ℕ
unfolding bytes2
field_bytes tag body = tag ∷ bytes2 (length body) ++ body
