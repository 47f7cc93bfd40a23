-- Document 01, section "Program and fixed examples": the lines that are printed, as lists of bytes. Definitions alone.
use Rattle.std.specs.Prelude.{ℕ, zero, suc, ◌+◌, ◌/◌, ◌%◌, cond, List, [], ◌∷◌, ◌++◌, length, take, eqb, ltb}
use Rattle.field.specs.Field.{Field, cut, whole, front}
use Rattle.layout.specs.Parts.{Part, part_fits, part}
use Rattle.layout.specs.Parts as layout

-- "All numbers are decimal": a number's digits, the first of them not 0 unless it is the only one. There are fewer than `most`, which falls.
unfoldable pub digits : ℕ → ℕ → List ℕ
digits zero x = []
digits (suc most) x = cond (ltb x 10) [] (digits most (x / 10)) ++ ((48 + x % 10) ∷ [])

unfoldable pub decimal : ℕ → List ℕ
decimal x = digits (suc x) x

-- The fixed words, in ASCII: "accepted ", "refused ", "bind ", "fresh ", "holds".
abbrev pub accepted_word : List ℕ
accepted_word = 97 ∷ 99 ∷ 99 ∷ 101 ∷ 112 ∷ 116 ∷ 101 ∷ 100 ∷ 32 ∷ []

abbrev pub refused_word : List ℕ
refused_word = 114 ∷ 101 ∷ 102 ∷ 117 ∷ 115 ∷ 101 ∷ 100 ∷ 32 ∷ []

abbrev pub bind_word : List ℕ
bind_word = 98 ∷ 105 ∷ 110 ∷ 100 ∷ 32 ∷ []

abbrev pub fresh_word : List ℕ
fresh_word = 102 ∷ 114 ∷ 101 ∷ 115 ∷ 104 ∷ 32 ∷ []

abbrev pub holds_word : List ℕ
holds_word = 104 ∷ 111 ∷ 108 ∷ 100 ∷ 115 ∷ []

-- "lines ending in a newline"
abbrev pub newline : List ℕ
newline = 10 ∷ []

-- One space before a number.
unfoldable pub spaced : ℕ → List ℕ
spaced x = (32 ∷ []) ++ decimal x

-- "`accepted STEPS` or `refused NUMBER PLACE`"
unfoldable pub accepted_line : ℕ → List ℕ
accepted_line steps = accepted_word ++ decimal steps ++ newline

unfoldable pub refused_line : ℕ → ℕ → List ℕ
refused_line number place = refused_word ++ decimal number ++ spaced place ++ newline

-- "images of atoms 0 up, one space before each"
unfoldable pub images : List ℕ → List ℕ
images [] = []
images (a ∷ s) = spaced a ++ images s

-- "`bind VARIABLE NODE IMAGES`"
unfoldable pub bind_line : ℕ → ℕ → List ℕ → List ℕ
bind_line variable node s = bind_word ++ decimal variable ++ spaced node ++ images s ++ newline

-- "`fresh ATOM VARIABLE`"
unfoldable pub fresh_line : ℕ → ℕ → List ℕ
fresh_line atom variable = fresh_word ++ decimal atom ++ spaced variable ++ newline

-- The line of a field of the answer (layout, specs/Parts.antt).
abbrev pub part_line : Part → List ℕ
part_line (layout.steps n) = accepted_line n
part_line (layout.binding X n images) = bind_line X n images
part_line (layout.fact a X) = fresh_line a X

unfoldable pub field_line : ℕ → List ℕ → List ℕ
field_line tag s = part_line (part tag s)

-- "in answer order": a line for each field, and then the lines of the rest. At a field that is cut, or that no answer has, the lines end.
abbrev pub line_of : (List ℕ → List ℕ) → Field → List ℕ
line_of more cut = []
line_of more (whole tag body rest) = cond (part_fits tag (length body)) (field_line tag body ++ more rest) []

-- There are at most as many fields as bytes.
unfoldable pub lines_from : ℕ → List ℕ → List ℕ
lines_from zero s = []
lines_from (suc most) s = line_of (lines_from most) (front s)

unfoldable pub answer_lines : List ℕ → List ℕ
answer_lines s = lines_from (length s) s

-- What the solver gives back is a number, a place and the lent output. "0 accepted": the place is the answer's length.
unfoldable pub solver_lines : ℕ → ℕ → List ℕ → List ℕ
solver_lines number place output = cond (eqb number 0) (answer_lines (take place output)) (refused_line number place)

-- The judge's line: `holds`, or `refused NUMBER PLACE`.
unfoldable pub judge_line : ℕ → ℕ → List ℕ
judge_line number place = cond (eqb number 0) (holds_word ++ newline) (refused_line number place)

-- A stream of problems: for each the solver's lines, the judge's line and an empty line.
unfoldable pub problem_lines : ℕ → ℕ → List ℕ → ℕ → ℕ → List ℕ
problem_lines number place output judged spot = solver_lines number place output ++ judge_line judged spot ++ newline

-- "stream cut after COUNT problems", where the input ends inside a length or a problem.
abbrev pub cut_words : List ℕ
cut_words = 115 ∷ 116 ∷ 114 ∷ 101 ∷ 97 ∷ 109 ∷ 32 ∷ 99 ∷ 117 ∷ 116 ∷ 32 ∷ 97 ∷ 102 ∷ 116 ∷ 101 ∷ 114 ∷ 32 ∷ []

abbrev pub problems_word : List ℕ
problems_word = 32 ∷ 112 ∷ 114 ∷ 111 ∷ 98 ∷ 108 ∷ 101 ∷ 109 ∷ 115 ∷ []

unfoldable pub cut_line : ℕ → List ℕ
cut_line count = cut_words ++ decimal count ++ problems_word ++ newline
