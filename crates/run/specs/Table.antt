-- Document 01's fixed examples as one table of cases: what goes in, as bytes, and what has to come out. Definitions alone; that every case holds
-- is one theorem in proofs/.
use Rattle.std.specs.Prelude.{ℕ, zero, suc, ◌≡◌, List, [], ◌∷◌, ◌++◌, length}
use Rattle.layout.specs.Fields.{head_bytes, unit_field, atom_field, abstraction_field, application_field, suspension_field, equation_field, freshness_field}
use Rattle.layout.specs.Fields.{assumption_field, protection_field}
use Rattle.layout.specs.Parts.{steps, binding, fact, part_fields}
use Rattle.run.specs.Answer.{Result, Judgement, solve, judge}

abbrev pub times : {A : Type 0} → ℕ → List A → List A
times zero s = []
times (suc n) s = s ++ times n s

-- A case for the solver, with the lent output, or for the judge.
pub data Case : Type 0 where
  solving : List ℕ → List ℕ → Result → Case
  judging : List ℕ → Judgement → Case

-- A lent output of so many bytes, each of which bears a mark.
abbrev pub marked_bytes : ℕ → List ℕ
marked_bytes n = times n (0xAA ∷ [])

-- An accepted case: the room that the answer leaves, and the answer. "An acceptance leaves the bytes after the answer unchanged."
abbrev pub accepted_case : List ℕ → ℕ → List ℕ → Case
accepted_case input more answer =
    solving input (marked_bytes (length answer) ++ marked_bytes more) (record { number = 0; place = length answer; output = answer ++ marked_bytes more })

-- A refused case: the room, the number and the place. "Every refusal leaves the output unchanged."
abbrev pub refused_case : List ℕ → ℕ → ℕ → ℕ → Case
refused_case input room number place = solving input (marked_bytes room) (record { number = number; place = place; output = marked_bytes room })

-- "Whole example, 36 bytes (hexadecimal), [a]X against [b]b", byte by byte.
abbrev pub whole_example : List ℕ
whole_example =
    0x01 ∷ 0x00 ∷ 0x06 ∷ 0x02 ∷ 0x01 ∷ 0x00 ∷ 0x00 ∷ 0x00 ∷ 0x64 ∷ 0x15 ∷ 0x00 ∷ 0x01 ∷ 0x00 ∷ 0x12 ∷ 0x00 ∷ 0x03 ∷ 0x00 ∷ 0x00 ∷ 0x00
    ∷ 0x11 ∷ 0x00 ∷ 0x01 ∷ 0x01 ∷ 0x12 ∷ 0x00 ∷ 0x03 ∷ 0x01 ∷ 0x00 ∷ 0x02 ∷ 0x20 ∷ 0x00 ∷ 0x04 ∷ 0x00 ∷ 0x01 ∷ 0x00 ∷ 0x03 ∷ []

-- "prints `accepted 2` and `bind 0 2 1 0`. The answer has 15 bytes."
abbrev pub whole_answer : List ℕ
whole_answer = 0x4E ∷ 0x00 ∷ 0x04 ∷ 0x00 ∷ 0x00 ∷ 0x00 ∷ 0x02 ∷ 0x40 ∷ 0x00 ∷ 0x05 ∷ 0x00 ∷ 0x00 ∷ 0x02 ∷ 0x01 ∷ 0x00 ∷ []

-- "[a][b]X, [b][a]X", with step limit L; "3 steps, a and b fresh for X".
abbrev pub C2 : ℕ → List ℕ
C2 L =
    head_bytes 2 1 L ++ suspension_field [] 0 ++ abstraction_field 1 0 ++ abstraction_field 0 1 ++ abstraction_field 0 0 ++ abstraction_field 1 3
    ++ equation_field 2 4

abbrev pub C2_answer : List ℕ
C2_answer = part_fields (steps 3 ∷ fact 0 0 ∷ fact 1 0 ∷ [])

-- "judge X, (a b)X".
abbrev pub C12 : List ℕ
C12 = head_bytes 2 1 100 ++ suspension_field [] 0 ++ suspension_field ((0, 1) ∷ []) 0 ++ equation_field 0 1

-- "a, b, c are 0, 1, 2, A and V are as many as the case names, L is 100 unless told".
unfoldable pub cases : List Case
cases =
    accepted_case whole_example 0 whole_answer
    ∷  -- C1 no equations, L 0: accepted, 0 steps
    accepted_case (head_bytes 0 0 0) 2 (part_fields (steps 0 ∷ []))
    ∷  -- C2 [a][b]X, [b][a]X: 3 steps, a and b fresh for X
    accepted_case (C2 100) 0 C2_answer
    ∷  -- C3 C2 with L 2: 8, place 0
    refused_case (C2 2) 17 8 0
    ∷  -- C4 (a c)(a b)X, (b c)X: a, c fresh for X
    accepted_case (head_bytes 3 1 100 ++ suspension_field ((0, 2) ∷ (0, 1) ∷ []) 0 ++ suspension_field ((1, 2) ∷ []) 0 ++ equation_field 0 1) 0
    (part_fields (steps 1 ∷ fact 0 0 ∷ fact 2 0 ∷ []))
    ∷  -- C5 (a b)(b c)X, atom a: X is atom a under images 2 0 1, that is c
    accepted_case (head_bytes 3 1 100 ++ suspension_field ((0, 1) ∷ (1, 2) ∷ []) 0 ++ atom_field 0 ++ equation_field 0 1) 0
    (part_fields (steps 1 ∷ binding 0 1 (2 ∷ 0 ∷ 1 ∷ []) ∷ []))
    ∷  -- C6 X, fY; then Y, fX: 10, place 1
    refused_case (head_bytes 0 2 100 ++ suspension_field [] 0 ++ suspension_field [] 1 ++ application_field 7 1 ++ application_field 7 0 ++ equation_field 0 2
    ++ equation_field 1 3) 40 10 1
    ∷  -- C7 [a]b, [b]a: 12
    refused_case (head_bytes 2 0 100 ++ atom_field 0 ++ atom_field 1 ++ abstraction_field 0 1 ++ abstraction_field 1 0 ++ equation_field 2 3) 40 12 0
    ∷  -- C8 [a]a, [b]a: 9, place 0
    refused_case (head_bytes 2 0 100 ++ atom_field 0 ++ abstraction_field 0 0 ++ abstraction_field 1 0 ++ equation_field 1 2) 40 9 0
    ∷  -- C9 [a]X, [b]Y: X is Y under images 1 0, a fresh for Y
    accepted_case (head_bytes 2 2 100 ++ suspension_field [] 0 ++ suspension_field [] 1 ++ abstraction_field 0 0 ++ abstraction_field 1 1
    ++ equation_field 2 3) 0
    (part_fields (steps 2 ∷ binding 0 1 (1 ∷ 0 ∷ []) ∷ fact 0 1 ∷ []))
    ∷  -- C10 X protected, X against unit: 11, place 0
    refused_case (head_bytes 0 1 100 ++ suspension_field [] 0 ++ unit_field ++ protection_field 0 ++ equation_field 0 1) 40 11 0
    ∷  -- C11 X against atom a, a fresh for X: 12
    refused_case (head_bytes 1 1 100 ++ suspension_field [] 0 ++ atom_field 0 ++ equation_field 0 1 ++ freshness_field 0 0) 40 12 0
    ∷  -- C12 judge X, (a b)X; a, b assumed fresh / only a: 0 / 14
    judging (C12 ++ assumption_field 0 0 ++ assumption_field 1 0) (0, 0)
    ∷ judging (C12 ++ assumption_field 0 0) (14, 0)
    ∷  -- "C3 with L 3 is accepted."
    accepted_case (C2 3) 0 C2_answer
    ∷  -- "512 nodes are read, the 513th is 6."
    accepted_case (head_bytes 0 0 100 ++ times 512 unit_field) 0 (part_fields (steps 0 ∷ []))
    ∷ refused_case (head_bytes 0 0 100 ++ times 513 unit_field) 40 6 1545
    ∷  -- "32 swaps pass, a body of 67 bytes is 5."
    accepted_case (head_bytes 2 1 100 ++ suspension_field (times 32 ((0, 1) ∷ [])) 0) 0 (part_fields (steps 0 ∷ []))
    ∷ refused_case (head_bytes 2 1 100 ++ suspension_field (times 33 ((0, 1) ∷ [])) 0) 40 5 9
    ∷  -- "C2 with output room 17 is accepted, with 16 gives 13, place 17." With 18 the last byte stays.
    accepted_case (C2 100) 1 C2_answer
    ∷ refused_case (C2 100) 16 13 17
    ∷ []

-- What a case says: that the definitions give what it wants.
abbrev pub CaseHolds : Case → Type 0
CaseHolds (solving input output r) = solve input output ≡ r
CaseHolds (judging input j) = judge input ≡ j
