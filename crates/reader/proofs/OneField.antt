-- One field of the definitions of reading and noting, and the fields behind it. The definitions count fields down; as many as there are bytes are enough, so a
-- field leaves the bytes behind it to be read, and noted, in the same way.
use Prim.Native.Nat.{ℕ, zero, suc, ◌+◌, ◌-◌, ◌≤◌, ◌<◌}
use native.Mathlib.Omega.{arith}
use mathlib.Core.Path.{◌≡◌, refl, ◌∙◌, ap}
use mathlib.Core.Bool.{Bool}
use mathlib.Core.List.{List, [], ◌∷◌}
use lib.ListN.{length, length-drop}
use Rattle.field.specs.Field.{Field, cut, whole, front}
use Rattle.field.specs.Word.{eight}
use Rattle.field.proofs.Standing.{stands}
use Rattle.problem.specs.Problem.{Problem}
use Rattle.problem.specs.Reader.{Reading, read, unreadable, item, sizes, add, fault, unless, one_field, fields_from}
use Rattle.says.specs.Told.{said_by}
use Rattle.problem.specs.Told.{counts_of}
use Rattle.reader.specs.Tables.{ReaderTables, noted, stopped, one_noted, noted_from}
use Rattle.reader.specs.Told.{read_on, note_on}

-- The bytes behind a field are fewer.
fewer : (s : List ℕ) (tag : ℕ) (body rest : List ℕ) → front s ≡ whole tag body rest → 3 + length rest ≤ length s
fewer s tag body rest e =
    let h = stands s tag body rest e in
    let l : length rest ≡ length s - (3 + length body) = ap length h.the_rest ∙ length-drop (3 + length body) s in
    omega (arith, h.fits)

module _ (known : ℕ → Bool) where
  -- ---- as many fields as bytes are enough: more make no difference

  same_field : (p : Problem) (o : ℕ) (f g : Problem → ℕ → List ℕ → Reading) (x : Field)
      → ((tag : ℕ) (body rest : List ℕ) → x ≡ whole tag body rest → (q : Problem) (i : ℕ) → f q i rest ≡ g q i rest)
      → one_field known p o f x ≡ one_field known p o g x
  same_field p o f g cut h = refl
  same_field p o f g (whole tag body rest) h = ap (unless (fault known (sizes p) tag body) o) (h tag body rest refl _ _)

  fields_fuel : (j k : ℕ) (p : Problem) (o : ℕ) (s : List ℕ) → length s ≤ j → length s ≤ k → fields_from known j p o s ≡ fields_from known k p o s
  unfolding fields_from
  fields_fuel zero zero p o s h l = refl
  fields_fuel zero (suc k) p o [] h l = refl
  fields_fuel zero (suc k) p o (b ∷ s) h l = absurd (omega arith)
  fields_fuel (suc j) zero p o [] h l = refl
  fields_fuel (suc j) zero p o (b ∷ s) h l = absurd (omega arith)
  fields_fuel (suc j) (suc k) p o [] h l = refl
  fields_fuel (suc j) (suc k) p o (b ∷ s) h l =
      same_field p o (λ q i r. fields_from known j q i r) (λ q i r. fields_from known k q i r) (front (b ∷ s))
      (λ tag body rest e q i. let m = fewer (b ∷ s) tag body rest e in fields_fuel j k q i rest (omega arith) (omega arith))

  same_notes : (p : Problem) (o : ℕ) (t : ReaderTables) (f g : Problem → ℕ → List ℕ → ReaderTables → ReaderTables) (w : ℕ) (x : Field)
      → ((tag : ℕ) (body rest : List ℕ) → x ≡ whole tag body rest → (q : Problem) (i : ℕ) (u : ReaderTables) → f q i rest u ≡ g q i rest u)
      → one_noted known p o t f w x ≡ one_noted known p o t g w x
  same_notes p o t f g w cut h = refl
  same_notes p o t f g w (whole tag body rest) h = ap (stopped (fault known (sizes p) tag body) t) (h tag body rest refl _ _ _)

  notes_fuel : (j k : ℕ) (p : Problem) (o : ℕ) (s : List ℕ) (t : ReaderTables) → length s ≤ j → length s ≤ k
      → noted_from known j p o s t ≡ noted_from known k p o s t
  unfolding noted_from
  notes_fuel zero zero p o s t h l = refl
  notes_fuel zero (suc k) p o [] t h l = refl
  notes_fuel zero (suc k) p o (b ∷ s) t h l = absurd (omega arith)
  notes_fuel (suc j) zero p o [] t h l = refl
  notes_fuel (suc j) zero p o (b ∷ s) t h l = absurd (omega arith)
  notes_fuel (suc j) (suc k) p o [] t h l = refl
  notes_fuel (suc j) (suc k) p o (b ∷ s) t h l =
      same_notes p o t (λ q i r u. noted_from known j q i r u) (λ q i r u. noted_from known k q i r u) (eight (b ∷ s)) (front (b ∷ s))
      (λ tag body rest e q i u. let m = fewer (b ∷ s) tag body rest e in notes_fuel j k q i rest u (omega arith) (omega arith))

  -- ---- what is in front

  module _ (p : Problem) (o : ℕ) where
    -- A field without fault, and the rest.
    pub field_sound : (s : List ℕ) (tag : ℕ) (body rest : List ℕ) → front s ≡ whole tag body rest → fault known (sizes p) tag body ≡ 0
        → let q = add p o (item tag body) in
        let i = o + (3 + length body) in
        (read_on known p o s ≡ read_on known q i rest)
        × ((t : ReaderTables) → note_on known p o s t ≡ note_on known q i rest (noted (said_by 0 (item tag body)) (eight s) o (counts_of p) t))
    unfolding fields_from noted_from front
    field_sound [] tag body rest e z = let k : ◌≡◌ {A = ℕ} 0 1 = cc in absurd (omega arith)
    field_sound (b ∷ s) tag body rest e z =
        let m = fewer (b ∷ s) tag body rest e in (
          rw (e, z) (fields_fuel (length s) (length rest) _ _ rest (omega arith) (omega arith)),
          λ t. rw (e, z) (notes_fuel (length s) (length rest) _ _ rest _ (omega arith) (omega arith)),
        )

    -- A field at fault.
    pub field_faulty : (s : List ℕ) (tag f : ℕ) (body rest : List ℕ) → front s ≡ whole tag body rest → fault known (sizes p) tag body ≡ f → (f ≡ 0 → ⊥)
        → (read_on known p o s ≡ unreadable f o) × ((t : ReaderTables) → note_on known p o s t ≡ t)
    unfolding fields_from noted_from front
    field_faulty [] tag f body rest e z h = let k : ◌≡◌ {A = ℕ} 0 1 = cc in absurd (omega arith)
    field_faulty (b ∷ s) tag zero body rest e z h = absurd (h refl)
    field_faulty (b ∷ s) tag (suc f) body rest e z h = (rw (e, z), λ t. rw (e, z))

    -- A field that is cut.
    pub cut_field : (s : List ℕ) → 0 < length s → front s ≡ cut
        → (read_on known p o s ≡ unreadable 3 o) × ((t : ReaderTables) → note_on known p o s t ≡ t)
    unfolding fields_from noted_from
    cut_field [] h e = absurd (omega arith)
    cut_field (b ∷ s) h e = (rw e, λ t. rw e)

    -- Nothing.
    pub no_field : (s : List ℕ) → s ≡ [] → (read_on known p o s ≡ read p) × ((t : ReaderTables) → note_on known p o s t ≡ t)
    unfolding fields_from noted_from
    no_field s e = (rw e, λ t. rw e)
