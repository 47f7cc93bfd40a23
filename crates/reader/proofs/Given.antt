-- What the reader's answer gives: with `Ok` the input is a problem, which stands as those after the reader ask; with `Err` it is unreadable, by the
-- number and the place of the refusal.
use Prim.Native.Nat.{ℕ}
use native.Mathlib.Omega.{arith}
use mathlib.Core.Path.{◌≡◌, refl, sym, ◌∙◌, ap}
use mathlib.Core.List.{List}
use Rattle.sets.specs.Bits.{member}
use Rattle.std.specs.Prelude.{Result, Ok, Err}
use Rattle.numbers.specs.Numbers.{given_of, number_of}
use Rattle.numbers.specs.declared.Given.{Given}
use Rattle.numbers.specs.declared.Refusal.{Refusal}
use Rattle.problem.specs.Reader.{Reading, read, unreadable, reading, base_tags}
use Rattle.problem.specs.Held.{problem_in, problem_of}
use Rattle.problem.specs.Told.{counts_of}
use Rattle.reader.specs.Told.{told, told_by}
use Rattle.reader.specs.Tables.{ReaderTables, reader_tables}
use Rattle.reader.specs.Told.{ReadAs}
use Rattle.problem.specs.Told.{ReadInto}
use Rattle.variables.specs.Variables.{VariablesKept}
use Rattle.problem.specs.declared.Counts.{Counts}
use Rattle.problem.proofs.Looking.{standing}

module _ (s : List ℕ) where
  -- The code was told of a problem: the input is that one, and its numbers are the problem's.
  told_read : (c : Counts) → Ok c ≡ told (reading base_tags s) → (reading base_tags s ≡ read (problem_of s)) × (c ≡ counts_of (problem_of s))
  unfolding problem_of
  told_read c e = go (reading base_tags s) e
    where
      go : (x : Reading) → Ok c ≡ told x → (x ≡ read (problem_in x)) × (c ≡ counts_of (problem_in x))
      go (read p) q = (refl, cc)
      go (unreadable n o) q = let z : ◌≡◌ {A = ℕ} 0 1 = cc in absurd (omega arith)

  -- It was told of a refusal: the definition refuses, with the number and the place that are given.
  told_refused : (f : Refusal) → Err (given_of f) ≡ told (reading base_tags s) → reading base_tags s ≡ unreadable (number_of f.reason) f.place
  told_refused f e = go (reading base_tags s) e
    where
      go : (x : Reading) → Err (given_of f) ≡ told x → x ≡ unreadable (number_of f.reason) f.place
      go (read p) q = let z : ◌≡◌ {A = ℕ} 0 1 = cc in absurd (omega arith)
      go (unreadable n o) q =
          let e : given_of f ≡ record { number = n; place = o } = cc in ap (λ (g : Given). unreadable g.number g.place) (sym e)

-- The reader's answer is a problem; it is a refusal.
pub is_read : {s : List ℕ} {t u : ReaderTables} {r : Result Counts Refusal} {c : Counts} → ReadAs s t r u → r ≡ Ok c → reading base_tags s ≡ read (problem_of s)
is_read {s} {t} {u} {r} {c} h e = (told_read s c (ap told_by (sym e) ∙ h.the_answer)).0

pub is_refused : {s : List ℕ} {t u : ReaderTables} {r : Result Counts Refusal} {f : Refusal} → ReadAs s t r u → r ≡ Err f
    → reading base_tags s ≡ unreadable (number_of f.reason) f.place
is_refused {s} {t} {u} {r} {f} h e = told_refused s f (ap told_by (sym e) ∙ h.the_answer)

-- The problem stands as those after the reader ask; and of each node the set of its variables is there.
module _ {s : List ℕ} {t : ReaderTables} {r : Result Counts Refusal} {c : Counts} (places assumed variables : List ℕ)
    (h : ReadAs s t r (reader_tables places assumed variables)) (e : r ≡ Ok c) where
  pub read_into : ReadInto s places assumed c
  unfolding counts_of
  read_into =
      let counts = (told_read s c (ap told_by (sym e) ∙ h.the_answer)).1 in
      let held = (h.is_held (problem_of s) (is_read h e)).0 in
      record {
        standing = standing s places assumed _ held (h.is_readable (problem_of s) (is_read h e));
        counts = counts;
        assumptions = held.assumptions;
        protected = λ X. ap (λ (d : Counts). member d.protected.0 X) counts ∙ held.protection X;
      }

  pub sets_kept : VariablesKept (problem_of s).nodes variables
  sets_kept = (h.is_held (problem_of s) (is_read h e)).1
