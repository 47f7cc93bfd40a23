-- What the program prints: for every input, with 16,384 bytes of output and four times that of room for the lines, exactly the lines of the
-- definition's verdict, whole. The numbers of a readable problem's answer fit the fields that carry them.
use Prim.Native.Nat.{ℕ, ◌*◌, ◌<◌, ◌≤◌}
use native.Mathlib.Omega.{arith}
use mathlib.Core.Path.{◌≡◌, refl, ◌∙◌}
use mathlib.Core.Option.{Option, none, some}
use mathlib.Core.List.{List, [], ◌∷◌, ◌++◌}
use lib.ListN.{length, take}
use Rattle.field.specs.Field.{Bytes}
use Rattle.nominal.specs.Solutions.{Every}
use Rattle.problem.specs.Problem.{Problem}
use Rattle.problem.specs.Readable.{Readable}
use Rattle.problem.specs.Reader.{Reading, read, unreadable, reading, base_tags}
use Rattle.problem.proofs.Readable.{readable}
use Rattle.problem.proofs.Numbers.{OneToSeven, reading_number}
use Rattle.run.specs.Meaning.{Binding, meaning, Fact}
use Rattle.run.specs.Run as run
use Rattle.run.specs.Run.{Equation, Demand, End, limit, finished, equations_from, ground_of, run_of}
use Rattle.run.specs.Answer.{asked_fresh, asked_assumed, asked_raised, resolved_all, Verdict, accepted, refusal, concluded, verdict_of}
use Rattle.run.specs.Answer.{verdict_read, solve}
use Rattle.run.proofs.States.{AtEnd, run_end}
use Rattle.room.proofs.Reached.{Once, Listed, once_next}
use Rattle.room.proofs.Room.{once_start}
use Rattle.room.proofs.Answers.{answer_room}
use Rattle.solutions.proofs.Corollaries.{ProperVerdict, proper}
use Rattle.printer.specs.Lines.{solver_lines}
use Rattle.printer.specs.Placed.{Placed}
use Rattle.printer.specs.Printed.{SmallBindings, verdict_lines}
use Rattle.printer.proofs.Answering.{Printable, printed}
use Rattle.printer.proofs.Fitting.{solver_length, placed_whole}

-- ---- the numbers of an answer are small

module _ (p : Problem) (r : Readable p) where
  abbrev Sparse : List Equation → List Binding → List Demand → Type 1
  Sparse = Once (ground_of p) p.variables r.named_nodes

  small : (bs : List Binding) → Every (Listed (ground_of p) p.variables r.named_nodes) bs → SmallBindings bs
  small [] l = tt
  small (b ∷ bs) l =
      ((omega (arith, l.0.1.there, r.few_nodes), omega (arith, l.0.1.images.long, r.few_atoms)), small bs l.1)

  -- Of an acceptance the steps and the bindings.
  abbrev Small : Verdict → Type 0
  Small (accepted k bs fs) = (k < 4294967296) × SmallBindings bs
  Small (refusal n o) = Unit {0}

  concluded_small : (j : ℕ) (cs : List Binding) (ds : List Demand) → Sparse [] cs ds → (o : Option (List Fact)) → Small (concluded p j cs o)
  concluded_small j cs ds u none = tt
  concluded_small j cs ds u (some fs) = (omega (arith, r.small_limit), small cs u.listed)

  end_small : (e : End) → AtEnd Sparse e → Small (verdict_of p e)
  unfolding verdict_of
  end_small (limit n) u = tt
  end_small (run.refused c n) u = tt
  end_small (finished j cs ds) u =
      concluded_small j cs ds u
      (resolved_all (meaning p.nodes cs) (asked_fresh p.nodes p.freshness ++ asked_assumed p.assumptions ++ asked_raised p.nodes ds))

  verdict_small : Small (verdict_of p (run_of p))
  unfolding run_of
  verdict_small =
      end_small (run_of p)
      (run_end (ground_of p) Sparse (once_next (ground_of p) p.variables r.named_nodes) p.limit (equations_from p.atoms 0 p.equations) [] []
      (once_start p r (ground_of p).protected))

  printable : (output : List ℕ) → 16384 ≤ length output → (v : Verdict) → verdict_of p (run_of p) ≡ v → Small v → ProperVerdict p v → Printable v output
  printable output h (accepted k bs fs) e s q = (s.0, s.1, omega (arith, h, answer_room p r k bs fs e))
  printable output h (refusal n o) e s q = λ z. let (x, y) = q in omega arith

-- ---- every input

module _ (input output : List ℕ) (b : Bytes input) (room : 16384 ≤ length output) where
  read_printable : (x : Reading) → reading base_tags input ≡ x → OneToSeven x → Printable (verdict_read x) output
  unfolding verdict_read
  read_printable (read p) e k =
      let r = readable base_tags input p b e in printable p r output room (verdict_of p (run_of p)) refl (verdict_small p r) (proper p r)
  read_printable (unreadable n o) e k = λ z. let (x, y) = k in omega arith

  -- The lines of what the solver gives back are the verdict's.
  pub lines_of_verdict : solver_lines (solve input output).number (solve input output).place (solve input output).output
      ≡ verdict_lines (verdict_read (reading base_tags input))
  unfolding solve
  lines_of_verdict = printed (verdict_read (reading base_tags input)) output (read_printable (reading base_tags input) refl (reading_number base_tags input))

  -- So with room for four bytes of lines for each byte of output, what the printer leaves up to the end that it answers is those lines, whole.
  pub verdict_printed : {d d' : List ℕ} {r : ℕ} → (solve input output).number < 256 → (solve input output).place < 18446744073709551616
      → Bytes (solve input output).output
      → 4 * length (solve input output).output ≤ length d → 33 ≤ length d
      → Placed d 0 (solver_lines (solve input output).number (solve input output).place (solve input output).output) r d'
      → take r d' ≡ verdict_lines (verdict_read (reading base_tags input))
  verdict_printed {d} n o c l m p =
      placed_whole p (omega (arith, solver_length (solve input output).number (solve input output).place (solve input output).output (length d) n o c l m))
      ∙ lines_of_verdict
