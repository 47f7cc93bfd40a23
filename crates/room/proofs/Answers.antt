-- "Its output room is 16,384 bytes, so 13 never prints": an answer to a readable problem is never longer, since each variable is bound at most once
-- and each fact stands once.
use Prim.Native.Nat.{ℕ, ◌≤◌}
use native.Mathlib.Omega.{arith}
use mathlib.Core.Path.{◌≡◌, refl, ap}
use mathlib.Core.Logic.{◌≢◌}
use mathlib.Core.Option.{Option, none, some}
use mathlib.Core.List.{List, [], ◌++◌}
use lib.ListN.{length}
use borrow.Author.Tests.{le-leb}
use Rattle.nominal.proofs.Solutions.{every_map}
use Rattle.problem.specs.Problem.{Problem}
use Rattle.field.specs.Field.{Bytes}
use Rattle.problem.specs.Readable.{Readable}
use Rattle.problem.specs.Reader.{Reading, read, reading, base_tags}
use Rattle.problem.proofs.Readable.{readable}
use Rattle.problem.proofs.Numbers.{OneToSeven, reading_number}
use Rattle.run.specs.Meaning.{Binding, meaning, Fact}
use Rattle.run.specs.Run.{Equation, Demand, Refusal, clash, inside, protection, End, limit, refused, finished, run_of, equations_from, ground_of}
use Rattle.run.specs.Answer.{Asked, asked_fresh, asked_assumed, asked_raised, resolved_all, Verdict, accepted, refusal, refusal_number, concluded, facts}
use Rattle.run.specs.Answer.{verdict_of}
use Rattle.run.specs.Answer.{verdict_read, answer_bytes, written, given, solve}
use Rattle.run.proofs.States.{AtEnd, run_end}
use Rattle.room.proofs.Bytes.{Narrow, answer_short, facts_few}
use Rattle.room.proofs.Reached.{Once, Listed, once_next, once_few}
use Rattle.room.proofs.Room.{once_start}

abbrev asked : Problem → List Demand → List Asked
asked p ds = asked_fresh p.nodes p.freshness ++ asked_assumed p.assumptions ++ asked_raised p.nodes ds

module _ (p : Problem) (r : Readable p) (k : ℕ) (bs : List Binding) (fs : List Fact) where
  -- The run's end, of which each variable is bound once.
  abbrev Sparse : List Equation → List Binding → List Demand → Type 1
  Sparse = Once (ground_of p) p.variables r.named_nodes

  short : (ds : List Demand) → Sparse [] bs ds → length fs ≤ 2048 → length (answer_bytes k bs fs) ≤ 16384
  short ds o f =
      omega (
        arith,
        answer_short k bs fs
            (every_map (Listed (ground_of p) p.variables r.named_nodes) (Narrow 32) (λ b h. omega (arith, h.1.images.long, r.few_atoms)) bs
            o.listed)
            (omega (arith, once_few (ground_of p) p.variables r.named_nodes o, r.few_variables)) f,
      )

  concluded_short : (j : ℕ) (cs : List Binding) (ds : List Demand) → Sparse [] cs ds → (o : Option (List Fact)) → concluded p j cs o ≡ accepted k bs fs
      → length (answer_bytes k bs fs) ≤ 16384
  concluded_short j cs ds u none e = absurd (let z : ◌≡◌ {A = ℕ} 0 1 = cc in omega arith)
  concluded_short j cs ds u (some gs) e =
      let q : cs ≡ bs = cc in
      let f : facts p gs ≡ fs = cc in
      short ds (rw q at u) (omega (arith, ap length f, facts_few p gs r.few_atoms r.few_variables))

  end_short : (e : End) → AtEnd Sparse e → verdict_of p e ≡ accepted k bs fs → length (answer_bytes k bs fs) ≤ 16384
  unfolding verdict_of
  end_short (limit n) u e = absurd (let z : ◌≡◌ {A = ℕ} 0 1 = cc in omega arith)
  end_short (refused q n) u e = absurd (let z : ◌≡◌ {A = ℕ} 0 1 = cc in omega arith)
  end_short (finished j cs ds) u e = concluded_short j cs ds u (resolved_all (meaning p.nodes cs) (asked p ds)) e

  pub answer_room : verdict_of p (run_of p) ≡ accepted k bs fs → length (answer_bytes k bs fs) ≤ 16384
  unfolding run_of
  answer_room e =
      end_short (run_of p)
      (run_end (ground_of p) Sparse (once_next (ground_of p) p.variables r.named_nodes) p.limit (equations_from p.atoms 0 p.equations) [] []
      (once_start p r (ground_of p).protected))
      e

-- ---- 13 is given to nobody who lends 16,384 bytes

-- A refusal with another number.
abbrev Other : Verdict → Type 0
Other (accepted k bs fs) = Unit {0}
Other (refusal n o) = n ≢ 13

concluded_other : (p : Problem) (j : ℕ) (cs : List Binding) (o : Option (List Fact)) → Other (concluded p j cs o)
concluded_other p j cs none = omega arith
concluded_other p j cs (some gs) = tt

number_of_other : (q : Refusal) → refusal_number q ≢ 13
number_of_other clash = omega arith
number_of_other inside = omega arith
number_of_other protection = omega arith

verdict_other : (p : Problem) (e : End) → Other (verdict_of p e)
unfolding verdict_of
verdict_other p (limit n) = omega arith
verdict_other p (refused q n) = number_of_other q
verdict_other p (finished j cs ds) = concluded_other p j cs (resolved_all (meaning p.nodes cs) (asked p ds))

given_other : (output : List ℕ) (v : Verdict) → Other v
    → ((k : ℕ) (bs : List Binding) (fs : List Fact) → v ≡ accepted k bs fs → length (answer_bytes k bs fs) ≤ length output)
    → (given v output).number ≢ 13
unfolding given written
given_other output (accepted k bs fs) h f = rw (le-leb (length (answer_bytes k bs fs)) (length output) (f k bs fs refl)) (omega arith)
given_other output (refusal n o) h f = h

read_other : (output : List ℕ) → 16384 ≤ length output → (q : Reading) → OneToSeven q → ((p : Problem) → q ≡ read p → Readable p)
    → (given (verdict_read q) output).number ≢ 13
unfolding verdict_read
read_other output h (read p) k f =
    given_other output (verdict_of p (run_of p)) (verdict_other p (run_of p)) (λ j bs fs e. let l = answer_room p (f p refl) j bs fs e in omega arith)
read_other output h (Rattle.problem.specs.Reader.unreadable n o) k f =
    given_other output (refusal n o) (omega arith) (λ j bs fs e. absurd (let z : ◌≡◌ {A = ℕ} 0 1 = cc in omega arith))

pub never_13 : (input output : List ℕ) → Bytes input → 16384 ≤ length output → (solve input output).number ≢ 13
unfolding solve
never_13 input output b h = read_other output h (reading base_tags input) (reading_number base_tags input) (λ p e. readable base_tags input p b e)
