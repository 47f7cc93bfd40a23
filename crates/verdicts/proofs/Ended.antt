-- From the run's end in the tables to what is given back of it: where it is accepted, the bindings have a meaning and the table asks for the demands raised.
use Prim.Native.Nat.{ℕ}
use native.Mathlib.Omega.{arith}
use mathlib.Core.Path.{◌≡◌, refl, sym, ◌∙◌, ap, subst}
use Rattle.std.specs.Prelude.{Result, Err}
use mathlib.Core.List.{List}
use Rattle.sets.specs.Bits.{member}
use Rattle.problem.specs.Problem.{Problem}
use Rattle.problem.specs.Readable.{Readable}
use Rattle.problem.specs.Held.{problem_of}
use Rattle.problem.specs.Told.{counts_of}
use Rattle.problem.specs.declared.Counts.{Counts}
use Rattle.problem.proofs.Counted.{all_atoms, whole_limit}
use Rattle.run.specs.Meaning.{Binding}
use Rattle.run.specs.Run.{Demand, End, limit, refused, finished}
use Rattle.bindings.specs.Bindings.{Bindings, bindings_of}
use Rattle.demands.specs.Demands.{asked_of_nodes, asked_of_variables}
use Rattle.numbers.specs.declared.Refusal.{Refusal}
use Rattle.perform.specs.Performed.{StepTables}
use Rattle.quick.specs.Going.{end_of}
use Rattle.machine.specs.Run.{Founded, RunFinished, end_given}
use Rattle.machine.specs.Run as machine
use Rattle.machine.specs.declared.verdict.Ran.{Ran}
use Rattle.fresh.proofs.Right.{meaningful}
use Rattle.asked.specs.Added.{Words}
use Rattle.asked.proofs.Asks.{raised_asks, raised_small}
use Rattle.ending.specs.Ended.{Ended, end_in}
use Rattle.verdicts.specs.Ends.{run_from, RunEnds}
use Rattle.verdicts.proofs.Runs.{end_state}

module _ (s : List ℕ) (r : Readable (problem_of s)) (w : ℕ) {before : Bindings} {count bound : ℕ} (founded : Founded (problem_of s) before count bound)
    (t : StepTables) (r₁ : Result Ran Refusal) (narrow : Words (asked_of_nodes t.sheet.asked) × Words (asked_of_variables t.sheet.asked)) where
  abbrev p : Problem
  p = problem_of s

  -- The definition's run, and what is said of it.
  abbrev its_end : End
  its_end = run_from p (member w) (bindings_of p.atoms before count)

  abbrev Says : Type 0
  Says = RunEnds p t.bindings t.sheet.asked r₁ its_end

  -- ---- an accepted run

  module _ (k : ℕ) (bs : List Binding) (ds : List Demand) (finishes : its_end ≡ finished k bs ds) (f : RunFinished s p.atoms p.limit t r₁ k bs ds) where
    finished_in : its_end ≡ finished k (bindings_of p.atoms t.bindings f.ran.count) ds
    finished_in = finishes ∙ ap (λ (l : List Binding). finished k l ds) (sym f.made)

    ended : Ended p t.bindings f.ran.count f.ran.bound.0 t.sheet.asked f.ran.steps
    ended =
        let state = end_state p r (member w) founded.circleless finished_in in
        let raised = state.raised in
        record {
          meant = record { keeps = f.keeps; protected = member w; meaning = meaningful state.meant };
          demands = ds;
          asks = raised_asks p r (member w) ds raised t.sheet f.raised narrow.0 narrow.1;
          small = raised_small p r (member w) ds raised t.sheet f.raised narrow.0 narrow.1;
          left = k;
          counted = let taken = f.taken in omega arith;
        }

    -- What is said of an accepted run.
    abbrev Accepted : Ran → Type 0
    Accepted ran = (e : Ended p t.bindings ran.count ran.bound.0 t.sheet.asked ran.steps) × (its_end ≡ end_in e)

    accepted : Says
    unfolding ended
    accepted = record {
      refused = λ g e. absurd (cc (f.verdict, e));
      accepted = λ ran e. subst Accepted (cc (f.verdict, e)) (ended, finished_in);
    }

  -- ---- by the definition's end

  refuses : {g : Refusal} → end_given its_end ≡ Err g → r₁ ≡ Err g → Says
  refuses {g} e v = record {
    refused = λ h q. let k : g ≡ h = cc in e ∙ ap Err k;
    accepted = λ ran q. absurd (cc);
  }

  by_end : (x : End) → its_end ≡ x → machine.RunEnded s p.atoms p.limit t r₁ x → Says
  by_end (limit n) e v = refuses (ap end_given e) v
  by_end (refused why n) e v = refuses (ap end_given e) v
  by_end (finished k bs ds) e f = accepted k bs ds e f

  pub ends : {c : Counts} → c ≡ counts_of p
      → machine.RunEnded s c.atoms c.limit t r₁ (end_of s w c.limit (bindings_of c.atoms before count)) → Says
  ends counts h = by_end its_end refl (rw (all_atoms p counts, whole_limit p counts) at h)
