-- Resolving in the tables tells what resolving by the definition does: for whatever the table asks, and so with the assumptions added to it or without.
use Prim.Native.Nat.{ℕ, ◌≤◌}
use native.Mathlib.Omega.{arith}
use mathlib.Core.Path.{◌≡◌, subst}
use mathlib.Core.Bool.{Bool, true, not, ◌&&◌}
use mathlib.Core.List.{List, ◌++◌}
use lib.ListN.{get_or}
use Rattle.sets.specs.Bits.{member}
use Rattle.problem.specs.Problem.{Problem}
use Rattle.problem.specs.Readable.{Readable}
use Rattle.problem.specs.Held.{problem_of}
use Rattle.problem.specs.Told.{ReadInto}
use Rattle.problem.specs.declared.Counts.{Counts}
use Rattle.problem.proofs.Counted.{all_atoms, all_variables}
use Rattle.run.specs.Answer.{Asked, asked_fresh, asked_assumed, asked_raised, has_fact}
use Rattle.bindings.specs.Bindings.{Bindings, bindings_of}
use Rattle.visit.specs.Pairs.{Pair}
use Rattle.visit.specs.Visited.{Marked}
use Rattle.fresh.specs.Resolved.{PairsResolved, Asks}
use Rattle.fresh.specs.Marks.{value_at, Bound}
use Rattle.fresh.proofs.Tables.{bound_values, resolved_tables}
use Rattle.asked.specs.Added.{AssumptionsAdded}
use Rattle.asked.proofs.Asks.{assumptions_asks, assumed_small}
use Rattle.ending.specs.Ended.{Small, MeaningIn, Outcome, Resolves, Ended}
use Rattle.ending.proofs.Tests.{same_test, and_not}

module _ {p : Problem} {t : Bindings} {count bound : ℕ} (m : MeaningIn p t count bound) where
  pub bound_in : Bound p bound t.made t.values
  bound_in = bound_values p m.protected t count bound m.keeps m.meaning

  -- The marks in the tables are read off as the definition's facts.
  pub outcome : Readable p → {ds : List Asked} {S : Pair → Type 0} (seen : List ℕ) {after : List ℕ} {fails : Bool} → Asks p.nodes ds S
      → PairsResolved p.nodes (value_at p.atoms bound t.made t.values) S (Marked p seen after) (fails ≡ true)
      → Outcome p (bindings_of p.atoms t count) ds bound after fails
  outcome r {ds} {S} seen {after} {fails} asks res =
      let (failing, quiet) = resolved_tables p m.protected t count bound m.keeps m.meaning r.named_nodes seen after fails res ds asks in
      record {
        not_fresh = failing;
        facts = λ e.
            let (fs, q, says) = quiet e in (
              fs,
              q,
              λ a X l.
                  let test = and_not (member bound X) (member (get_or after X 0) a) in
                  same_test (has_fact (a, X) fs) (not (member bound X) && member (get_or after X 0) a)
                  (λ h. let w = (says a X).0 h in test.1 (w.0.1, w.1), λ h. let w = test.0 h in (says a X).1 ((l, w.0), w.1)),
              λ a X h. ((says a X).0 h).0.0,
            );
      }

-- ---- the solver adds the assumptions, as many variables as it counts

module _ {s : List ℕ} {places : List ℕ} {assumed : List ℕ} {c : Counts} (read : ReadInto s places assumed c) {t : Bindings} {count bound : ℕ}
    {asked : List (List ℕ)} {steps : ℕ} (e : Ended (problem_of s) t count bound asked steps) {asked' : List (List ℕ)}
    (added : AssumptionsAdded c.variables assumed asked asked') where
  all_added : AssumptionsAdded (problem_of s).variables assumed asked asked'
  all_added = subst (λ (n : ℕ). AssumptionsAdded n assumed asked asked') (all_variables (problem_of s) read.counts) added

  pub solver_small : Small (problem_of s) asked'
  solver_small = assumed_small (problem_of s) read.standing.readable assumed asked asked' read.assumptions all_added e.small

  -- "the demands of tags 21 and 22 and those raised are resolved".
  pub solver_outcome : {after : List ℕ} {fails : Bool} → Resolves (problem_of s) t bound asked' after fails
      → Outcome (problem_of s) (bindings_of (problem_of s).atoms t count)
      (asked_fresh (problem_of s).nodes (problem_of s).freshness ++ (asked_assumed (problem_of s).assumptions ++ asked_raised (problem_of s).nodes e.demands))
      bound after fails
  solver_outcome resolves =
      resolves count e.meant _ (assumptions_asks (problem_of s) read.standing.readable assumed asked asked' read.assumptions all_added e.asks)

pub few_variables : {s : List ℕ} {places : List ℕ} {assumed : List ℕ} {c : Counts} → ReadInto s places assumed c → c.variables ≤ 64
few_variables read = omega (arith, all_variables _ read.counts, read.standing.readable.few_variables)

pub few_atoms : {s : List ℕ} {places : List ℕ} {assumed : List ℕ} {c : Counts} → ReadInto s places assumed c → c.atoms ≤ 32
few_atoms read = omega (arith, all_atoms _ read.counts, read.standing.readable.few_atoms)
