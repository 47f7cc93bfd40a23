-- Every verdict on a readable problem has 003's account, and the limit is the only way to fail.
use Prim.Native.Nat.{ℕ, ◌+◌, ◌-◌, ◌≤◌}
use native.Mathlib.Omega.{arith}
use mathlib.Core.Path.{◌≡◌, refl}
use mathlib.Core.Logic.{◌≢◌, ◌↔◌}
use mathlib.Core.List.{List, [], ◌++◌, Memᴰ}
use mathlib.Core.Option.{Option, none, some}
use Rattle.nominal.specs.Solutions.{Every, Facts}
use Rattle.nominal.proofs.Solutions.{every_at}
use Rattle.field.specs.Field.{Bytes}
use Rattle.problem.specs.Problem.{Problem}
use Rattle.problem.specs.Reader.{read, reading, base_tags}
use Rattle.problem.specs.Readable.{Readable}
use Rattle.problem.proofs.Readable.{readable}
use Rattle.run.specs.Meaning.{Binding, Fact, meaning}
use Rattle.run.specs.Run.{Equation, Demand, clash, inside, protection, End, limit, refused, finished, run, equations_from, ground_of, run_of}
use Rattle.run.specs.Answer.{Asked, asked_raised, resolved_all, facts, refusal, concluded, verdict_of, verdict_read}
use Rattle.run.proofs.Limit.{Ends, longer, run_longer}
use Rattle.run.proofs.Questions.{Wherever, NamedFact}
use Rattle.run.proofs.Facts.{mem_facts}
use Rattle.run.proofs.States.{State, state_next, AtEnd, run_end, start}
use Rattle.solutions.specs.Promises.{asked}
use Rattle.solutions.proofs.Named.{asks_named}
use Rattle.solutions.proofs.Answers.{facts_named}
use Rattle.figure3.specs.Ran.{Ran}
use Rattle.figure3.specs.Account.{Over, Account, at_limit, stuck, not_fresh, solved}
use Rattle.figure3.proofs.Second.{all_resolve, all_fail}
use Rattle.figure3.proofs.Ran.{solver_is_figure3, enough}

module _ (p : Problem) (r : Readable p) where
  -- The answer's facts are those that the demands came down to.
  same_facts : (fs : List Fact) → Every (NamedFact p.atoms p.variables) fs → (f : Fact) → Memᴰ f fs ↔ Memᴰ f (facts p fs)
  same_facts fs n f = (λ k. (mem_facts p fs f).1 (every_at (NamedFact p.atoms p.variables) k n, k), λ k. ((mem_facts p fs f).0 k).1)

  abbrev demanded : List Demand → List Asked
  demanded ds = (asked p).demands ++ asked_raised p.nodes ds

  concluded_account : (k n : ℕ) (bs : List Binding) (ds : List Demand) → n + k ≡ p.limit → Over p n bs ds
      → (o : Option Facts) → resolved_all (meaning p.nodes bs) (demanded ds) ≡ o → Wherever (NamedFact p.atoms p.variables) o
      → Account p (concluded p k bs o)
  concluded_account k n bs ds e h none q w = not_fresh n bs ds h (all_fail (meaning p.nodes bs) (demanded ds) q)
  concluded_account k n bs ds e h (some fs) q w =
      let m : p.limit - k ≡ n = omega arith in
      solved {steps = p.limit - k} {bs = bs} {fs = facts p fs} ds fs (rw m h) (all_resolve (meaning p.nodes bs) (demanded ds) fs q) (same_facts fs w)

  end_account : (e : End) → Ran (ground_of p) (asked p).demands (asked p) p.limit e → AtEnd (State (ground_of p) p.variables r.named_nodes) e
      → Account p (verdict_of p e)
  unfolding verdict_of
  end_account (limit m) h s = at_limit h
  end_account (refused x m) (n, l, t, k) s = stuck x n l t k
  end_account (finished k bs ds) (n, e, h) s =
      concluded_account k n bs ds e h (resolved_all (meaning p.nodes bs) (demanded ds)) refl
      (facts_named p (ground_of p).protected s.meant (demanded ds) (asks_named p r (ground_of p).protected ds s.raised))

  at_end : AtEnd (State (ground_of p) p.variables r.named_nodes) (run_of p)
  unfolding run_of
  at_end =
      run_end (ground_of p) (State (ground_of p) p.variables r.named_nodes)
      (λ e es bs ds qs b d s q. state_next (ground_of p) p.variables r.named_nodes e es bs ds qs b d s q)
      p.limit (equations_from p.atoms 0 p.equations) [] [] (start p r (ground_of p).protected)

  -- Demand 2: "the one run of their transformations that document 01 fixes".
  pub verdict_is_figure3 : Account p (verdict_of p (run_of p))
  verdict_is_figure3 = end_account (run_of p) (solver_is_figure3 p r) at_end

-- The same, said of bytes.
pub reading_is_figure3 : (input : List ℕ) (p : Problem) → Bytes input → reading base_tags input ≡ read p → Account p (verdict_read (reading base_tags input))
unfolding verdict_read
reading_is_figure3 input p b e = rw e (verdict_is_figure3 p (readable base_tags input p b e))

-- ---- the limit is the only way to fail

-- The same problem with another limit.
abbrev pub with_limit : Problem → ℕ → Problem
with_limit p L = record {
  atoms = p.atoms;
  variables = p.variables;
  limit = L;
  nodes = p.nodes;
  equations = p.equations;
  freshness = p.freshness;
  assumptions = p.assumptions;
  protected = p.protected;
}

concluded_ends : (p : Problem) (k : ℕ) (bs : List Binding) (o : Option Facts) (n : ℕ) → concluded p k bs o ≢ refusal 8 n
concluded_ends p k bs none n e = let z : ◌≡◌ {A = ℕ} 12 8 = cc in omega arith
concluded_ends p k bs (some fs) n e = let z : ◌≡◌ {A = ℕ} 0 1 = cc in omega arith

ends_verdict : (p : Problem) (e : End) → Ends e → (n : ℕ) → verdict_of p e ≢ refusal 8 n
unfolding verdict_of
ends_verdict p (limit m) h n e = h
ends_verdict p (refused clash m) h n e = let z : ◌≡◌ {A = ℕ} 9 8 = cc in omega arith
ends_verdict p (refused inside m) h n e = let z : ◌≡◌ {A = ℕ} 10 8 = cc in omega arith
ends_verdict p (refused protection m) h n e = let z : ◌≡◌ {A = ℕ} 11 8 = cc in omega arith
ends_verdict p (finished k bs ds) h n e = concluded_ends p k bs (resolved_all (meaning p.nodes bs) ((asked p).demands ++ asked_raised p.nodes ds)) n e

-- 003, lemma 3.2, for the solver: with a number of steps, and every larger one, the verdict is not 8.
pub limit_enough : (p : Problem) → Readable p → (N : ℕ) × ((L : ℕ) → N ≤ L → (n : ℕ) → verdict_of (with_limit p L) (run_of (with_limit p L)) ≢ refusal 8 n)
unfolding run_of
limit_enough p r =
    let (N, h) =
    enough p r (ground_of p).protected in
    (N, λ L l n. ends_verdict (with_limit p L) (run (ground_of p) L (equations_from p.atoms 0 p.equations) [] []) (h L l) n)

-- With more steps the verdict stays: the steps that it counts are those taken.
longer_verdict : (p : Problem) (L j : ℕ) (e : End) → verdict_of (with_limit p (L + j)) (longer j e) ≡ verdict_of (with_limit p L) e
unfolding verdict_of facts
longer_verdict p L j (limit m) = refl
longer_verdict p L j (refused x m) = refl
longer_verdict p L j (finished k bs ds) = by_facts (resolved_all (meaning p.nodes bs) ((asked p).demands ++ asked_raised p.nodes ds))
  where
    by_facts : (o : Option Facts) → concluded (with_limit p (L + j)) (k + j) bs o ≡ concluded (with_limit p L) k bs o
    by_facts none = refl
    by_facts (some fs) = let m : (L + j) - (k + j) ≡ L - k = omega arith in rw m

pub verdict_longer : (p : Problem) (L j : ℕ) → Ends (run_of (with_limit p L))
    → verdict_of (with_limit p (L + j)) (run_of (with_limit p (L + j))) ≡ verdict_of (with_limit p L) (run_of (with_limit p L))
unfolding run_of
verdict_longer p L j h =
    let es : List Equation = equations_from p.atoms 0 p.equations in
    rw (run_longer (ground_of p) j L es [] [] h) (longer_verdict p L j (run (ground_of p) L es [] []))
