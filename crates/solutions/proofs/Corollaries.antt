-- What follows from demand 3: each accepted answer solves its problem and its substitution done twice is itself; the same demands in another order
-- or listed twice are accepted or refused alike, with equally general answers; and the same said of the solver from bytes to result.
use Prim.Native.Nat.{ℕ, ◌≤◌}
use native.Mathlib.Omega.{arith}
use mathlib.Core.Path.{◌≡◌, refl}
use mathlib.Core.Logic.{◌↔◌, ◌⊎◌, inl, inr}
use mathlib.Core.Bool.{Bool}
use mathlib.Core.List.{List}
use mathlib.Core.Option.{Option, none, some}
use Rattle.names.proofs.Equal.{by_eq}
use Rattle.field.specs.Field.{Bytes}
use Rattle.nominal.specs.Tree.{Substitution}
use Rattle.nominal.specs.Solutions.{Facts, environment_of, Allowed, Solves, Unbound}
use Rattle.nominal.proofs.Solutions.{own_instance, protecting_variable, solves_among}
use Rattle.problem.specs.Problem.{Problem}
use Rattle.problem.specs.Readable.{Readable}
use Rattle.problem.specs.Reader.{Reading, read, reading, base_tags, unreadable as unread}
use Rattle.problem.proofs.Readable.{readable}
use Rattle.problem.proofs.Numbers.{OneToSeven, reading_number}
use Rattle.run.specs.Meaning.{Binding, Fact, meaning}
use Rattle.run.specs.Run.{Refusal, clash, inside, protection, End, limit, refused, finished, run_of}
use Rattle.run.specs.Answer.{resolved_all, facts, answer_bytes, Verdict, accepted, refusal, refusal_number, concluded, verdict_of, verdict_read, Result}
use Rattle.run.specs.Answer.{written}
use Rattle.run.specs.Answer.{NoSolution}
use Rattle.run.specs.Answer.{given as result, solve}
use Rattle.run.proofs.Questions.{Wherever, NamedFact}
use Rattle.run.proofs.Facts.{every_facts}
use Rattle.run.proofs.Written.{written_number}
use Rattle.run.proofs.Bindings.{Meant, meant_idempotent, meant_only}
use Rattle.run.proofs.States.{ground_with, AtEnd}
use Rattle.solutions.specs.Promises.{asked, IsProtected, allowance, answer_of, Unsolvable, Promised, Proper, SameDemands, Agree, Accepts, Refuses}
use Rattle.solutions.proofs.Named.{asks_named}
use Rattle.solutions.proofs.Answers.{asked_all, facts_named, facts_unbound, Kept, run_kept, listed, meaning_allowed, promised}

-- ---- an answer by itself

-- An accepted answer is proper; the run's own numbers are 8 to 12.
abbrev pub ProperVerdict : Problem → Verdict → Type 0
ProperVerdict p (accepted steps bs fs) = Proper p bs fs
ProperVerdict p (refusal n o) = (8 ≤ n) × (n ≤ 12)

module _ (p : Problem) (r : Readable p) where
  number_run : (c : Refusal) → (8 ≤ refusal_number c) × (refusal_number c ≤ 12)
  number_run clash = (omega arith, omega arith)
  number_run inside = (omega arith, omega arith)
  number_run protection = (omega arith, omega arith)

  concluded_proper : (k : ℕ) (bs : List Binding) (is_protected : ℕ → Bool) → Meant (ground_with p is_protected) p.variables bs (meaning p.nodes bs)
      → ((fs : Facts) → Allowed (allowance p) fs (meaning p.nodes bs)) → (o : Option (List Fact))
      → Wherever (NamedFact p.atoms p.variables) o → Wherever (Unbound (meaning p.nodes bs)) o → Promised (allowance p) p (concluded p k bs o)
      → ProperVerdict p (concluded p k bs o)
  concluded_proper k bs is_protected m a none n u h = (omega arith, omega arith)
  concluded_proper k bs is_protected m a (some fs) n u h = record {
    solves =
        (h (facts p fs) (meaning p.nodes bs) (a (facts p fs))).1
        (own_instance (allowance p) (protecting_variable (IsProtected p)) (answer_of p bs (facts p fs)));
    allowed = a (facts p fs);
    replaces = record { stays = m.free; becomes = m.worth; none_left = m.gone; apart = m.apart };
    only = λ τ c. meant_only m τ c.stays c.becomes;
    twice = meant_idempotent m;
    unbound = (every_facts p (Unbound (meaning p.nodes bs)) fs n).0 u;
  }

  verdict_proper : (x : End) → AtEnd (Kept p r (listed p)) x → Promised (allowance p) p (verdict_of p x) → ProperVerdict p (verdict_of p x)
  unfolding verdict_of
  verdict_proper (limit n) s h = (omega arith, omega arith)
  verdict_proper (refused c n) s h = number_run c
  verdict_proper (finished k bs ds) s h =
      let m = s.0.meant in
      concluded_proper k bs (listed p) m (λ fs. (tt, meaning_allowed p r s)) (resolved_all (meaning p.nodes bs) (asked_all p ds))
      (facts_named p (listed p) m (asked_all p ds) (asks_named p r (listed p) ds s.0.raised))
      (facts_unbound p (listed p) m (asked_all p ds)) h

  pub proper : ProperVerdict p (verdict_of p (run_of p))
  unfolding run_of
  proper = verdict_proper (run_of p) (run_kept p r (listed p)) (promised p r)

-- ---- order and repetition

-- The same demands have the same allowed pairs and the same solutions.
module _ (p q : Problem) (s : SameDemands p q) where
  allowed_same : (τ : Substitution) → (allowance p).allows_substitution τ ↔ (allowance q).allows_substitution τ
  allowed_same τ = (λ a. (a.0, λ X y. a.1 X ((s.protected X).1 y)), λ a. (a.0, λ X y. a.1 X ((s.protected X).0 y)))

  pub solves_same : (F : Facts) (τ : Substitution) → Solves (environment_of F) τ (asked p) ↔ Solves (environment_of F) τ (asked q)
  solves_same F τ = (
    solves_among (environment_of F) τ (asked p) (asked q) (λ d m. (s.demands d).1 m) (λ e m. (s.equations e).1 m),
    solves_among (environment_of F) τ (asked q) (asked p) (λ d m. (s.demands d).0 m) (λ e m. (s.equations e).0 m),
  )

  unsolvable_same : Unsolvable (allowance q) q → Unsolvable (allowance p) p
  unsolvable_same u F τ a h = u F τ (tt, (allowed_same τ).0 a.1) ((solves_same F τ).0 h)

  unsolvable_back : Unsolvable (allowance p) p → Unsolvable (allowance q) q
  unsolvable_back u F τ a h = u F τ (tt, (allowed_same τ).1 a.1) ((solves_same F τ).1 h)

  agree_verdicts : (v w : Verdict) → Promised (allowance p) p v → Promised (allowance q) q w → ProperVerdict p v → ProperVerdict q w → Agree p q v w
  agree_verdicts (accepted k bs fs) (accepted l cs gs) h i a b = λ F τ y. (
    λ n. let j = (i F τ (tt, (allowed_same τ).0 y.1)).0 ((solves_same F τ).0 ((h F τ y).1 n)) in (j.0, (allowed_same j.0).1 j.1, j.2, j.3),
    λ n. (h F τ y).0 ((solves_same F τ).1 ((i F τ (tt, (allowed_same τ).0 y.1)).1 (n.0, (allowed_same n.0).0 n.1, n.2, n.3))),
  )
  agree_verdicts (accepted k bs fs) (refusal n o) h i a b =
      by_eq n 8 (λ e. e) (λ m. absurd (let (x, y) = b in unsolvable_same (i (omega arith, y)) fs (meaning p.nodes bs) a.allowed a.solves))
  agree_verdicts (refusal n o) (accepted l cs gs) h i a b =
      by_eq n 8 (λ e. e) (λ m. absurd (let (x, y) = a in unsolvable_back (h (omega arith, y)) gs (meaning q.nodes cs) b.allowed b.solves))
  agree_verdicts (refusal n o) (refusal m u) h i a b = tt

  pub agree : Readable p → Readable q → Agree p q (verdict_of p (run_of p)) (verdict_of q (run_of q))
  agree r t = agree_verdicts (verdict_of p (run_of p)) (verdict_of q (run_of q)) (promised p r) (promised q t) (proper p r) (proper q t)

-- ---- from bytes to the solver's result

-- What the result's number says.
abbrev pub Tells : List ℕ → List ℕ → Result → Type 0
Tells input output r = ((r.number ≡ 0) ⊎ (r.number ≡ 13) → Accepts input output r) × (NoSolution r.number → Refuses input)

neither : (n : ℕ) → (n ≡ 0) ⊎ (n ≡ 13) → 8 ≤ n → n ≤ 12 → ⊥
neither n (inl e) h k = omega arith
neither n (inr e) h k = omega arith

unread_number : (n : ℕ) → (n ≡ 0) ⊎ (n ≡ 13) → 1 ≤ n → n ≤ 7 → ⊥
unread_number n (inl e) h k = omega arith
unread_number n (inr e) h k = omega arith

module _ (input output : List ℕ) where
  tells_verdict : (p : Problem) → reading base_tags input ≡ read p → (v : Verdict) → Promised (allowance p) p v → ProperVerdict p v
      → Tells input output (result v output)
  unfolding result
  tells_verdict p e (accepted steps bs fs) h a = (
    λ n. record { problem = p; steps = steps; bindings = bs; facts = fs; reads = e; writes = refl; answers = h; proper = a },
    λ l. absurd (let (x, y) = l in neither (written (answer_bytes steps bs fs) output).number
        (written_number (answer_bytes steps bs fs) output) (omega arith) y),
  )
  tells_verdict p e (refusal n o) h a = (λ m. absurd (neither n m a.0 a.1), λ l. record { problem = p; reads = e; unsolvable = h l })

  tells_reading : Bytes input → (x : Reading) → reading base_tags input ≡ x → OneToSeven x → Tells input output (result (verdict_read x) output)
  unfolding verdict_read result
  tells_reading b (read p) e n = let r : Readable p = readable base_tags input p b e in tells_verdict p e (verdict_of p (run_of p)) (promised p r) (proper p r)
  tells_reading b (unread n o) e k = (λ m. absurd (unread_number n m k.0 k.1), λ l. absurd (let (x, y) = k in let (v, w) = l in omega arith))

  -- Every list of bytes and every lent output: what the number that the solver gives back says.
  pub solve_tells : Bytes input → Tells input output (solve input output)
  unfolding solve
  solve_tells b = tells_reading b (reading base_tags input) refl (reading_number base_tags input)
