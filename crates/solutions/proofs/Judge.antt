-- Demand 2, the judge: with all variables protected the only allowed substitution leaves every variable as it is, so that the run keeps what figure 2
-- derives. The judge gives 0 exactly when figure 2 derives every equation and every freshness field from the assumptions, unless it gives 8.
use Prim.Native.Nat.{ℕ}
use native.Mathlib.Omega.{arith}
use mathlib.Core.Path.{◌≡◌, refl, sym, ◌∙◌}
use mathlib.Core.Logic.{◌↔◌, ◌⊎◌, inl, inr}
use mathlib.Core.Bool.{Bool, true, false, cond, true≢false}
use mathlib.Core.List.{List, [], ◌++◌, Memᴰ}
use mathlib.Core.Option.{Option, none, some}
use Rattle.field.specs.Field.{Bytes}
use Rattle.nominal.specs.Tree.{variable, Substitution}
use Rattle.nominal.specs.Figure2.{Environment, ◌⊢◌#◌, ◌⊢◌≈◌}
use Rattle.nominal.specs.Solutions.{Every, environment_of, Meets, Equates, Holds, Satisfies}
use Rattle.nominal.proofs.Tree.{substitute_variable}
use Rattle.nominal.proofs.Figure2.{fresh_suspension}
use Rattle.nominal.proofs.Laws.{equal_reflexive}
use Rattle.nominal.proofs.Solutions.{every_map, every_append}
use Rattle.problem.specs.Problem.{Assumed, Problem}
use Rattle.problem.specs.Readable.{Readable}
use Rattle.problem.specs.Reader.{Reading, read, reading, base_tags, unreadable as unread}
use Rattle.problem.proofs.Readable.{readable}
use Rattle.problem.proofs.Numbers.{OneToSeven, reading_number}
use Rattle.run.specs.Meaning.{Binding, Fact, tree, meaning}
use Rattle.run.specs.Run.{Demand, End, limit, refused, finished, run, equations_from}
use Rattle.run.specs.Answer.{subject_tree, asked_fresh, asked_raised, resolved_all, judged_run, assumed_facts, all_among, Judgement, holds_from, judgement_of}
use Rattle.run.specs.Answer.{judgement_read, judge}
use Rattle.run.proofs.Questions.{Each}
use Rattle.run.proofs.Facts.{all_among_true}
use Rattle.run.proofs.States.{AtEnd, start, ground_with}
use Rattle.solutions.specs.Promises.{asked, Derives, Judged}
use Rattle.solutions.proofs.Run.{RaisedMeet, Satisfied, Right, run_right}
use Rattle.solutions.proofs.Answers.{every_mapped, started, demands_resolved, Kept, run_kept}

-- All variables are protected.
abbrev pub all : ℕ → Bool
all X = true

-- So the allowed substitutions leave every variable as it is.
abbrev pub Still : Environment → Substitution → Type 0
Still ∇ τ = (X : ℕ) → τ X ≡ variable X

module _ (p : Problem) where
  -- The assumptions as an environment.
  abbrev assumed : Environment
  assumed = environment_of (assumed_facts p.assumptions)

  abbrev DerivesEquations : Type 0
  DerivesEquations = Every (λ e. assumed ⊢ tree p.nodes e.left ≈ tree p.nodes e.right) p.equations

  abbrev DerivesFreshness : Type 0
  DerivesFreshness = Every (λ d. assumed ⊢ d.atom # tree p.nodes d.node) p.freshness

  equations_asked : Every (Equates assumed variable) (asked p).equations ↔ DerivesEquations
  equations_asked =
      let k = every_mapped (Equates assumed variable) (λ e. (tree p.nodes e.left, tree p.nodes e.right)) p.equations in (
        λ h. every_map (λ e. Equates assumed variable (tree p.nodes e.left, tree p.nodes e.right))
            (λ e. assumed ⊢ tree p.nodes e.left ≈ tree p.nodes e.right)
            (λ e d. simp substitute_variable at d) p.equations (k.0 h),
        λ h. k.1 (every_map (λ e. assumed ⊢ tree p.nodes e.left ≈ tree p.nodes e.right)
            (λ e. Equates assumed variable (tree p.nodes e.left, tree p.nodes e.right))
            (λ e d. simp substitute_variable d) p.equations h),
      )

  freshness_asked : Every (Meets assumed variable) (asked_fresh p.nodes p.freshness) ↔ DerivesFreshness
  freshness_asked =
      let k = every_mapped (Meets assumed variable) (λ d. (d.atom, tree p.nodes d.node)) p.freshness in (
        λ h. every_map (λ d. Meets assumed variable (d.atom, tree p.nodes d.node)) (λ d. assumed ⊢ d.atom # tree p.nodes d.node)
            (λ e d. simp substitute_variable at d) p.freshness (k.0 h),
        λ h. k.1 (every_map (λ d. assumed ⊢ d.atom # tree p.nodes d.node) (λ d. Meets assumed variable (d.atom, tree p.nodes d.node))
            (λ e d. simp substitute_variable d) p.freshness h),
      )

  -- A fact that no substitution has touched holds exactly if it is assumed.
  facts_assumed : (fs : List Fact) → Every (Holds assumed variable) fs ↔ Every (λ f. Memᴰ f (assumed_facts p.assumptions)) fs
  facts_assumed fs = (
    every_map (Holds assumed variable) (λ f. Memᴰ f (assumed_facts p.assumptions)) (λ f h. fresh_suspension.0 h) fs,
    every_map (λ f. Memᴰ f (assumed_facts p.assumptions)) (Holds assumed variable) (λ f h. fresh_suspension.1 h) fs,
  )

  -- "a resulting fact that isn't assumed, gives 14; otherwise 0"
  holds_judged : (o : Option (List Fact)) → Derives p ↔ Each (Holds assumed variable) o → Judged p (holds_from p.assumptions o)
  holds_judged none x = λ n. (λ e. absurd (omega arith), λ d. absurd (x.0 d))
  holds_judged (some fs) x = λ n. by_among (all_among (assumed_facts p.assumptions) fs) refl
    where
      by_among : (b : Bool) → all_among (assumed_facts p.assumptions) fs ≡ b → ((cond {A = Judgement} b (0, 0) (14, 0)).0 ≡ 0) ↔ Derives p
      by_among true e = (λ z. x.1 ((facts_assumed fs).1 ((all_among_true (assumed_facts p.assumptions) fs).0 e)), λ d. refl)
      by_among false e =
          (λ z. absurd (omega arith), λ d. absurd (true≢false (sym ((all_among_true (assumed_facts p.assumptions) fs).1 ((facts_assumed fs).0 (x.0 d))) ∙ e)))

  module _ (r : Readable p) where
    finished_judged : (bs : List Binding) (ds : List Demand) → Kept p r all [] bs ds
        → Satisfied p.nodes assumed variable (equations_from p.atoms 0 p.equations) [] [] ↔ Satisfied p.nodes assumed variable [] bs ds
        → Derives p ↔ Each (Holds assumed variable) (resolved_all (meaning p.nodes bs) (asked_fresh p.nodes p.freshness ++ asked_raised p.nodes ds))
    finished_judged bs ds s x = (
      λ d. resolve.0 ((every_append (Meets assumed variable) (asked_fresh p.nodes p.freshness) (asked_raised p.nodes ds)).1
          (freshness_asked.1 d.1, raised.1 (x.0 ((started p assumed variable).1 (equations_asked.1 d.0))).raised)),
      λ h.
          let k = (every_append (Meets assumed variable) (asked_fresh p.nodes p.freshness) (asked_raised p.nodes ds)).0 (resolve.1 h) in (
            equations_asked.0 ((started p assumed variable).0 (x.1 (record { waiting = tt; bound = nothing; raised = raised.0 k.1 }))),
            freshness_asked.0
                k.0,
          ),
    )
      where
        -- No variable is bound.
        nothing : Satisfies assumed variable (meaning p.nodes bs)
        nothing X = rw (s.0.meant.free X (s.1 X refl)) (equal_reflexive (variable X))

        resolve : Every (Meets assumed variable) (asked_fresh p.nodes p.freshness ++ asked_raised p.nodes ds)
            ↔ Each (Holds assumed variable) (resolved_all (meaning p.nodes bs) (asked_fresh p.nodes p.freshness ++ asked_raised p.nodes ds))
        resolve = demands_resolved (meaning p.nodes bs) assumed variable nothing (asked_fresh p.nodes p.freshness ++ asked_raised p.nodes ds)

        raised : Every (Meets assumed variable) (asked_raised p.nodes ds) ↔ RaisedMeet p.nodes assumed variable ds
        raised = every_mapped (Meets assumed variable) (λ d. (d.atom, subject_tree p.nodes d.subject)) ds

    end_judged : (x : End)
        → Right (ground_with p all) p.variables r.named_nodes Still (λ ∇ τ. Satisfied p.nodes ∇ τ (equations_from p.atoms 0 p.equations) [] []) x
        → AtEnd (Kept p r all) x → Judged p (judgement_of p x)
    unfolding judgement_of
    end_judged (limit n) y s = λ e. absurd (e refl)
    end_judged (refused c n) y s =
        λ e. (λ z. absurd (omega arith), λ d. absurd (y assumed variable (λ X. refl) ((started p assumed variable).1 (equations_asked.1 d.0))))
    end_judged (finished k bs ds) y s =
        holds_judged (resolved_all (meaning p.nodes bs) (asked_fresh p.nodes p.freshness ++ asked_raised p.nodes ds))
        (finished_judged bs ds s (y assumed variable (λ X. refl)))

    -- Of every readable problem.
    pub judged : Judged p (judgement_of p (judged_run p))
    unfolding judged_run
    judged =
        end_judged (run (ground_with p all) p.limit (equations_from p.atoms 0 p.equations) [] [])
        (run_right (ground_with p all) p.variables r.named_nodes Still p.limit (equations_from p.atoms 0 p.equations) [] [] (start p r all)
        (λ ∇ τ a X y e. a X))
        (run_kept p r all)

-- 0, 8 or 14, and a place only with 8.
abbrev pub JudgeNumber : Judgement → Type 0
JudgeNumber j = (j ≡ (0, 0)) ⊎ ((j ≡ (14, 0)) ⊎ (j.0 ≡ 8))

holds_number : (ds : List Assumed) (o : Option (List Fact)) → JudgeNumber (holds_from ds o)
holds_number ds none = inr (inl refl)
holds_number ds (some fs) = by_among (all_among (assumed_facts ds) fs)
  where
    by_among : (b : Bool) → JudgeNumber (cond b (0, 0) (14, 0))
    by_among true = inl refl
    by_among false = inr (inl refl)

pub judge_number : (p : Problem) (x : End) → JudgeNumber (judgement_of p x)
unfolding judgement_of
judge_number p (limit n) = inr (inr refl)
judge_number p (refused c n) = inr (inl refl)
judge_number p (finished k bs ds) =
    holds_number p.assumptions (resolved_all (meaning p.nodes bs) (asked_fresh p.nodes p.freshness ++ asked_raised p.nodes ds))

-- ---- from bytes

module _ (input : List ℕ) (b : Bytes input) where
  pub judge_exactly : (p : Problem) → reading base_tags input ≡ read p → Judged p (judge input)
  unfolding judge judgement_read
  judge_exactly p e = rw e (judged p (readable base_tags input p b e))

  judged_read : (x : Reading) → reading base_tags input ≡ x → OneToSeven x → (judgement_read x).0 ≡ 0
      → (p : Problem) × (reading base_tags input ≡ read p) × Derives p
  unfolding judgement_read
  judged_read (read p) e n z = (p, e, (judged p (readable base_tags input p b e) (λ k. absurd (omega arith))).0 z)
  judged_read (unread n o) e k z = absurd (let (x, y) = k in omega arith)

  -- 0 is given only to a problem that was read and is derivable.
  pub judge_holds : (judge input).0 ≡ 0 → (p : Problem) × (reading base_tags input ≡ read p) × Derives p
  unfolding judge
  judge_holds z = judged_read (reading base_tags input) refl (reading_number base_tags input) z
