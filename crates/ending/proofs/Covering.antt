-- The judge's last question: turn by turn, and that its answer is the definition's, whether every fact is among those assumed.
use Prim.Native.Nat.{ℕ, zero, suc, ◌+◌, ◌-◌, ◌^◌, ◌<◌, ◌≤◌}
use native.Mathlib.Omega.{arith}
use native.Mathlib.Numerals.{add-one}
use mathlib.Core.Path.{◌≡◌, refl, sym, ◌∙◌, ap, subst}
use mathlib.Core.Logic.{◌↔◌}
use mathlib.Core.Bool.{Bool, true, false, not, ◌&&◌, cond, true≢false}
use mathlib.Core.List.{List, Memᴰ}
use lib.ListN.{get_or}
use borrow.Author.Tests.{eqb-true, eq-eqb, not-true, not-false}
use Rattle.sets.specs.Bits.{member, difference}
use Rattle.sets.proofs.Bits.{by_test, subset_member, member_subset}
use Rattle.names.proofs.Equal.{by_eq}
use Rattle.nominal.proofs.Solutions.{every_at, every_of}
use Rattle.problem.specs.Problem.{Assumed}
use Rattle.problem.specs.Held.{assumes}
use Rattle.run.specs.Meaning.{Fact}
use Rattle.run.specs.Answer.{has_fact, assumed_facts, all_among}
use Rattle.run.proofs.Facts.{has_fact_true, all_among_true}
use Rattle.ending.specs.Covered.{covered_at, covered_from, covered}
use Rattle.ending.proofs.Tests.{same_test, and_not, assumes_fact}

module _ (bound : ℕ) (asked assumed : List ℕ) where
  -- ---- one after the other: after x of n variables the rest decides

  module _ (n : ℕ) where
    abbrev pub LeftAt : ℕ → Type 0
    LeftAt x = covered n bound asked assumed ≡ covered_from bound asked assumed x (n - x)

    pub covered_start : LeftAt 0
    unfolding covered
    covered_start = let e : n - 0 ≡ n = omega arith in ap (covered_from bound asked assumed 0) (sym e)

    module _ (x : ℕ) (known : LeftAt x) where
      one_more : x < n
          → covered_from bound asked assumed x (n - x) ≡ cond (covered_at bound asked assumed x) (covered_from bound asked assumed (suc x) (n - (x + 1))) false
      unfolding covered_from
      one_more l = let e : n - x ≡ suc (n - (x + 1)) = omega arith in ap (covered_from bound asked assumed x) e

      pub covered_fails : x < n → (t : Bool) → t ≡ covered_at bound asked assumed x → not t ≡ true → false ≡ covered n bound asked assumed
      covered_fails l t e q = sym (known ∙ one_more l ∙ rw (sym e ∙ not-true t q))

      pub covered_goes : x < n → (t : Bool) → t ≡ covered_at bound asked assumed x → not t ≡ false → LeftAt (x + 1)
      covered_goes l t e q =
          known ∙ one_more l ∙ rw (sym e ∙ not-false t q) (ap (λ (i : ℕ). covered_from bound asked assumed i (n - (x + 1))) (sym (add-one x)))

      pub covered_ends : n ≤ x → true ≡ covered n bound asked assumed
      unfolding covered_from
      covered_ends l = let e : n - x ≡ 0 = omega arith in sym (known ∙ ap (covered_from bound asked assumed x) e)

  -- ---- what the answer says

  -- What is asked of an unbound variable is assumed.
  abbrev Covers : ℕ → Type 0
  Covers X = member bound X ≡ false → (a : ℕ) → member (get_or asked X 0) a ≡ true → member (get_or assumed X 0) a ≡ true

  module _ (narrow : (X : ℕ) → get_or asked X 0 < 2 ^ 32) where
    covers_here : (X : ℕ) → (covered_at bound asked assumed X ≡ true) ↔ Covers X
    unfolding covered_at
    covers_here X =
        let more : ℕ = difference (get_or asked X 0) (get_or assumed X 0) in
        by_test (member bound X)
        (λ e. (λ q u. absurd (true≢false (sym e ∙ u)), λ c. rw e refl))
        (λ e. (
          λ q u a m. subset_member (get_or asked X 0) (get_or assumed X 0) a (eqb-true more 0 (rw e at q)) m,
          λ c. rw e (eq-eqb more 0 (member_subset 32 (get_or asked X 0) (get_or assumed X 0) (narrow X) (λ a l m. c e a m))),
        ))

    abbrev AllFrom : ℕ → ℕ → Type 0
    AllFrom X n = (Y : ℕ) → X ≤ Y → Y < X + n → Covers Y

    covered_from_lem : (X n : ℕ) → (covered_from bound asked assumed X n ≡ true) ↔ AllFrom X n
    unfolding covered_from
    covered_from_lem X zero = (λ e Y h l. absurd (omega arith), λ h. refl)
    covered_from_lem X (suc n) = by_test (covered_at bound asked assumed X) (yes (covered_from_lem (suc X) n)) no
      where
        yes : ((covered_from bound asked assumed (suc X) n ≡ true) ↔ AllFrom (suc X) n) → covered_at bound asked assumed X ≡ true
            → (covered_from bound asked assumed X (suc n) ≡ true) ↔ AllFrom X (suc n)
        yes more e = rw e (
          λ q Y h l. by_eq X Y (λ z. subst Covers z ((covers_here X).0 e)) (λ z. more.0 q Y (omega arith) (omega arith)),
          λ c. more.1 (λ Y h l. c Y (omega arith) (omega arith)),
        )

        no : covered_at bound asked assumed X ≡ false → (covered_from bound asked assumed X (suc n) ≡ true) ↔ AllFrom X (suc n)
        no e = rw e (
          λ q. absurd (true≢false (sym q)),
          λ c. absurd (true≢false (sym ((covers_here X).1 (c X (omega arith) (omega arith))) ∙ e)),
        )

    covered_true : (n : ℕ) → (covered n bound asked assumed ≡ true) ↔ ((Y : ℕ) → Y < n → Covers Y)
    unfolding covered
    covered_true n = let k = covered_from_lem 0 n in (λ q Y l. k.0 q Y (omega arith) (omega arith), λ c. k.1 (λ Y h l. c Y (omega arith)))

    -- ---- "a resulting fact that isn't assumed"

    module _ (variables : ℕ) (qs : List Assumed) (fs : List Fact) (held : (a X : ℕ) → X < variables → member (get_or assumed X 0) a ≡ assumes qs a X)
        (says : (a X : ℕ) → X < variables → has_fact (a, X) fs ≡ (not (member bound X) && member (get_or asked X 0) a))
        (few : (a X : ℕ) → has_fact (a, X) fs ≡ true → X < variables) where
      -- An assumed fact is in the variable's set.
      is_assumed : (f : Fact) → f.1 < variables → (member (get_or assumed f.1 0) f.0 ≡ true) ↔ Memᴰ f (assumed_facts qs)
      is_assumed f l =
          let e : member (get_or assumed f.1 0) f.0 ≡ has_fact f (assumed_facts qs) = held f.0 f.1 l ∙ assumes_fact qs f.0 f.1 in
          (λ q. (has_fact_true f (assumed_facts qs)).0 (sym e ∙ q), λ m. e ∙ (has_fact_true f (assumed_facts qs)).1 m)

      -- Facts are what is asked of unbound variables.
      is_fact : (f : Fact) → f.1 < variables → Memᴰ f fs ↔ ((member (get_or asked f.1 0) f.0 ≡ true) × (member bound f.1 ≡ false))
      is_fact f l =
          let test = and_not (member bound f.1) (member (get_or asked f.1 0) f.0) in
          let e = says f.0 f.1 l in
          (λ m. test.0 (sym e ∙ (has_fact_true f fs).1 m), λ k. (has_fact_true f fs).0 (e ∙ test.1 k))

      pub all_assumed : all_among (assumed_facts qs) fs ≡ covered variables bound asked assumed
      all_assumed = same_test (all_among (assumed_facts qs) fs) (covered variables bound asked assumed) (
        λ q. (covered_true variables).1 (λ Y l u a m.
            (is_assumed (a, Y) l).1
            (every_at (λ (f : Fact). Memᴰ f (assumed_facts qs)) ((is_fact (a, Y) l).1 (m, u)) ((all_among_true (assumed_facts qs) fs).0 q))),
        λ q. (all_among_true (assumed_facts qs) fs).1
            (every_of (λ (f : Fact). Memᴰ f (assumed_facts qs)) fs (λ f m.
            let l : f.1 < variables = few f.0 f.1 ((has_fact_true f fs).1 m) in
            let k = (is_fact f l).0 m in
            (is_assumed f l).0 ((covered_true variables).0 q f.1 l k.1 f.0 k.0))),
      )
