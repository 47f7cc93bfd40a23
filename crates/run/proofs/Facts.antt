-- The answer's facts: of all pairs of atom and variable in order, those that are among the given ones. So they have the same members, if the given
-- ones' names are there.
use Prim.Native.Nat.{ℕ, ◌<◌}
use mathlib.Core.Path.{◌≡◌, refl, sym, ap}
use mathlib.Core.Logic.{◌↔◌, ◌⊎◌, inl, inr}
use mathlib.Core.Bool.{Bool, true, false, ◌&&◌, ◌||◌, cond, true≢false}
use mathlib.Core.List.Memᴰ
use mathlib.Core.List.{List, [], ◌∷◌, map, Memᴰ}
use lib.Dec.{eqb}
use borrow.Author.Tests.{eq-eqb, eqb-true}
use Rattle.sets.specs.Bits.{among}
use Rattle.permutation.specs.Table.{upto}
use Rattle.permutation.proofs.Table.{mem_upto}
use Rattle.nominal.specs.Solutions.{Every}
use Rattle.nominal.proofs.Solutions.{every_at, every_of}
use Rattle.problem.specs.Problem.{Problem}
use Rattle.run.specs.Meaning.{Fact}
use Rattle.run.specs.Answer.{has_fact, facts_among, all_facts, facts, all_among}
use Rattle.run.proofs.Questions.{NamedFact}

-- The tests, as membership.
or_mem : {A : Type 0} (x y : A) (l : List A) (t r : Bool) → ((t ≡ true) ↔ (x ≡ y)) → ((r ≡ true) ↔ Memᴰ x l) → (t || r ≡ true) ↔ Memᴰ x (y ∷ l)
or_mem x y l true r h k = (λ e. Memᴰ.head (h.0 refl), λ m. refl)
or_mem x y l false r h k = (λ e. Memᴰ.tail (k.0 e), back)
  where
    back : Memᴰ x (y ∷ l) → r ≡ true
    back (Memᴰ.head p) = absurd (true≢false (sym (h.1 p)))
    back (Memᴰ.tail m) = k.1 m

eqb_same : (a b : ℕ) → (eqb a b ≡ true) ↔ (a ≡ b)
eqb_same a b = (eqb-true a b, eq-eqb a b)

and_true : (t u : Bool) → (t && u ≡ true) ↔ ((t ≡ true) × (u ≡ true))
and_true true u = (λ e. (refl, e), λ h. h.1)
and_true false u = (λ e. absurd (true≢false (sym e)), λ h. h.0)

same_fact : (f h : Fact) → (eqb f.0 h.0 && eqb f.1 h.1 ≡ true) ↔ (f ≡ h)
same_fact (a, X) (b, Y) = (
  λ e. let k = (and_true (eqb a b) (eqb X Y)).0 e in rw (eqb-true a b k.0, eqb-true X Y k.1),
  λ e. (and_true (eqb a b) (eqb X Y)).1 (eq-eqb a b (ap (λ (f : Fact). f.0) e), eq-eqb X Y (ap (λ (f : Fact). f.1) e)),
)

pub among_true : (X : ℕ) (l : List ℕ) → (among X l ≡ true) ↔ Memᴰ X l
among_true X [] = (λ e. absurd (true≢false (sym e)), λ m. absurd (elim m [ ]))
among_true X (Y ∷ l) = or_mem X Y l (eqb X Y) (among X l) (eqb_same X Y) (among_true X l)

pub has_fact_true : (f : Fact) (fs : List Fact) → (has_fact f fs ≡ true) ↔ Memᴰ f fs
has_fact_true f [] = (λ e. absurd (true≢false (sym e)), λ m. absurd (elim m [ ]))
has_fact_true f (h ∷ fs) = or_mem f h fs (eqb f.0 h.0 && eqb f.1 h.1) (has_fact f fs) (same_fact f h) (has_fact_true f fs)

pub all_among_true : (given fs : List Fact) → (all_among given fs ≡ true) ↔ Every (λ f. Memᴰ f given) fs
all_among_true given [] = (λ e. tt, λ h. refl)
all_among_true given (f ∷ fs) = (
  λ e. let k = (and_true (has_fact f given) (all_among given fs)).0 e in ((has_fact_true f given).0 k.0, (all_among_true given fs).0 k.1),
  λ h. (and_true (has_fact f given) (all_among given fs)).1 ((has_fact_true f given).1 h.0, (all_among_true given fs).1 h.1),
)

-- Those of a list that are given.
module _ (given : List Fact) where
  among_step : (f h : Fact) (l : List Fact) (b : Bool) → ((b ≡ true) ↔ Memᴰ h given)
      → (Memᴰ f (facts_among given l) ↔ (Memᴰ f l × Memᴰ f given))
      → Memᴰ f (cond b (h ∷ facts_among given l) (facts_among given l)) ↔ (Memᴰ f (h ∷ l) × Memᴰ f given)
  among_step f h l true t ih = (there, back)
    where
      there : Memᴰ f (h ∷ facts_among given l) → Memᴰ f (h ∷ l) × Memᴰ f given
      there (Memᴰ.head p) = (Memᴰ.head p, rw p (t.0 refl))
      there (Memᴰ.tail m) = let k = ih.0 m in (Memᴰ.tail k.0, k.1)

      at : Memᴰ f given → Memᴰ f (h ∷ l) → Memᴰ f (h ∷ facts_among given l)
      at n (Memᴰ.head p) = Memᴰ.head p
      at n (Memᴰ.tail m) = Memᴰ.tail (ih.1 (m, n))

      back : Memᴰ f (h ∷ l) × Memᴰ f given → Memᴰ f (h ∷ facts_among given l)
      back k = at k.1 k.0
  among_step f h l false t ih = (λ m. let k = ih.0 m in (Memᴰ.tail k.0, k.1), λ k. at k.1 k.0)
    where
      at : Memᴰ f given → Memᴰ f (h ∷ l) → Memᴰ f (facts_among given l)
      at n (Memᴰ.head p) = absurd (true≢false (sym (t.1 (rw p at n))))
      at n (Memᴰ.tail m) = ih.1 (m, n)

  pub mem_facts_among : (f : Fact) (l : List Fact) → Memᴰ f (facts_among given l) ↔ (Memᴰ f l × Memᴰ f given)
  mem_facts_among f [] = (λ m. absurd (elim m [ ]), λ k. absurd (elim k.0 [ ]))
  mem_facts_among f (h ∷ l) = among_step f h l (has_fact h given) (has_fact_true h given) (mem_facts_among f l)

-- All pairs whose names are there.
mem_row : (f : Fact) (X : ℕ) (l : List ℕ) → Memᴰ f (map (λ a. (a, X)) l) ↔ (Memᴰ f.0 l × (f.1 ≡ X))
mem_row f X [] = (λ m. absurd (elim m [ ]), λ k. absurd (elim k.0 [ ]))
mem_row f X (a ∷ l) = (there (mem_row f X l).0, λ k. back (mem_row f X l).1 k.1 k.0)
  where
    there : (Memᴰ f (map (λ a. (a, X)) l) → Memᴰ f.0 l × (f.1 ≡ X)) → Memᴰ f ((a, X) ∷ map (λ a. (a, X)) l)
        → Memᴰ f.0 (a ∷ l) × (f.1 ≡ X)
    there ih (Memᴰ.head p) = (Memᴰ.head (ap (λ (f : Fact). f.0) p), ap (λ (f : Fact). f.1) p)
    there ih (Memᴰ.tail m) = let k = ih m in (Memᴰ.tail k.0, k.1)

    back : (Memᴰ f.0 l × (f.1 ≡ X) → Memᴰ f (map (λ a. (a, X)) l)) → f.1 ≡ X → Memᴰ f.0 (a ∷ l)
        → Memᴰ f ((a, X) ∷ map (λ a. (a, X)) l)
    back ih q (Memᴰ.head p) = let e : ◌≡◌ {A = Fact} (f.0, f.1) (a, X) = rw (p, q) in Memᴰ.head e
    back ih q (Memᴰ.tail m) = Memᴰ.tail (ih (m, q))

mem_all_facts : (atoms : ℕ) (f : Fact) (Xs : List ℕ) → Memᴰ f (all_facts atoms Xs) ↔ ((f.0 < atoms) × Memᴰ f.1 Xs)
mem_all_facts atoms f [] = (λ m. absurd (elim m [ ]), λ k. absurd (elim k.1 [ ]))
mem_all_facts atoms f (X ∷ Xs) =
    (λ m. there (mem_all_facts atoms f Xs).0 (Memᴰ.append_cases (map (λ a. (a, X)) (upto atoms)) m), λ k. back (mem_all_facts atoms f Xs).1 k.0 k.1)
  where
    there : (Memᴰ f (all_facts atoms Xs) → (f.0 < atoms) × Memᴰ f.1 Xs)
        → Memᴰ f (map (λ a. (a, X)) (upto atoms)) ⊎ Memᴰ f (all_facts atoms Xs)
        → (f.0 < atoms) × Memᴰ f.1 (X ∷ Xs)
    there ih (inl m) = let k = (mem_row f X (upto atoms)).0 m in ((mem_upto atoms f.0).1 k.0, Memᴰ.head k.1)
    there ih (inr m) = let k = ih m in (k.0, Memᴰ.tail k.1)

    back : ((f.0 < atoms) × Memᴰ f.1 Xs → Memᴰ f (all_facts atoms Xs)) → f.0 < atoms → Memᴰ f.1 (X ∷ Xs)
        → Memᴰ f (all_facts atoms (X ∷ Xs))
    back ih h (Memᴰ.head p) = Memᴰ.append_left (all_facts atoms Xs) ((mem_row f X (upto atoms)).1 ((mem_upto atoms f.0).0 h, p))
    back ih h (Memᴰ.tail m) = Memᴰ.append_right (map (λ a. (a, X)) (upto atoms)) (ih (h, m))

-- "The rest are the facts of the answer .. each once": the given ones whose names are there.
pub mem_facts : (p : Problem) (given : List Fact) (f : Fact) → Memᴰ f (facts p given) ↔ (NamedFact p.atoms p.variables f × Memᴰ f given)
unfolding facts
mem_facts p given f = (
  λ m.
      let k = (mem_facts_among given f (all_facts p.atoms (upto p.variables))).0 m in
      let j = (mem_all_facts p.atoms f (upto p.variables)).0 k.0 in
      ((j.0, (mem_upto p.variables f.1).1 j.1), k.1),
  λ k. (mem_facts_among given f (all_facts p.atoms (upto p.variables))).1
      ((mem_all_facts p.atoms f (upto p.variables)).1 (k.0.0, (mem_upto p.variables f.1).0 k.0.1), k.1),
)

-- So what holds of each given fact holds of each of the answer's, and the other way round.
pub every_facts : (p : Problem) (R : Fact → Type 0) (given : List Fact) → Every (NamedFact p.atoms p.variables) given
    → Every R given ↔ Every R (facts p given)
every_facts p R given n = (
  λ h. every_of R (facts p given) (λ f m. every_at R ((mem_facts p given f).0 m).1 h),
  λ h. every_of R given (λ f m. every_at R ((mem_facts p given f).1 (every_at (NamedFact p.atoms p.variables) m n, m)) h),
)
