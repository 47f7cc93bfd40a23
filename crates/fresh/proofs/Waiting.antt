-- Which variables wait, and that each turn less is left to do: the rows of what was passed on grow, and they are words.
use Prim.Native.Nat.{ℕ, zero, suc, ◌+◌, ◌-◌, ◌≤◌, ◌<◌, ◌^◌}
use native.Mathlib.Omega.{arith}
use mathlib.Core.Path.{◌≡◌, refl, sym, ◌∙◌, ap, subst}
use mathlib.Core.Logic.{◌≢◌}
use mathlib.Core.Bool.{Bool, true, false, not, ◌&&◌, ◌||◌, true≢false}
use mathlib.Core.List.{List}
use Rattle.std.specs.Prelude.{Option, Some, None, MatchOption}
use Rattle.names.specs.declared.Variable.{Variable}
use lib.ListN.{get_or}
use Rattle.sets.specs.Bits.{member, union, difference, lowest}
use Rattle.sets.proofs.Bits.{member_union, member_union_right, member_difference, sets_extensional, difference_le, union_lt, lowest_member}
use Rattle.names.proofs.Equal.{by_eq, by_lt}
use Rattle.problem.specs.Problem.{Problem}
use Rattle.demands.specs.Demands.{asked_of_variables}
use Rattle.visit.proofs.Rows.{row_other}
use Rattle.fresh.specs.Marks.{done_in, new_at, NextBetween, LastBelow, Next, Passed}

-- ---- the next variable

module _ {bound : ℕ} {asked done : List ℕ} {from variables : ℕ} (h : from ≤ variables) where
  both_none : {r : Option Variable} → NextBetween bound asked done from variables None → LastBelow bound asked done from r → Next bound asked done variables r
  both_none n b = record {
    found = λ x e. let f = b.found x e in (omega (arith, h, f.0), f.1, f.2);
    none = λ e X l q. by_lt X from (λ j. b.none e X j q) (λ j. n.none refl X j l q);
  }

  none_below : {r : Option Variable} → LastBelow bound asked done from None → NextBetween bound asked done from variables r → Next bound asked done variables r
  none_below b n = record {
    found = n.found;
    none = λ e X l q. by_lt X from (λ j. b.none refl X j q) (λ j. n.none e X j l q);
  }

  one_above : {x : Variable} → NextBetween bound asked done from variables (Some x) → Next bound asked done variables (Some x)
  one_above n = record { found = n.found; none = λ e. absurd (cc) }

  one_below : {x : Variable} → LastBelow bound asked done from (Some x) → Next bound asked done variables (Some x)
  one_below b = record {
    found = λ y e. let f = b.found y e in (omega (arith, h, f.0), f.1, f.2);
    none = λ e. absurd (cc);
  }

  -- Of those from a number on, or else of those below it: one of either, or none of both. P is what `or_else` tells of the second question.
  pub next_up : {P : Type 0} (o r : Option Variable) → MatchOption o P (λ x. r ≡ Some x) → NextBetween bound asked done from variables o
      → (P → LastBelow bound asked done from r) → Next bound asked done variables r
  next_up None r m n f = both_none n (f m)
  next_up (Some x) r m n f = subst (λ (q : Option Variable). Next bound asked done variables q) (sym m) (one_above n)

  -- The other way round.
  pub next_down : {P : Type 0} (o r : Option Variable) → MatchOption o P (λ x. r ≡ Some x) → LastBelow bound asked done from o
      → (P → NextBetween bound asked done from variables r) → Next bound asked done variables r
  next_down None r m b f = none_below b (f m)
  next_down (Some x) r m b f = subst (λ (q : Option Variable). Next bound asked done variables q) (sym m) (one_below b)

-- ---- the measure: what the rows lack

abbrev pub lack : ℕ → List ℕ → ℕ
lack zero t = 0
lack (suc n) t = (2 ^ 32 - get_or t n 0) + lack n t

lack_same : (n : ℕ) (t u : List ℕ) → ((i : ℕ) → i < n → get_or u i 0 ≡ get_or t i 0) → lack n u ≡ lack n t
lack_same zero t u h = refl
lack_same (suc n) t u h = let e = h n (omega arith) in let k = lack_same n t u (λ i l. h i (omega arith)) in rw (e, k)

lack_less : (n : ℕ) (t u : List ℕ) (X : ℕ) → X < n → ((i : ℕ) → i ≢ X → get_or u i 0 ≡ get_or t i 0) → get_or t X 0 < get_or u X 0 → get_or u X 0 < 2 ^ 32
    → lack n u < lack n t
lack_less zero t u X l h m s = absurd (omega arith)
lack_less (suc n) t u X l h m s =
    by_eq X n
    (λ q.
    let e : lack n u ≡ lack n t = lack_same n t u (λ i k. h i (λ z. omega arith)) in
    omega (arith, ap (λ (i : ℕ). get_or t i 0) q, ap (λ (i : ℕ). get_or u i 0) q))
    (λ d. omega (arith, h n (λ z. d (sym z)), lack_less n t u X (omega arith) h m s))

pub passed_less : (n : ℕ) {p : Problem} {made values : List (List ℕ)} {X : ℕ} {asked marks asked' marks' : List (List ℕ)} → X < n
    → Passed p made values X asked marks asked' marks' → lack n (done_in marks') < lack n (done_in marks)
passed_less n {X = X} {asked = asked} {marks = marks} {marks' = marks'} l s =
    lack_less n (done_in marks) (done_in marks') X l
    (λ i d. ap (λ (t : List ℕ). get_or t i 0) s.recorded ∙ row_other (done_in marks) X (new_at (asked_of_variables asked) (done_in marks) X) i d)
    s.more s.small

-- ---- a set becomes a greater number with a member that it had not

apart : (a b : Bool) → a && not b ≡ true → b ≡ false
apart true true e = absurd (true≢false (sym e))
apart true false e = refl
apart false b e = absurd (true≢false (sym e))

kept_apart : (a b : Bool) → (b ≡ true → a ≡ false) → a ≡ (a || b) && not b
kept_apart true true h = h refl
kept_apart true false h = refl
kept_apart false true h = refl
kept_apart false false h = refl

module _ (d w : ℕ) (hd : d < 2 ^ 32) (hn : difference w d < 2 ^ 32) (some : 0 < difference w d) where
  abbrev new : ℕ
  new = difference w d

  new_apart : (j : ℕ) → member new j ≡ true → member d j ≡ false
  new_apart j e = apart (member w j) (member d j) (sym (member_difference w d j) ∙ e)

  taken_again : d ≡ difference (union d new) new
  taken_again =
      sets_extensional 32 d (difference (union d new) new) hd (omega (arith, difference_le (union d new) new, union_lt 32 d new hd hn))
      λ j l.
      kept_apart (member d j) (member new j) (new_apart j)
      ∙ sym (member_difference (union d new) new j ∙ ap (λ (t : Bool). t && not (member new j)) (member_union d new j))

  -- The lowest new member tells the two apart.
  differs : d ≢ union d new
  differs e =
      let mine : member new (lowest 32 new) ≡ true = lowest_member 32 new some hn in
      true≢false (sym (member_union_right d new (lowest 32 new) mine) ∙ ap (λ (x : ℕ). member x (lowest 32 new)) (sym e) ∙ new_apart (lowest 32 new) mine)

  pub union_more : d < union d new
  union_more = by_eq d (union d new) (λ e. absurd (differs e)) (λ e. omega (arith, difference_le (union d new) new, taken_again))
