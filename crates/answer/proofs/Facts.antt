-- The laws of the facts read off sets: their bytes variable by variable, how many they are, and that they are the definition's facts.
use Prim.Native.Nat.{ℕ, zero, suc, ◌+◌, ◌-◌, ◌*◌, ◌^◌, ◌≤◌, ◌<◌}
use native.Mathlib.Numerals.{add-one}
use native.Mathlib.Omega.{arith}
use mathlib.Core.Path.{◌≡◌, refl, sym, ◌∙◌, ap, ap₂}
use mathlib.Core.Bool.{Bool, true, false, not, ◌&&◌, cond}
use mathlib.Core.List.{List, [], ◌∷◌, ◌++◌, map, append_assoc}
use lib.ListN.{length, get_or, length-append, length-map}
use lib.Dec.{ltb}
use borrow.Author.Tests.{lt-ltb, le-ltb, ltb-true, ltb-false}
use Rattle.permutation.specs.Table.{from, upto}
use Rattle.sets.specs.Bits.{member, intersection, all_below, removed, lowest, count, members_from, members}
use Rattle.sets.proofs.Bits.{by_test, member_empty, member_intersection, member_all_below, member_past, intersection_le, all_below_lt}
use Rattle.sets.proofs.Bits.{count_members, count_le, members_empty, members_lowest}
use Rattle.problem.specs.Problem.{Problem}
use Rattle.run.specs.Meaning.{Fact}
use Rattle.run.specs.Answer.{has_fact, facts_among, all_facts, facts, fact_bytes}
use Rattle.answer.specs.Fields.{fact_field}
use Rattle.answer.specs.Facts.{fact_set, facts_from, facts_in, fact_bytes_of, Says}
use Rattle.answer.proofs.Fields.{fact_bytes_none, fact_bytes_first}

pub fact_set_bound : (A bound : ℕ) (asked : List ℕ) (X : ℕ) → member bound X ≡ true → 0 ≡ fact_set A bound asked X
unfolding fact_set
fact_set_bound A bound asked X m = rw m

pub fact_set_unbound : (A bound : ℕ) (asked : List ℕ) (X : ℕ) → member bound X ≡ false
    → intersection (all_below 32 A) (get_or asked X 0) ≡ fact_set A bound asked X
unfolding fact_set
fact_set_unbound A bound asked X m = rw m

fact_set_lt : (A bound : ℕ) (asked : List ℕ) (X : ℕ) → fact_set A bound asked X < 2 ^ 32
fact_set_lt A bound asked X =
    by_test (member bound X) (λ m. rw (sym (fact_set_bound A bound asked X m)) (omega arith))
    (λ m. rw (sym (fact_set_unbound A bound asked X m)) (omega (arith, intersection_le (all_below 32 A) (get_or asked X 0), all_below_lt 32 A)))

-- ---- bytes

pub fact_bytes_of_none : (X : ℕ) → fact_bytes_of X 0 ≡ []
fact_bytes_of_none X = rw (members_empty 32) fact_bytes_none

pub fact_bytes_of_lowest : (X w : ℕ) → 0 < w → w < 2 ^ 32 → fact_bytes_of X w ≡ fact_field (lowest 32 w, X) ++ fact_bytes_of X (removed w (lowest 32 w))
fact_bytes_of_lowest X w p h =
    let rest = members 32 (removed w (lowest 32 w)) in
    rw (members_lowest 32 w p h) (fact_bytes_first (lowest 32 w, X) (map (λ (a : ℕ). (a, X)) rest))

fact_bytes_append : (fs gs : List Fact) → fact_bytes (fs ++ gs) ≡ fact_bytes fs ++ fact_bytes gs
fact_bytes_append [] gs = rw fact_bytes_none
fact_bytes_append (f ∷ fs) gs =
    fact_bytes_first f (fs ++ gs)
    ∙ ap (λ (l : List ℕ). fact_field f ++ l) (fact_bytes_append fs gs)
    ∙ sym (append_assoc (fact_field f) (fact_bytes fs) (fact_bytes gs))
    ∙ ap (λ (l : List ℕ). l ++ fact_bytes gs) (sym (fact_bytes_first f fs))

module _ (A bound : ℕ) (asked : List ℕ) where
  -- The facts of one variable.
  abbrev facts_at : ℕ → List Fact
  facts_at X = map (λ a. (a, X)) (members 32 (fact_set A bound asked X))

  from_none : (X : ℕ) → facts_from A bound asked X 0 ≡ []
  unfolding facts_from
  from_none X = refl

  from_next : (X n : ℕ) → facts_from A bound asked X (suc n) ≡ facts_at X ++ facts_from A bound asked (suc X) n
  unfolding facts_from
  from_next X n = refl

  module _ (variables : ℕ) where
    -- The facts of the variables from one on.
    abbrev pub facts_onward : ℕ → List Fact
    facts_onward X = facts_from A bound asked X (variables - X)

    onward_here : (X : ℕ) → X < variables → facts_onward X ≡ facts_at X ++ facts_onward (X + 1)
    onward_here X h =
        let one_more : variables - X ≡ suc (variables - (X + 1)) = omega arith in
        ap (facts_from A bound asked X) one_more ∙ from_next X (variables - (X + 1)) ∙ rw (add-one X)

    pub onward_end : (X : ℕ) → variables ≤ X → facts_onward X ≡ []
    onward_end X h = let none : variables - X ≡ 0 = omega arith in ap (facts_from A bound asked X) none ∙ from_none X

    pub onward_start : facts_onward 0 ≡ facts_in A variables bound asked
    unfolding facts_in
    onward_start = let all : variables - 0 ≡ variables = omega arith in ap (facts_from A bound asked 0) all

    -- Their bytes.
    pub bytes_here : (X : ℕ) → X < variables → fact_bytes (facts_onward X) ≡ fact_bytes_of X (fact_set A bound asked X) ++ fact_bytes (facts_onward (X + 1))
    bytes_here X h = ap fact_bytes (onward_here X h) ∙ fact_bytes_append (facts_at X) (facts_onward (X + 1))

    pub bytes_end : (X : ℕ) → variables ≤ X → fact_bytes (facts_onward X) ≡ []
    bytes_end X h = ap fact_bytes (onward_end X h) ∙ fact_bytes_none

  -- ---- how many

  count_at : (X : ℕ) → length (facts_at X) ≡ count (fact_set A bound asked X)
  count_at X =
      let w = fact_set A bound asked X in
      length-map (members 32 w) (λ a. (a, X)) ∙ sym (count_members 32 w (fact_set_lt A bound asked X))

  pub count_here : (variables X : ℕ) → X < variables
      → length (facts_onward variables X) ≡ count (fact_set A bound asked X) + length (facts_onward variables (X + 1))
  count_here variables X h =
      let rest = facts_onward variables (X + 1) in
      ap length (onward_here variables X h) ∙ length-append (facts_at X) rest ∙ ap (λ (n : ℕ). n + length rest) (count_at X)

  few_from : (X n : ℕ) → length (facts_from A bound asked X n) ≤ 32 * n
  few_from X zero = rw (from_none X) (omega arith)
  few_from X (suc n) =
      let few_here = count_le 32 (fact_set A bound asked X) (fact_set_lt A bound asked X) in
      rw (from_next X n, length-append) (omega (arith, few_from (suc X) n, count_at X, few_here))

pub few_facts : (A variables bound : ℕ) (asked : List ℕ) → variables ≤ 64 → length (facts_in A variables bound asked) ≤ 2048
unfolding facts_in
few_facts A variables bound asked h = omega (arith, few_from A bound asked 0 variables)

-- ---- the definition's facts

no_members : (i n v : ℕ) → ((j : ℕ) → i ≤ j → member v j ≡ false) → members_from i n v ≡ []
no_members i zero v h = refl
no_members i (suc n) v h = rw (h i (omega arith)) (no_members (suc i) n v (λ j l. h j (omega arith)))

-- The atoms of a set, each with the variable X, are what is given among all such pairs, if the set says so.
module _ (given : List Fact) (X v : ℕ) where
  abbrev pairs : List ℕ → List Fact
  pairs l = map (λ a. (a, X)) l

  members_given : (i m n : ℕ) → m ≤ n
      → ((j : ℕ) → i ≤ j → j < i + m → has_fact (j, X) given ≡ member v j)
      → ((j : ℕ) → i + m ≤ j → member v j ≡ false)
      → pairs (members_from i n v) ≡ facts_among given (pairs (from i m))
  members_given i zero n h same past = ap pairs (no_members i n v (λ j l. past j (omega arith)))
  members_given i (suc m) zero h same past = absurd (omega arith)
  members_given i (suc m) (suc n) h same past =
      let rest = members_given (suc i) m n (omega arith) (λ j l k. same j (omega arith) (omega arith)) (λ j l. past j (omega arith)) in
      rw (same i (omega arith) (omega arith)) (go rest (member v i))
    where
      go : pairs (members_from (suc i) n v) ≡ facts_among given (pairs (from (suc i) m)) → (c : Bool)
          → pairs (cond c (i ∷ members_from (suc i) n v) (members_from (suc i) n v))
          ≡ cond c ((i, X) ∷ facts_among given (pairs (from (suc i) m))) (facts_among given (pairs (from (suc i) m)))
      go r true = ap (λ (l : List Fact). (i, X) ∷ l) r
      go r false = r

among_append : (given fs gs : List Fact) → facts_among given (fs ++ gs) ≡ facts_among given fs ++ facts_among given gs
among_append given [] gs = refl
among_append given (f ∷ fs) gs = go (facts_among given (fs ++ gs)) (among_append given fs gs) (has_fact f given)
  where
    go : (l : List Fact) → l ≡ facts_among given fs ++ facts_among given gs → (c : Bool)
        → cond c (f ∷ l) l ≡ cond c (f ∷ facts_among given fs) (facts_among given fs) ++ facts_among given gs
    go l r true = ap (λ (k : List Fact). f ∷ k) r
    go l r false = r

module _ (A : ℕ) (h : A ≤ 32) (bound : ℕ) (asked : List ℕ) (given : List Fact) where
  -- An atom of an unbound variable's set is one of those in use that are demanded.
  member_unbound : (X j : ℕ) → member bound X ≡ false → j < 32 → member (fact_set A bound asked X) j ≡ (ltb j A && member (get_or asked X 0) j)
  member_unbound X j m l =
      rw (sym (fact_set_unbound A bound asked X m))
      (member_intersection (all_below 32 A) (get_or asked X 0) j ∙ ap (λ (b : Bool). b && member (get_or asked X 0) j) (member_all_below 32 A j l))

  member_bound : (X j : ℕ) → member bound X ≡ true → member (fact_set A bound asked X) j ≡ false
  member_bound X j m = rw (sym (fact_set_bound A bound asked X m)) (member_empty j)

  member_fact_set : (X j : ℕ) → j < A → member (fact_set A bound asked X) j ≡ (not (member bound X) && member (get_or asked X 0) j)
  member_fact_set X j l =
      by_test (member bound X)
      (λ m. member_bound X j m ∙ rw m)
      (λ m. member_unbound X j m (omega arith) ∙ rw (lt-ltb j A l, m))

  member_past_atoms : (X j : ℕ) → A ≤ j → member (fact_set A bound asked X) j ≡ false
  member_past_atoms X j l =
      by_test (ltb j 32)
      (λ q. by_test (member bound X) (member_bound X j) (λ m. member_unbound X j m (ltb-true j 32 q) ∙ rw (le-ltb j A l)))
      (λ q. member_past 32 (fact_set A bound asked X) j (fact_set_lt A bound asked X) (ltb-false j 32 q))

  facts_from_lem : (X n : ℕ) → Says A (X + n) bound asked given → facts_from A bound asked X n ≡ facts_among given (all_facts A (from X n))
  unfolding members
  facts_from_lem X zero s = from_none A bound asked X
  facts_from_lem X (suc n) s =
      let here =
      members_given given X (fact_set A bound asked X) 0 A 32 h (λ j l k. s j X (omega arith) (omega arith) ∙ sym (member_fact_set X j (omega arith)))
      (λ j l. member_past_atoms X j (omega arith)) in
      from_next A bound asked X n
      ∙ ap₂ (λ (k l : List Fact). k ++ l) here (facts_from_lem (suc X) n (λ a Y l k. s a Y l (omega arith)))
      ∙ sym (among_append given (map (λ a. (a, X)) (upto A)) (all_facts A (from (suc X) n)))

-- What is read off the sets are the facts of the answer.
pub facts_read : (p : Problem) (bound : ℕ) (asked : List ℕ) (given : List Fact) → p.atoms ≤ 32 → Says p.atoms p.variables bound asked given
    → facts_in p.atoms p.variables bound asked ≡ facts p given
unfolding facts_in facts
facts_read p bound asked given h s =
    facts_from_lem p.atoms h bound asked given 0 p.variables (λ a Y l k. s a Y l (omega arith))
