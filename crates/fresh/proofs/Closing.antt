-- What came to bound variables is passed on to their values, turn by turn, until nothing waits.
use Prim.Native.Nat.{ℕ, ◌<◌, ◌^◌}
use native.Mathlib.Omega.{arith}
use mathlib.Core.Path.{◌≡◌, sym, ◌∙◌, ap, subst}
use mathlib.Core.Logic.{⊎_elim}
use mathlib.Core.Bool.{true, true≢false}
use mathlib.Core.List.{List, [], ◌∷◌}
use mathlib.Core.Option.{Option, none, some}
use lib.ListN.{length, get_or, set, length-set}
use lib.Seq.{get_or-set_same, get_or-set_other}
use Rattle.sets.specs.Bits.{member, union}
use Rattle.sets.proofs.Bits.{by_member, member_empty, subset_member, difference_le, union_lt}
use Rattle.permutation.specs.Swaps.{inverse}
use Rattle.permutation.specs.Table.{Table, image, inverted}
use Rattle.permutation.proofs.Swaps.{within, within_inverse}
use Rattle.permutation.proofs.Table.{image_inverted, inverted_image, permutes_inverted, length_inverted}
use Rattle.problem.specs.Problem.{Problem, form_at}
use Rattle.problem.specs.Readable.{Named}
use Rattle.run.specs.Meaning.{Side}
use Rattle.bindings.specs.Bindings.{node_of, images_of}
use Rattle.demands.specs.Demands.{asked_of_variables}
use Rattle.visit.specs.Pairs.{Pair, of_node, of_variable, PairLeads, to_body, to_argument, to_left, to_right, to_variable, to_value}
use Rattle.visit.specs.Pairs.{PairReached, start, further, Closed}
use Rattle.visit.specs.Visited.{Marked, Only, added, sent_into, Looked, Visited}
use Rattle.visit.proofs.Sent.{sent_member, member_is_sent}
use Rattle.visit.proofs.Rows.{row_same, row_cases}
use Rattle.visit.proofs.Growth.{reached_through, looked_more, difference_left}
use Rattle.fresh.specs.Marks.{done_in, SoFar, LookedThrough}
use Rattle.fresh.specs.Marks.{valued, value_at, Bound, atom_of, new_at, Passed}
use Rattle.fresh.proofs.Waiting.{union_more}

-- ---- what the tables of bindings say

module _ (A bound : ℕ) (made values : List (List ℕ)) (X : ℕ) where
  pub value_bound : member bound X ≡ true → value_at A bound made values X ≡ some (valued A made values X)
  value_bound e = rw e

  value_some : (v : Side) → value_at A bound made values X ≡ some v → (member bound X ≡ true) × (v ≡ valued A made values X)
  value_some v e =
      by_member bound X
      (λ q. (q, let k : some (valued A made values X) ≡ some v = sym (value_bound q) ∙ e in cc))
      (λ q. absurd (let k : value_at A bound made values X ≡ none = rw q in let z : ◌≡◌ {A = ℕ} 0 1 = cc in omega arith))

-- What was marked at first is there, all is reached from it, nodes are looked through, and so are the pairs passed on.
pub record Closing (p : Problem) (value : ℕ → Option Side) (Before Mark : Pair → Type 0) (done : List ℕ) : Type 0 where
  pub kept : (w : Pair) → Before w → Mark w
  pub from : (w : Pair) → Mark w → PairReached p.nodes value Before w
  pub looked : (w : Pair) → Mark w → Looked p.nodes value Mark w
  pub passed : (a X : ℕ) → X < p.variables → member (get_or done X 0) a ≡ true → Closed p.nodes value Mark (of_variable a X)

module _ {p : Problem} {bound : ℕ} {made values : List (List ℕ)} (b : Bound p bound made values)
    (named : (n : ℕ) → Named p.atoms p.variables n (form_at p.nodes n)) where
  abbrev value : ℕ → Option Side
  value = value_at p.atoms bound made values

  -- A variable's images.
  abbrev images : ℕ → Table
  images X = images_of p.atoms values X

  -- ---- every atom that is reached is there

  image_back_small : (X : ℕ) → member bound X ≡ true → (a : ℕ) → a < p.atoms → image (inverted (images X)) a < p.atoms
  image_back_small X q a h =
      let long : length (inverted (images X)) ≡ p.atoms = length_inverted (images X) ∙ b.long X q in
      rw long at ((permutes_inverted (images X) (b.permutes X q)).inside a (rw long h))

  leads_small : {v w : Pair} → PairLeads p.nodes value v w → atom_of v < p.atoms → atom_of w < p.atoms
  leads_small (to_body e d) h = h
  leads_small (to_argument e) h = h
  leads_small (to_left e) h = h
  leads_small (to_right e) h = h
  leads_small (to_variable {a = a} {n = n} {X = X} {π = π} e) h =
      within p.atoms (inverse π) a (within_inverse p.atoms π (subst (Named p.atoms p.variables n) e (named n)).1) h
  leads_small (to_value {a = a} {X = X} {v = v} e) h =
      let (q, r) = value_some p.atoms bound made values X v e in
      rw r (image_back_small X q a h)

  pub reached_small : {S : Pair → Type 0} → ((w : Pair) → S w → atom_of w < p.atoms) → {w : Pair} → PairReached p.nodes value S w → atom_of w < p.atoms
  reached_small h (start s) = h _ s
  reached_small h (further r l) = leads_small l (reached_small h r)

  -- ---- passing on

  pub closing_start : {Before : Pair → Type 0} (done : List ℕ) → ((w : Pair) → Before w → Looked p.nodes value Before w)
      → ((i : ℕ) → i < p.variables → get_or done i 0 ≡ 0) → Closing p value Before Before done
  closing_start done h z = record {
    kept = λ w k. k;
    from = λ w k. start k;
    looked = h;
    passed = λ a X l e. absurd (true≢false (sym e ∙ ap (λ (w : ℕ). member w a) (z X l) ∙ member_empty a));
  }

  -- A turn: the new atoms of a bound variable are passed on.
  module _ {Before : Pair → Type 0} (small : (w : Pair) → Before w → atom_of w < p.atoms) {asked marks asked' marks' : List (List ℕ)}
      (c : Closing p value Before (SoFar p asked marks) (done_in marks)) (X : ℕ) (few : X < p.variables) (q : member bound X ≡ true)
      (s : Passed p made values X asked marks asked' marks') where
    abbrev After : Pair → Type 0
    After = SoFar p asked' marks'

    abbrev waiting : ℕ
    waiting = new_at (asked_of_variables asked) (done_in marks) X

    asked_here : (a : ℕ) → member waiting a ≡ true → SoFar p asked marks (of_variable a X)
    unfolding new_at
    asked_here a e = (few, difference_left (get_or (asked_of_variables asked) X 0) (get_or (done_in marks) X 0) a e)

    sent_on : (w : Pair) → Only (sent_into p.atoms (image (images X)) waiting) (node_of made X) w → PairReached p.nodes value Before w
    sent_on (of_node a n) (e, h) =
        let k = sent_member p.atoms (image (images X)) waiting a h in
        let at_variable = c.from (of_variable (image (images X) a) X) (asked_here (image (images X) a) k.1) in
        let r : PairReached p.nodes value Before (of_node (image (inverted (images X)) (image (images X) a)) (node_of made X)) =
        further at_variable (to_value (value_bound p.atoms bound made values X q)) in
        rw e (rw (inverted_image (images X) a (b.permutes X q)) at r)
    sent_on (of_variable a Y) h = absurd h

    -- The atom that the images send to a, at the value's node.
    value_marked : (a : ℕ) → member waiting a ≡ true → After (of_node (image (inverted (images X)) a) (node_of made X))
    value_marked a e =
        let h : a < p.atoms = reached_small small (c.from (of_variable a X) (asked_here a e)) in
        let back = image (inverted (images X)) a in
        s.visited.here back
        (member_is_sent p.atoms (image (images X)) waiting back a (image_back_small X q a h) (image_inverted (images X) a (b.permutes X q)) e)

    closed_here : (a : ℕ) → member waiting a ≡ true → Closed p.nodes value After (of_variable a X)
    closed_here a e w (to_value {v = v} k) = let (_, r) = value_some p.atoms bound made values X v k in rw r (value_marked a e)

    now_passed : (a Y : ℕ) → Y < p.variables → member (get_or (done_in marks') Y 0) a ≡ true → Closed p.nodes value After (of_variable a Y)
    now_passed a Y h e =
        ⊎_elim
        (λ k w j. (s.visited.grown value).kept w (c.passed a Y h k w j))
        (λ k. rw k.0 (closed_here a k.1))
        (row_cases (done_in marks) X waiting Y a s.there (rw s.recorded at e))

    pub closing_turn : Closing p value Before After (done_in marks')
    closing_turn =
        let g = s.visited.grown value in
        record {
          kept = λ w h. g.kept w (c.kept w h);
          from = λ w h. ⊎_elim (λ k. c.from w k) (λ k. reached_through sent_on k.0) (g.new w h);
          looked = λ w h. ⊎_elim (λ k. looked_more p.nodes value g.kept w (c.looked w k)) (λ k. k.1) (g.new w h);
          passed = now_passed;
        }

  pub closing_end : {Before : Pair → Type 0} (asked marks : List (List ℕ)) → Closing p value Before (SoFar p asked marks) (done_in marks)
      → ((X : ℕ) → X < p.variables → member bound X ≡ true → new_at (asked_of_variables asked) (done_in marks) X ≡ 0)
      → LookedThrough p.nodes value Before (SoFar p asked marks)
  unfolding new_at
  closing_end asked marks c all = record { kept = c.kept; from = c.from; closed = shut }
    where
      shut_variable : (a X : ℕ) → SoFar p asked marks (of_variable a X) → Closed p.nodes value (SoFar p asked marks) (of_variable a X)
      shut_variable a X h w (to_value {v = v} k) =
          let (q, _) = value_some p.atoms bound made values X v k in
          let done = subset_member (get_or (asked_of_variables asked) X 0) (get_or (done_in marks) X 0) a (all X h.0 q) h.1 in
          c.passed a X h.0 done w (to_value k)

      shut : (w : Pair) → SoFar p asked marks w → Closed p.nodes value (SoFar p asked marks) w
      shut (of_node a n) h = c.looked (of_node a n) h
      shut (of_variable a X) h = shut_variable a X h

-- ---- one variable, in the tables

-- Where atoms are asked of a variable, the table has the variables' column.
asked_there : (asked : List (List ℕ)) (done : List ℕ) (X : ℕ) → 0 < new_at (asked_of_variables asked) done X → 1 < length asked
unfolding new_at
asked_there [] done X h = absurd (omega (arith, h, difference_le 0 (get_or done X 0)))
asked_there (nodes ∷ []) done X h = absurd (omega (arith, h, difference_le 0 (get_or done X 0)))
asked_there (nodes ∷ variables ∷ rest) done X h = omega arith

-- The done column is written first, and then a visit of the value's node changes the others.
module _ {p : Problem} {made values : List (List ℕ)} {X : ℕ} {asked marks : List (List ℕ)} (two_marks : length marks ≡ 2) where
  pub passed_on : {new : ℕ} {done : List ℕ} (seen variables : List ℕ) → X < length (done_in marks) → get_or (done_in marks) X 0 < 2 ^ 32 → new < 2 ^ 32
      → 0 < new_at (asked_of_variables asked) (done_in marks) X → new ≡ new_at (asked_of_variables asked) (done_in marks) X → done ≡ added (done_in marks) X new
      → Visited p.nodes (sent_into p.atoms (image (images_of p.atoms values X)) new) (node_of made X)
      (Marked p (get_or (set marks 1 done) 0 []) (asked_of_variables asked)) (Marked p seen variables)
      → Passed p made values X asked marks (set asked 1 variables) (set (set marks 1 done) 0 seen)
  unfolding new_at
  passed_on {new} {done} seen variables there word small positive is_new is_done v = record {
    there = there;
    recorded = done_written ∙ is_done ∙ ap (added (done_in marks) X) is_new;
    more = rw (done_now, is_new) (union_more (get_or (done_in marks) X 0) (get_or (asked_of_variables asked) X 0) word (rw is_new at small) positive);
    small = rw done_now (union_lt 32 (get_or (done_in marks) X 0) new word small);
    visited = rw (variables_written, seen_written, ← is_new, ← get_or-set_other marks 1 0 done [] (λ q. omega arith)) v;
    kept = get_or-set_other asked 1 0 variables [] (λ q. omega arith);
  }
    where
      seen_written : get_or (set (set marks 1 done) 0 seen) 0 [] ≡ seen
      seen_written = get_or-set_same (set marks 1 done) 0 seen [] (rw length-set (omega arith))

      done_written : get_or (set (set marks 1 done) 0 seen) 1 [] ≡ done
      done_written = get_or-set_other (set marks 1 done) 0 1 seen [] (λ q. omega arith) ∙ get_or-set_same marks 1 done [] (omega arith)

      variables_written : get_or (set asked 1 variables) 1 [] ≡ variables
      variables_written = get_or-set_same asked 1 variables [] (asked_there asked (done_in marks) X positive)

      done_now : get_or (get_or (set (set marks 1 done) 0 seen) 1 []) X 0 ≡ union (get_or (done_in marks) X 0) new
      done_now = ap (λ (t : List ℕ). get_or t X 0) (done_written ∙ is_done) ∙ row_same (done_in marks) X new there
