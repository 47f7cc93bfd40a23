-- The sets of the nodes, made of those of their parts, have the variables of the nodes' trees; and the set of what is reached, as the loop makes it.
use Prim.Native.Nat.{ℕ, zero, suc, ◌^◌, ◌≤◌, ◌<◌}
use native.Mathlib.Omega.{arith}
use mathlib.Core.Path.{◌≡◌, sym, ◌∙◌, ap}
use mathlib.Core.Logic.{⊎_elim}
use mathlib.Core.Bool.{Bool, true, false, or-false}
use mathlib.Core.List.{List}
use lib.ListN.{length}
use lib.Dec.{eqb}
use borrow.Author.Tests.{eqb-true}
use Rattle.names.proofs.Equal.{by_eq}
use Rattle.sets.specs.Bits.{member, union, intersection, removed, lowest, count}
use Rattle.sets.proofs.Bits.{
  by_member,
  member_empty,
  member_union,
  member_union_left,
  member_union_right,
  member_union_cases,
  member_intersection,
  member_inserted,
  member_removed_other,
  disjoint_apart,
  lowest_member,
  lowest_lt,
  not_empty,
  count_removed_lt,
}
use Rattle.problem.specs.Problem.{Node, unit_form, atom_form, abstraction_form, pair_form, application_form, suspension_form, Problem, form_at}
use Rattle.problem.specs.Readable.{Named, Readable}
use Rattle.problem.specs.Look.{form_told}
use Rattle.problem.proofs.Readable.{both}
use Rattle.variables.specs.Variables.{set_of, variables_of, VariablesKept}
use Rattle.run.specs.Meaning.{occurs_in}
use Rattle.run.proofs.Trees.{built, tree_built}
use Rattle.occurs.specs.Reached.{VariablesOf, FilledBelow, behind, VariableReached, inside, through, Closure}

-- No test has two outcomes.
pub apart : {R : Type 0} {b : Bool} → b ≡ true → b ≡ false → R
apart p q = let w : true ≡ false = sym p ∙ q in let z : ◌≡◌ {A = ℕ} 0 1 = cc in absurd (omega arith)

-- ---- the sets of the nodes

module _ {p : Problem} (r : Readable p) (table : List ℕ) where
  -- What is made of the sets of a form's parts has the variables of the tree that the form builds.
  variables_built : {n : ℕ} → FilledBelow p.nodes table n → (f : Node) → Named p.atoms p.variables n f
      → (X : ℕ) → member (variables_of table (form_told f)) X ≡ occurs_in X (built p.nodes f)
  variables_built filled unit_form named X = member_empty X
  variables_built filled (atom_form a) named X = member_empty X
  variables_built filled (abstraction_form a m) named X = filled m named.1 X
  variables_built filled (pair_form l m) named X =
      rw (member_union (set_of table l) (set_of table m) X, filled l named.0 X, filled m named.1 X)
  variables_built filled (application_form f m) named X = filled m named X
  variables_built filled (suspension_form π Y) named X =
      let small : Y < 64 = omega (arith, named.0, r.few_variables) in
      rw (member_inserted 64 0 Y X small, member_empty X) (or-false (eqb X Y))

  module _ (kept : VariablesKept p.nodes table) where
    -- A node's set, where those below it are right.
    next_filled : (n : ℕ) → n < length p.nodes → FilledBelow p.nodes table n → VariablesOf p.nodes n (set_of table n)
    next_filled n h filled X =
        ap (λ w. member w X) (kept n h)
        ∙ variables_built filled (form_at p.nodes n) (r.named_nodes n) X
        ∙ sym (ap (occurs_in X) (tree_built p.atoms p.variables p.nodes r.named_nodes n))

    filled_below : (k : ℕ) → k ≤ length p.nodes → FilledBelow p.nodes table k
    filled_below zero h n l = absurd (omega arith)
    filled_below (suc k) h n l =
        let lower = filled_below k (omega arith) in
        by_eq n k (λ e. rw e (next_filled k (omega arith) lower)) (λ d. lower n (omega arith))

    -- A node's parts are below it: so all sets are right.
    pub kept_filled : FilledBelow p.nodes table (length p.nodes)
    kept_filled = filled_below (length p.nodes) (omega arith)

-- ---- the loop that looks through bindings

-- `waiting` are the bound variables that were not looked through, `reach` what is reached so far.
pub record Looking (bound : ℕ) (made : List (List ℕ)) (variables_of_nodes : List ℕ) (start waiting reach : ℕ) : Type 0 where
  pub within : (Y : ℕ) → member waiting Y ≡ true → member bound Y ≡ true
  pub holds : (X : ℕ) → member start X ≡ true → member reach X ≡ true
  pub looked : (X Y : ℕ) → member bound Y ≡ true → member waiting Y ≡ false → member (behind made variables_of_nodes Y) X ≡ true → member reach X ≡ true
  pub reached : (X : ℕ) → member reach X ≡ true → VariableReached bound made variables_of_nodes start X

module _ {bound : ℕ} {made : List (List ℕ)} (variables_of_nodes : List ℕ) {start : ℕ} where
  pub looking_none : Looking bound made variables_of_nodes start bound start
  looking_none = record {
    within = λ Y m. m;
    holds = λ X m. m;
    looked = λ X Y m q. apart m q;
    reached = λ X m. inside m;
  }

  module _ {waiting reach : ℕ} (l : Looking bound made variables_of_nodes start waiting reach) where
    -- A member of both: it is reached, and was not looked through.
    module _ (unseen x : ℕ) (few : unseen < 2 ^ 64) (o : unseen ≡ intersection waiting reach) (z : eqb unseen 0 ≡ false) (q : x ≡ lowest 64 unseen) where
      met : (member waiting x ≡ true) × (member reach x ≡ true)
      met =
          let m : member unseen x ≡ true = rw q (lowest_member 64 unseen (not_empty unseen z) few) in
          both (member waiting x) (member reach x) (sym (member_intersection waiting reach x) ∙ (rw o at m))

      pub unseen_small : x < 64
      unseen_small = rw q (lowest_lt 64 unseen (not_empty unseen z) few)

      pub unseen_bound : member bound x ≡ true
      unseen_bound = l.within x met.0

      pub unseen_less : count (removed waiting x) < count waiting
      unseen_less = count_removed_lt waiting x met.0

      pub looking_more : (w : ℕ) → w ≡ behind made variables_of_nodes x → Looking bound made variables_of_nodes start (removed waiting x) (union reach w)
      looking_more w e = record {
        within = λ Y m. by_eq Y x (λ k. rw k unseen_bound) (λ d. l.within Y (sym (member_removed_other waiting x Y d) ∙ m));
        holds = λ X m. member_union_left reach w X (l.holds X m);
        looked = λ X Y b m k.
            by_eq Y x
            (λ i. member_union_right reach w X (rw (e, ← i) k))
            (λ d. member_union_left reach w X (l.looked X Y b (sym (member_removed_other waiting x Y d) ∙ m) k));
        reached = λ X m.
            ⊎_elim (l.reached X) (λ k. through (l.reached x met.1) unseen_bound (rw e at k)) (member_union_cases reach w X m);
      }

    pub looking_all : (unseen : ℕ) → unseen ≡ intersection waiting reach → eqb unseen 0 ≡ true → Closure bound made variables_of_nodes start reach
    looking_all unseen o z = record {
      holds = l.holds;
      closed = λ X Y m b. l.looked X Y b (not_waiting Y m);
      reached = l.reached;
    }
      where
        not_waiting : (Y : ℕ) → member reach Y ≡ true → member waiting Y ≡ false
        not_waiting Y m = by_member waiting Y (λ k. apart m (disjoint_apart waiting reach Y (sym o ∙ eqb-true unseen 0 z) k)) (λ k. k)
