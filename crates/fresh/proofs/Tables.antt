-- What resolving in tables says of the definition: joins the marks in the tables, the bindings in theirs and `resolved_all`.
use Prim.Native.Nat.{ℕ, ◌<◌}
use mathlib.Core.Path.{◌≡◌, sym, ◌∙◌}
use mathlib.Core.Logic.{◌↔◌}
use mathlib.Core.Bool.{Bool, true, false, true≢false}
use mathlib.Core.List.{List}
use mathlib.Core.Option.{none, some}
use lib.ListN.{get_or}
use native.Mathlib.Omega.{arith}
use Rattle.sets.specs.Bits.{member}
use Rattle.sets.proofs.Bits.{by_member}
use Rattle.problem.specs.Problem.{form_at, Problem}
use Rattle.problem.specs.Readable.{Named}
use Rattle.run.specs.Meaning.{Binding, Fact, meaning}
use Rattle.run.specs.Run.{Ground, value_of}
use Rattle.run.specs.Answer.{Asked, resolved_all, has_fact}
use Rattle.bindings.specs.Bindings.{Bindings, binding_at, bindings_of, Keeps}
use Rattle.bindings.proofs.Laws.{value_of_set}
use Rattle.visit.specs.Pairs.{Pair}
use Rattle.visit.specs.Visited.{Marked}
use Rattle.fresh.specs.Meaning.{Meaningful}
use Rattle.fresh.specs.Resolved.{PairsResolved, Asks}
use Rattle.fresh.specs.Marks.{valued, value_at, Bound}
use Rattle.fresh.proofs.Right.{resolved_right}
use Rattle.fresh.proofs.Closing.{value_bound}

-- The value in the tables is the definition's.
pub value_same : (A : ℕ) (t : Bindings) (k bound : ℕ) → Keeps t.made k bound → (X : ℕ)
    → value_at A bound t.made t.values X ≡ value_of (bindings_of A t k) X
unfolding binding_at
value_same A t k bound h X = sym (value_of_set A t k bound h X)

module _ (p : Problem) (is_protected : ℕ → Bool) (t : Bindings) (k bound : ℕ) (h : Keeps t.made k bound) where
  abbrev ground : Ground
  ground = record { atoms = p.atoms; nodes = p.nodes; protected = is_protected }

  -- The bindings that are read off the tables.
  abbrev bindings : List Binding
  bindings = bindings_of p.atoms t k

  value_here_lem : (X : ℕ) → member bound X ≡ true → value_of bindings X ≡ some (valued p.atoms t.made t.values X)
  value_here_lem X e = sym (value_same p.atoms t k bound h X) ∙ value_bound p.atoms bound t.made t.values X e

  -- The set says which variables are unbound.
  unbound : (X : ℕ) → (value_of bindings X ≡ none) ↔ (member bound X ≡ false)
  unbound X = (
    λ e. by_member bound X (λ q. absurd (let z : ◌≡◌ {A = ℕ} 0 1 = cc (value_here_lem X q, e) in omega arith)) (λ q. q),
    λ e. sym (value_same p.atoms t k bound h X) ∙ rw e,
  )

  module _ (m : Meaningful ground p.variables bindings) where
    -- Bindings that have a meaning are such as resolving asks for.
    pub bound_values : Bound p bound t.made t.values
    bound_values = record {
      few = λ X e. m.few X _ (value_here_lem X e);
      nodes = λ X e. m.there X _ (value_here_lem X e);
      long = λ X e. m.long X _ (value_here_lem X e);
      permutes = λ X e. m.permutes X _ (value_here_lem X e);
    }

    -- What was resolved in tables is what the definition resolves: the verdict, and the facts at the unbound variables.
    pub resolved_tables : (named : (n : ℕ) → Named p.atoms p.variables n (form_at p.nodes n)) {S : Pair → Type 0} (seen asked : List ℕ) (r : Bool)
        → PairsResolved p.nodes (value_at p.atoms bound t.made t.values) S (Marked p seen asked) (r ≡ true) → (ds : List Asked)
        → Asks p.nodes ds S
        → (r ≡ true → resolved_all (meaning p.nodes bindings) ds ≡ none)
        × (r ≡ false → (fs : List Fact) × (resolved_all (meaning p.nodes bindings) ds ≡ some fs)
        × ((a X : ℕ) → (has_fact (a, X) fs ≡ true) ↔ (((X < p.variables) × (member (get_or asked X 0) a ≡ true)) × (member bound X ≡ false))))
    resolved_tables named seen asked r res ds s =
        let value = value_at p.atoms bound t.made t.values in
        let both = resolved_right ground p.variables named m value (value_same p.atoms t k bound h) res ds s in (
          both.0,
          λ e.
              let (fs, q, f) = both.1 (λ q. absurd (true≢false (sym q ∙ e))) in
              (fs, q, λ a X. (λ k. let j = (f a X).0 k in (j.0, (unbound X).0 j.1), λ j. (f a X).1 (j.0, (unbound X).1 j.1))),
        )
