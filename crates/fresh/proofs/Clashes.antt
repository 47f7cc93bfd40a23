-- Whether a demand ends at an atom fresh for itself is read off the marks; and then all that was asked is resolved.
use Prim.Native.Nat.{ℕ}
use mathlib.Core.Path.{◌≡◌, refl, sym, ◌∙◌, ap}
use mathlib.Core.Bool.{Bool, true, false, true≢false}
use mathlib.Core.List.{List}
use mathlib.Core.Option.{Option}
use lib.ListN.{get_or}
use Rattle.sets.specs.Bits.{member}
use Rattle.sets.proofs.Bits.{by_test, member_empty}
use Rattle.problem.specs.Problem.{Node, unit_form, atom_form, abstraction_form, pair_form, application_form, suspension_form, form_at, Problem}
use Rattle.run.specs.Meaning.{Side}
use Rattle.visit.specs.Pairs.{Pair}
use Rattle.visit.specs.Visited.{Marked}
use Rattle.visit.proofs.Growth.{reached_through}
use Rattle.fresh.specs.Resolved.{Clashing, PairsResolved}
use Rattle.fresh.specs.Marks.{Begun, LookedThrough, clash_at, Clashed}

clash_some : (f : Node) (w : ℕ) → clash_at f w ≡ true → (a : ℕ) × (f ≡ atom_form a) × (member w a ≡ true)
clash_some unit_form w e = absurd (true≢false (sym e))
clash_some (atom_form a) w e = (a, refl, e)
clash_some (abstraction_form a n) w e = absurd (true≢false (sym e))
clash_some (pair_form l r) w e = absurd (true≢false (sym e))
clash_some (application_form f n) w e = absurd (true≢false (sym e))
clash_some (suspension_form π X) w e = absurd (true≢false (sym e))

pub clash_unmarked : (f : Node) (w : ℕ) → ((a : ℕ) → member w a ≡ false) → clash_at f w ≡ false
clash_unmarked unit_form w e = refl
clash_unmarked (atom_form a) w e = e a
clash_unmarked (abstraction_form a n) w e = refl
clash_unmarked (pair_form l r) w e = refl
clash_unmarked (application_form f n) w e = refl
clash_unmarked (suspension_form π X) w e = refl

pub clash_none : (f : Node) (w : ℕ) → w ≡ 0 → clash_at f w ≡ false
clash_none f w e = clash_unmarked f w (λ a. ap (λ (w : ℕ). member w a) e ∙ member_empty a)

module _ (p : Problem) (seen variables : List ℕ) (r : Bool) where
  -- The verdict that was read off is whether a pair clashes.
  clashed_some : Clashed p.nodes seen r → r ≡ true → Clashing p.nodes (Marked p seen variables)
  clashed_some c e =
      let (n, l, k) = c.found e in
      let (a, q, j) = clash_some (form_at p.nodes n) (get_or seen n 0) k in
      (a, n, (l, j), q)

  clashed_only : Clashed p.nodes seen r → Clashing p.nodes (Marked p seen variables) → r ≡ true
  clashed_only c (a, n, (l, marked), q) =
      let clash : clash_at (form_at p.nodes n) (get_or seen n 0) ≡ true = ap (λ (f : Node). clash_at f (get_or seen n 0)) q ∙ marked in
      by_test r (λ e. e) (λ e. absurd (true≢false (sym clash ∙ c.none e n l)))

  pub resolved_all_lem : {value : ℕ → Option Side} {S Before : Pair → Type 0} → Begun p.nodes S Before
      → LookedThrough p.nodes value Before (Marked p seen variables) → Clashed p.nodes seen r
      → PairsResolved p.nodes value S (Marked p seen variables) (r ≡ true)
  resolved_all_lem {value} b f c = record {
    has = λ w h. f.kept w (b.has w h);
    from = λ w h. reached_through (b.from value) (f.from w h);
    closed = f.closed;
    verdict = (clashed_some c, clashed_only c);
  }
