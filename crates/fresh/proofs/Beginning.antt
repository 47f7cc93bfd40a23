-- The demands are visited, node by node.
use Prim.Native.Nat.{ℕ, ◌+◌, ◌<◌}
use native.Mathlib.Omega.{arith}
use mathlib.Core.Path.{◌≡◌, sym, ◌∙◌, ap}
use mathlib.Core.Logic.{⊎_elim}
use mathlib.Core.Bool.{false, true≢false}
use mathlib.Core.List.{List}
use mathlib.Core.Option.{Option, none}
use lib.ListN.{length, get_or}
use Rattle.sets.specs.Bits.{member}
use Rattle.sets.proofs.Bits.{member_empty}
use Rattle.names.proofs.Equal.{by_eq}
use Rattle.problem.specs.Problem.{Problem}
use Rattle.run.specs.Meaning.{Side}
use Rattle.visit.specs.Pairs.{Pair, of_node, of_variable, PairReached, start}
use Rattle.visit.specs.Visited.{Marked, Only, Looked, Visited}
use Rattle.visit.proofs.Growth.{reached_through, looked_more}
use Rattle.fresh.specs.Marks.{Begun}

-- The sets that are demanded, in two columns.
module _ (p : Problem) (nodes₀ variables₀ : List ℕ) where
  abbrev Wanted : Pair → Type 0
  Wanted = Marked p nodes₀ variables₀

  -- The demands at variables and at the nodes below i were visited.
  pub record Beginning (i : ℕ) (seen variables : List ℕ) : Type 0 where
    pub of_variables : (a X : ℕ) → Wanted (of_variable a X) → Marked p seen variables (of_variable a X)
    pub of_nodes : (a n : ℕ) → n < i → Wanted (of_node a n) → Marked p seen variables (of_node a n)
    pub from : (value : ℕ → Option Side) (w : Pair) → Marked p seen variables w → PairReached p.nodes value Wanted w
    pub looked : (value : ℕ → Option Side) (w : Pair) → Marked p seen variables w → Looked p.nodes value (Marked p seen variables) w

  pub beginning_start : (seen : List ℕ) → ((i : ℕ) → i < length p.nodes → get_or seen i 0 ≡ 0) → Beginning 0 seen variables₀
  beginning_start seen z = record {
    of_variables = λ a X h. h;
    of_nodes = λ a n l h. absurd (omega arith);
    from = from₀;
    looked = looked₀;
  }
    where
      nothing : (a n : ℕ) → Marked p seen variables₀ (of_node a n) → ⊥
      nothing a n h = true≢false (sym h.1 ∙ ap (λ (w : ℕ). member w a) (z n h.0) ∙ member_empty a)

      from₀ : (value : ℕ → Option Side) (w : Pair) → Marked p seen variables₀ w → PairReached p.nodes value Wanted w
      from₀ value (of_node a n) h = absurd (nothing a n h)
      from₀ value (of_variable a X) h = start {w = of_variable a X} h

      looked₀ : (value : ℕ → Option Side) (w : Pair) → Marked p seen variables₀ w → Looked p.nodes value (Marked p seen variables₀) w
      looked₀ value (of_node a n) h = absurd (nothing a n h)
      looked₀ value (of_variable a X) h = tt

  -- The atoms demanded of node i are visited there.
  pub beginning_more : (i : ℕ) {seen variables seen' variables' : List ℕ} (atoms : ℕ) → i < length p.nodes → atoms ≡ get_or nodes₀ i 0
      → Beginning i seen variables → Visited p.nodes atoms i (Marked p seen variables) (Marked p seen' variables')
      → Beginning (i + 1) seen' variables'
  beginning_more i {seen} {variables} {seen'} {variables'} atoms few is_atoms b v = record {
    of_variables = λ a X h. kept (of_variable a X) (b.of_variables a X h);
    of_nodes = λ a n l h. by_eq n i (λ q. rw q (v.here a (rw (is_atoms, ← q) h.1))) (λ d. kept (of_node a n) (b.of_nodes a n (omega arith) h));
    from = λ value w h. ⊎_elim (λ k. b.from value w k) (λ k. reached_through (wanted value) k.0) ((v.grown value).new w h);
    looked = λ value w h. ⊎_elim (λ k. looked_more p.nodes value kept w (b.looked value w k)) (λ k. k.1) ((v.grown value).new w h);
  }
    where
      kept : (w : Pair) → Marked p seen variables w → Marked p seen' variables' w
      kept = (v.grown (λ X. none)).kept

      wanted : (value : ℕ → Option Side) (w : Pair) → Only atoms i w → PairReached p.nodes value Wanted w
      wanted value (of_node a n) (q, h) = rw q (start {w = of_node a i} (few, rw (← is_atoms) h))
      wanted value (of_variable a X) h = absurd h

  -- Of nodes from i up to j nothing is demanded.
  beginning_further : (i j : ℕ) {seen variables : List ℕ} → ((a n : ℕ) → n < j → Wanted (of_node a n) → n < i) → Beginning i seen variables
      → Beginning j seen variables
  beginning_further i j below b = record {
    of_variables = b.of_variables;
    of_nodes = λ a n l h. b.of_nodes a n (below a n l h) h;
    from = b.from;
    looked = b.looked;
  }

  pub beginning_skip : (i : ℕ) {seen variables : List ℕ} → get_or nodes₀ i 0 ≡ 0 → Beginning i seen variables → Beginning (i + 1) seen variables
  beginning_skip i e b =
      beginning_further i (i + 1)
      (λ a n l h.
      by_eq n i
      (λ q. absurd (true≢false (sym h.1 ∙ ap (λ (k : ℕ). member (get_or nodes₀ k 0) a) q ∙ ap (λ (w : ℕ). member w a) e ∙ member_empty a)))
      (λ d. omega arith)) b

  pub beginning_end : {seen variables : List ℕ} → Beginning (length p.nodes) seen variables → Begun p.nodes Wanted (Marked p seen variables)
  beginning_end {seen} {variables} b = record { has = has; from = b.from; looked = b.looked }
    where
      has : (w : Pair) → Wanted w → Marked p seen variables w
      has (of_node a n) h = b.of_nodes a n h.0 h
      has (of_variable a X) h = b.of_variables a X h

  -- Where nothing is demanded of a node, nothing is to be visited.
  pub begun_none : ((i : ℕ) → i < length p.nodes → (a : ℕ) → member (get_or nodes₀ i 0) a ≡ false)
      → (seen : List ℕ) → ((i : ℕ) → i < length p.nodes → get_or seen i 0 ≡ 0)
      → Begun p.nodes Wanted (Marked p seen variables₀)
  begun_none bare seen z =
      beginning_end
      (beginning_further 0 (length p.nodes) (λ a n l h. absurd (true≢false (sym h.1 ∙ bare n l a))) (beginning_start seen z))
