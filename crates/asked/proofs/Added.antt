-- The laws of adding the file's demands: the turns of the two loops, one demand more at a time.
use Prim.Native.Nat.{ℕ, zero, suc, ◌+◌, ◌≤◌, ◌<◌}
use native.Mathlib.Numerals.{add-one}
use native.Mathlib.Omega.{arith}
use mathlib.Core.Path.{◌≡◌, refl, sym, ◌∙◌, ap}
use mathlib.Core.Bool.{Bool, true, false, ◌&&◌, ◌||◌}
use mathlib.Core.List.{List, [], ◌∷◌, Memᴰ}
use lib.ListN.{length, get_or, set, drop, drop_of_length-le}
use lib.Seq.{get_or-set_other, set-get_or, drop-cons}
use lib.Dec.{eqb}
use borrow.Author.Tests.{eq-eqb, ne_eqb}
use Rattle.names.proofs.Equal.{by_eq}
use Rattle.sets.specs.Bits.{member, union}
use Rattle.problem.specs.Problem.{Fresh}
use Rattle.problem.specs.Held.{assumed_for}
use Rattle.demands.specs.Demands.{asked_of_nodes, asked_of_variables, asked_of_node, asked_of_variable, with_set, NodeAsked, VariableAsked}
use Rattle.asked.specs.Added.{with_atom, freshened, asks_fresh, joined, FreshnessAdded, AssumptionsAdded}

-- ---- tag 21

or_inside : (x y z : Bool) → (x || (y || z)) ≡ ((y || x) || z)
or_inside true true z = refl
or_inside true false z = refl
or_inside false true z = refl
or_inside false false z = refl

none_added : (asked : List (List ℕ)) → FreshnessAdded [] asked asked
unfolding freshened
none_added asked = record { content = sym (set-get_or asked 0 []); marks = λ n a. refl; others = refl }

-- The column of the nodes, put in and then changed.
column_again : (f : List ℕ → List ℕ) (sets : List ℕ) (asked : List (List ℕ))
    → set (set asked 0 sets) 0 (f (asked_of_nodes (set asked 0 sets))) ≡ set asked 0 (f sets)
column_again f sets [] = refl
column_again f sets (nodes ∷ rest) = refl

-- One field's atom, and then those of the other fields.
first_added : (d : Fresh) (ds : List Fresh) (before between after : List (List ℕ)) → NodeAsked d.node d.atom before between
    → FreshnessAdded ds between after → FreshnessAdded (d ∷ ds) before after
unfolding freshened with_atom
first_added d ds before between after one rest =
    record {
      content = rest.content ∙ rw one.content (column_again (freshened ds) (with_atom d.node d.atom (asked_of_nodes before)) before);
      marks = λ n a.
          rest.marks n a ∙ ap (λ (x : Bool). asks_fresh ds a n || x) (one.marks n a)
          ∙ or_inside (asks_fresh ds a n) (eqb d.node n && eqb d.atom a) (member (asked_of_node before n) a);
      others = rest.others ∙ one.others;
    }

-- A turn of the loop, and its end.
pub field_added : (ds : List Fresh) (k : ℕ) (z : Fresh) (before between after : List (List ℕ)) → k < length ds
    → NodeAsked (get_or ds k z).node (get_or ds k z).atom before between → FreshnessAdded (drop (k + 1) ds) between after
    → FreshnessAdded (drop k ds) before after
field_added ds k z before between after h one rest =
    rw (drop-cons ds k z h) (first_added (get_or ds k z) (drop (suc k) ds) before between after one (rw (add-one k) at rest))

pub fields_added : (ds : List Fresh) (k : ℕ) (asked : List (List ℕ)) → length ds ≤ k → FreshnessAdded (drop k ds) asked asked
fields_added ds k asked h = rw (drop_of_length-le ds {i = k} h) (none_added asked)

pub mem_at : (l : List Fresh) (k : ℕ) (z : Fresh) → k < length l → Memᴰ (get_or l k z) l
mem_at [] k z h = absurd (omega arith)
mem_at (d ∷ l) zero z h = Memᴰ.head refl
mem_at (d ∷ l) (suc k) z h = Memᴰ.tail (mem_at l k z (omega arith))

-- ---- tag 22

pub none_joined : (assumed : List ℕ) (asked : List (List ℕ)) → AssumptionsAdded 0 assumed asked asked
unfolding joined
none_joined assumed asked = record { content = sym (set-get_or asked 1 []); marks = λ X a h. absurd (omega arith); others = refl }

joined_past : (n : ℕ) (more sets : List ℕ) (X : ℕ) → n ≤ X → get_or (joined n more sets) X 0 ≡ get_or sets X 0
unfolding joined
joined_past zero more sets X h = refl
joined_past (suc n) more sets X h =
    get_or-set_other (joined n more sets) n X _ 0 (λ e. omega arith) ∙ joined_past n more sets X (omega arith)

joined_suc : (n : ℕ) (more sets : List ℕ) → set (joined n more sets) n (union (get_or (joined n more sets) n 0) (get_or more n 0)) ≡ joined (n + 1) more sets
unfolding joined
joined_suc n more sets = rw (add-one n, joined_past n more sets n (omega arith))

-- The table with the assumptions of the first n variables: the next one's set is as it was, and with its assumptions there is one more.
module _ (n : ℕ) (assumed : List ℕ) where
  abbrev with_joined : List (List ℕ) → List (List ℕ)
  with_joined asked = set asked 1 (joined n assumed (asked_of_variables asked))

  next_kept : (asked : List (List ℕ)) → asked_of_variable (with_joined asked) n ≡ asked_of_variable asked n
  next_kept [] = refl
  next_kept (nodes ∷ []) = refl
  next_kept (nodes ∷ variables ∷ rest) = joined_past n assumed variables n (omega arith)

  next_joined : (asked : List (List ℕ))
      → with_set 1 n (union (asked_of_variable (with_joined asked) n) (assumed_for assumed n)) (with_joined asked)
      ≡ set asked 1 (joined (n + 1) assumed (asked_of_variables asked))
  next_joined [] = refl
  next_joined (nodes ∷ []) = refl
  next_joined (nodes ∷ variables ∷ rest) = ap (λ (sets : List ℕ). nodes ∷ sets ∷ rest) (joined_suc n assumed variables)

  -- A turn of the loop.
  pub variable_joined : (before between after : List (List ℕ)) → AssumptionsAdded n assumed before between
      → VariableAsked n (assumed_for assumed n) between after → AssumptionsAdded (n + 1) assumed before after
  variable_joined before between after some one =
      record {
        content = one.content ∙ rw some.content (next_joined before);
        marks = λ X a h.
            one.marks X a
            ∙ by_eq n X
            (λ p. rw (← p, eq-eqb n n refl, some.content, next_kept before))
            (λ p. rw (ne_eqb n X p) (some.marks X a (omega arith)));
        others = one.others ∙ some.others;
      }
