-- The laws of doing what the rule tells: what each function leaves in its tables is what the definition's step adds.
use Prim.Native.Nat.{ℕ, ◌+◌, ◌≤◌}
use native.Mathlib.Omega.{arith}
use mathlib.Core.Path.{◌≡◌, refl, sym, ◌∙◌, ap}
use mathlib.Core.List.{List, [], ◌∷◌, ◌++◌, map, append-nil}
use lib.ListN.{length}
use Rattle.std.specs.Prelude.{Ok}
use Rattle.names.specs.declared.NodeId.{NodeId}
use Rattle.permutation.specs.Table.{Table, identity, after, inverted, swapped_after, disagreement}
use Rattle.permutation.specs.Store.{table, of_table}
use Rattle.permutation.specs.declared.Permutation.{Permutation}
use Rattle.permutation.proofs.Table.{identity_after, inverted_identity}
use Rattle.permutation.proofs.Store.{length_table, table_after, table_inverted, table_swapped_after, members_disagreement}
use Rattle.sets.specs.Bits.{members, of_list}
use Rattle.sets.specs.declared.Set.{Set}
use Rattle.problem.specs.Held.{problem_of}
use Rattle.run.specs.Meaning.{Side}
use Rattle.run.specs.Run.{Equation, of_variable, of_side, under, Refusal, clash, inside, protection}
use Rattle.run.specs.Answer.{refusal_number}
use Rattle.numbers.specs.Numbers.{number_of}
use Rattle.stack.specs.Stack.{Stack, stack_of, equation_of, Pushed}
use Rattle.stack.specs.declared.Pending.{Pending}
use Rattle.bindings.specs.Bindings.{Bindings, bindings_of, Keeps, Added, side_of, binding_of}
use Rattle.bindings.specs.declared.Value.{Value}
use Rattle.demands.specs.Demands.{Sheet, SideRaised, VariableRaised}
use Rattle.side.specs.Side.{side_at, whole_of}
use Rattle.side.proofs.Resolving.{length_whole}
use Rattle.perform.specs.declared.State.{State}
use Rattle.perform.specs.Performed.{tables_of, gone_to, reason_of, StackGrown, DisagreementRaised, BoundTo, GoneOn}

-- ---- equations

pub grown_one : {n : ℕ} {before after : Stack} {e : Pending} → Pushed before n e after → (A : ℕ) → A ≤ 32
    → StackGrown A e.number ((side_at A e.left e.left_node, side_at A e.right e.right_node) ∷ []) before n after (n + 1)
unfolding equation_of
grown_one h A few = h.stack A few

pub grown_two : (A number n : ℕ) (s t u v : Side) (before between after : Stack) → StackGrown A number ((u, v) ∷ []) before n between (n + 1)
    → StackGrown A number ((s, t) ∷ []) between (n + 1) after (n + 1 + 1) → StackGrown A number ((s, t) ∷ (u, v) ∷ []) before n after (n + 2)
grown_two A number n s t u v before between after f g =
    let e : n + 1 + 1 ≡ n + 2 = omega arith in
    ap (stack_of A after) (sym e) ∙ g ∙ ap (λ (l : List Equation). record { number = number; left = s; right = t } ∷ l) f

-- The right side's images after the swap are those that the code has pushed.
pub swapped_is : {swapped : Permutation} (A a b : ℕ) (q : Permutation) → A ≤ 32 → length q.images ≡ 32
    → swapped ≡ of_table (swapped_after a b (table A q)) → table A swapped ≡ swapped_after a b (table A q)
swapped_is A a b q few whole e = ap (table A) e ∙ table_swapped_after A a b (table A q) (length_table A q (omega arith))

-- ---- demands

pub disagreement_raised : {A w X number : ℕ} {before after : Sheet} (s : List ℕ) (P Q : Table) (m k : ℕ) (left right : Permutation) → A ≤ 32
    → table A left ≡ whole_of s A P m → table A right ≡ whole_of s A Q k → w ≡ of_list 32 (disagreement (table A left) (table A right))
    → VariableRaised w X number before after → DisagreementRaised (whole_of s A P m) (whole_of s A Q k) X number before after
disagreement_raised {A} {w} s P Q m k left right few is_left is_right is_set h nodes variables ds few_nodes raised =
    let l : length (whole_of s A P m) ≡ A = length_whole s A P m in
    let atoms_are : members 32 w ≡ disagreement (whole_of s A P m) (whole_of s A Q k) =
    ap (members 32) is_set ∙ rw (is_left, is_right) (members_disagreement (whole_of s A P m) (whole_of s A Q k) (omega arith)) in
    rw atoms_are at (h.raised nodes variables ds few_nodes raised)

-- ---- a binding

-- The images under the inverse of the whole permutation: as they were, where that is the identity, and otherwise those that the code has composed.
module _ (A : ℕ) (outer q : Permutation) (few : A ≤ 32) (long : length q.images ≡ 32) where
  pub under_identity : table A outer ≡ identity A → table A q ≡ after (inverted (table A outer)) (table A q)
  under_identity nothing = rw (nothing, inverted_identity) (sym (identity_after A (table A q) (length_table A q (omega arith))))

  pub under_composed : (back r : Permutation) → length outer.images ≡ 32 → back ≡ of_table (inverted (table A outer))
      → r ≡ of_table (after (table A back) (table A q)) → table A r ≡ after (inverted (table A outer)) (table A q)
  under_composed back r whole is_back is_r =
      ap (table A) is_r ∙ table_after A (table A back) (table A q) (length_table A q (omega arith))
      ∙ ap (λ (T : Table). after T (table A q)) (ap (table A) is_back ∙ table_inverted A (table A outer) (length_table A outer (omega arith)))

pub value_is : (s : List ℕ) (A : ℕ) (P : Table) (m : ℕ) (outer q images : Permutation) (k : NodeId) → table A outer ≡ whole_of s A P m
    → table A images ≡ after (inverted (table A outer)) (table A q)
    → side_of A (record { images = images; node = k }) ≡ under (inverted (whole_of s A P m)) (side_at A q k)
unfolding side_of
value_is s A P m outer q images k is_outer is_images = rw (is_images, is_outer) refl

pub bound_to : {A number X : ℕ} {v : Side} {before after : Bindings} {state : State} {value : Value} {more : Set ℕ}
    → Added before state.count state.bound.0 X value number after more.0 → side_of A value ≡ v
    → BoundTo A number X v before state after (gone_to state.waiting more (state.count + 1))
bound_to {value = value} added same = record { value = value; same = same; added = added; gone = refl }

-- ---- what refuses

-- Its number is the document's.
pub reason_number : (why : Refusal) → number_of (reason_of why) ≡ refusal_number why
reason_number clash = refl
reason_number inside = refl
reason_number protection = refl

-- ---- what goes on

none_bound : (A k : ℕ) (made : Bindings) → bindings_of A made k ≡ bindings_of A made k ++ []
none_bound A k made = sym (append-nil (bindings_of A made k))

-- In a state whose set of bound variables and number belong to the bindings: nothing is bound, and the bindings stay.
module _ {s : List ℕ} {A number : ℕ} {state : State} {made : Bindings} (keeps : Keeps made.made state.count state.bound.0) where
  pub gone_pushed : {qs : List (Side × Side)} {before after : Stack} {asked : Sheet} {n : ℕ} → StackGrown A number qs before state.waiting after n
      → GoneOn s A number qs [] [] (tables_of before made asked) state (tables_of after made asked) (Ok (gone_to n state.bound state.count))
  gone_pushed {n = n} pushed =
      record {
        next = gone_to n state.bound state.count;
        outcome = refl;
        stack = pushed;
        made = none_bound A state.count made;
        keeps = keeps;
        raised = λ ds raised. rw append-nil raised;
      }

  pub gone_renamed : {u t : Side} {a : ℕ} {before after : Stack} {asked now_asked : Sheet} (b : ℕ)
      → StackGrown A number ((u, record { images = swapped_after a b t.images; node = t.node }) ∷ []) before state.waiting after (state.waiting + 1)
      → SideRaised a t.images t.node number asked now_asked
      → GoneOn s A number ((u, record { images = swapped_after a b t.images; node = t.node }) ∷ []) [] ((a, of_side t) ∷ [])
      (tables_of before made asked) state (tables_of after made now_asked) (Ok (gone_to (state.waiting + 1) state.bound state.count))
  gone_renamed b pushed h =
      record {
        next = gone_to (state.waiting + 1) state.bound state.count;
        outcome = refl;
        stack = pushed;
        made = none_bound A state.count made;
        keeps = keeps;
        raised = λ ds raised. h.raised (length (problem_of s).nodes) (problem_of s).variables ds raised;
      }

  pub gone_same : {waiting : Stack} {before after : Sheet} (P Q : Table) (X : ℕ) → DisagreementRaised P Q X number before after
      → length (problem_of s).nodes ≤ 512
      → GoneOn s A number [] [] (map (λ a. (a, of_variable X)) (disagreement P Q)) (tables_of waiting made before) state
      (tables_of waiting made after) (Ok state)
  gone_same P Q X h few_nodes =
      record {
        next = state;
        outcome = refl;
        stack = refl;
        made = none_bound A state.count made;
        keeps = keeps;
        raised = λ ds raised. h (length (problem_of s).nodes) (problem_of s).variables ds few_nodes raised;
      }

-- A binding is added.
pub gone_bound : {s : List ℕ} {A number X : ℕ} {v : Side} {before after : Bindings} {state : State} {waiting : Stack} {asked : Sheet} {r : State} → A ≤ 32
    → BoundTo A number X v before state after r
    → GoneOn s A number [] ((X, v) ∷ []) [] (tables_of waiting before asked) state (tables_of waiting after asked) (Ok r)
unfolding binding_of
gone_bound {A = A} few h =
    rw h.gone
    (record {
      next = gone_to _ _ _;
      outcome = refl;
      stack = refl;
      made = rw h.same at (h.added.bindings A few);
      keeps = h.added.keeps;
      raised = λ ds raised. rw append-nil raised;
    })
