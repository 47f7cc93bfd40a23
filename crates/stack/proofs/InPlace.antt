-- The laws of an equation that waits, changed where it lies: what other nodes, another right row, or its images at the next place too make of the
-- stack that is read off the tables.
use Prim.Native.Nat.{ℕ, ◌+◌, ◌≤◌, ◌<◌, ◌%◌}
use native.Mathlib.Numerals.{add-one}
use native.Mathlib.Omega.{arith}
use mathlib.Core.Path.{◌≡◌, refl, ◌∙◌, ap}
use mathlib.Core.Logic.{◌≢◌}
use mathlib.Core.List.{List, [], ◌∷◌}
use lib.ListN.{length, get_or, set}
use lib.Seq.{get_or-set_same, get_or-set_other}
use Rattle.names.specs.declared.NodeId.{NodeId}
use Rattle.rows.specs.Rows.{RowSwapped}
use Rattle.rows.proofs.Rows.{table_held}
use Rattle.run.specs.Run.{Equation}
use Rattle.stack.specs.Stack.{Stack, stack_tables, pending_at, equation_of, stack_of}
use Rattle.stack.specs.InPlace.{left_at, right_at, nodes_at, equation_at, stack_with, Renewed, Split, RightSwapped}
use Rattle.stack.proofs.Laws.{same_below}

-- The top is known by the nodes and the images at its place.
pub top_at : (A : ℕ) (t : Stack) (n : ℕ) → A ≤ 32
    → stack_of A t (n + 1) ≡ stack_with A (nodes_at t.heads n).number (nodes_at t.heads n).left (nodes_at t.heads n).right t n
unfolding stack_of equation_of pending_at nodes_at left_at right_at
top_at A t n h =
    rw (add-one, table_held A (get_or (get_or t.images n []) 0 []), table_held A (get_or (get_or t.images n []) 1 []))

-- ---- other nodes at place n

module _ (heads : List (List ℕ)) (n number : ℕ) (l r : NodeId) where
  abbrev renewed_heads : List (List ℕ)
  renewed_heads = set heads n (number ∷ l.0 ∷ r.0 ∷ [])

  nodes_new : n < length heads → number < 256 → nodes_at renewed_heads n ≡ record { number = number; left = l; right = r }
  unfolding nodes_at
  nodes_new there small =
      let whole : number % 256 ≡ number = omega arith in
      rw (get_or-set_same heads n (number ∷ l.0 ∷ r.0 ∷ []) [] there, whole)

  nodes_other : (images : List (List (List ℕ))) (i : ℕ) → i ≢ n
      → pending_at (stack_tables renewed_heads images) i ≡ pending_at (stack_tables heads images) i
  unfolding pending_at
  nodes_other images i o = rw (get_or-set_other heads n i (number ∷ l.0 ∷ r.0 ∷ []) [] o)

  pub renewed : n < length heads → number < 256 → Renewed n number l r heads renewed_heads
  renewed there small =
      record {
        content = refl;
        stack = λ A images h.
            top_at A (stack_tables renewed_heads images) n h
            ∙ rw (nodes_new there small)
            (ap (λ (below : List Equation). equation_at A number l r images n ∷ below)
            (same_below A _ _ n (λ i k. nodes_other images i (λ p. omega arith))));
      }

-- ---- other rows at place n: what is read off every other place stays

rows_other : (heads : List (List ℕ)) (images : List (List (List ℕ))) (n : ℕ) (rows : List (List ℕ)) (i : ℕ) → i ≢ n
    → pending_at (stack_tables heads (set images n rows)) i ≡ pending_at (stack_tables heads images) i
unfolding pending_at
rows_other heads images n rows i o = rw (get_or-set_other images n i rows [] o)

-- The second of the two rows at place n under a swap.
pub right_swapped : (a b n : ℕ) (images : List (List (List ℕ))) (rows : List (List ℕ)) → n < length images
    → get_or rows 0 [] ≡ get_or (get_or images n []) 0 [] → RowSwapped a b (get_or (get_or images n []) 1 []) (get_or rows 1 [])
    → RightSwapped a b n images (set images n rows)
unfolding left_at right_at
right_swapped a b n images rows there first second =
    let written : get_or (set images n rows) n [] ≡ rows = get_or-set_same images n rows [] there in
    record {
      left = λ A. rw (written, first);
      right = λ A h. rw written (second.images A h);
      below = λ A heads. same_below A _ _ n (λ i k. rows_other heads images n rows i (λ p. omega arith));
    }

-- The images at place n at the place above it too, with other nodes at place n.
pub split_made : (n number : ℕ) (l r : NodeId) (t : Stack) (heads : List (List ℕ)) → n + 1 < length t.images → Renewed n number l r t.heads heads
    → Split n number l r t (stack_tables heads (set t.images (n + 1) (get_or t.images n [])))
unfolding left_at right_at
split_made n number l r t heads there new =
    let rows = get_or t.images n [] in
    let written : get_or (set t.images (n + 1) rows) (n + 1) [] ≡ rows = get_or-set_same t.images (n + 1) rows [] there in
    record {
      stack = λ A h.
          same_below A _ _ (n + 1) (λ i k. rows_other heads t.images (n + 1) rows i (λ p. omega arith)) ∙ new.stack A t.images h;
      left = λ A. rw written;
      right = λ A. rw written;
    }
