-- An equation that waits, changed where it lies: its images are read and written at its place, and its nodes may be elsewhere, with the caller. Definitions
-- alone; their laws are in proofs/.
use Rattle.std.specs.Prelude.{ℕ, ◌+◌, ◌≤◌, ◌%◌, ◌≡◌, List, [], ◌∷◌, get_or, set}
use Rattle.names.specs.declared.NodeId.{NodeId}
use Rattle.permutation.specs.Table.{Table, swapped_after}
use Rattle.rows.specs.Rows.{images_in}
use Rattle.run.specs.Run.{Equation}
use Rattle.stack.specs.Stack.{Stack, stack_tables, stack_of}
use Rattle.stack.specs.declared.Nodes.{Nodes}

-- The images of the two sides at place n, with A atoms in use.
unfoldable pub left_at : ℕ → List (List (List ℕ)) → ℕ → Table
left_at A images n = images_in A (get_or (get_or images n []) 0 [])

unfoldable pub right_at : ℕ → List (List (List ℕ)) → ℕ → Table
right_at A images n = images_in A (get_or (get_or images n []) 1 [])

-- Its number and its nodes.
unfoldable pub nodes_at : List (List ℕ) → ℕ → Nodes
nodes_at heads n =
    record {
      number = get_or (get_or heads n []) 0 0 % 256;
      left = record { 0 = get_or (get_or heads n []) 1 0 };
      right = record { 0 = get_or (get_or heads n []) 2 0 };
    }

-- The equation of this number with these nodes under the images at place n.
abbrev pub equation_at : ℕ → ℕ → NodeId → NodeId → List (List (List ℕ)) → ℕ → Equation
equation_at A number l r images n =
    record {
      number = number;
      left = record { images = left_at A images n; node = l.0 };
      right = record { images = right_at A images n; node = r.0 };
    }

-- The stack whose top has this number and these nodes, under the images at place n, above the n others.
abbrev pub stack_with : ℕ → ℕ → NodeId → NodeId → Stack → ℕ → List Equation
stack_with A number l r t n = equation_at A number l r t.images n ∷ stack_of A t n

-- Other nodes at place n.
pub record Renewed (n number : ℕ) (l r : NodeId) (before after : List (List ℕ)) : Type 0 where
  pub content : after ≡ set before n (number ∷ l.0 ∷ r.0 ∷ [])
  pub stack : (A : ℕ) (images : List (List (List ℕ))) → A ≤ 32
      → stack_of A (stack_tables after images) (n + 1) ≡ stack_with A number l r (stack_tables before images) n

-- Two equations for one: the images at place n stand at place n + 1 too, and what waits below that is one more.
pub record Split (n number : ℕ) (l r : NodeId) (before after : Stack) : Type 0 where
  pub stack : (A : ℕ) → A ≤ 32 → stack_of A after (n + 1) ≡ stack_with A number l r before n
  pub left : (A : ℕ) → left_at A after.images (n + 1) ≡ left_at A before.images n
  pub right : (A : ℕ) → right_at A after.images (n + 1) ≡ right_at A before.images n

-- The right side at place n under the swap of a and b; the left side and what waits below stay.
pub record RightSwapped (a b n : ℕ) (before after : List (List (List ℕ))) : Type 0 where
  pub left : (A : ℕ) → left_at A after n ≡ left_at A before n
  pub right : (A : ℕ) → A ≤ 32 → right_at A after n ≡ swapped_after a b (right_at A before n)
  pub below : (A : ℕ) (heads : List (List ℕ)) → stack_of A (stack_tables heads after) n ≡ stack_of A (stack_tables heads before) n
