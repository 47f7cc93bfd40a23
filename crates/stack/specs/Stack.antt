-- The pending equations in tables: what the definition's stack (run, specs/Run.antt) is read off them. Definitions alone; their laws are in proofs/.
use Rattle.std.specs.Prelude.{ℕ, zero, suc, ◌+◌, ◌≤◌, ◌%◌, ◌≡◌, List, [], ◌∷◌, length, get_or, set}
use Rattle.permutation.specs.Store.{table, of_table}
use Rattle.permutation.specs.Table.{identity}
use Rattle.rows.specs.Rows.{row_kept, row_held}
use Rattle.problem.specs.Problem.{Equal}
use Rattle.run.specs.Run.{Equation, equations_from}
use Rattle.stack.specs.declared.Pending.{Pending}

-- "room for 576 is enough": how many equations can wait.
abbrev pub most_waiting : ℕ
most_waiting = 576

-- Of each equation its number and the nodes of its sides, and the rows of its sides.
pub record Stack : Type 0 where
  pub heads : List (List ℕ)
  pub images : List (List (List ℕ))

abbrev pub stack_tables : List (List ℕ) → List (List (List ℕ)) → Stack
stack_tables heads images = record { heads = heads; images = images }

-- What the code makes of place i. A number is a byte, kept where there is room for two: the low one is read.
unfoldable pub pending_at : Stack → ℕ → Pending
pending_at t i =
    record {
      number = get_or (get_or t.heads i []) 0 0 % 256;
      left = row_held (get_or (get_or t.images i []) 0 []);
      left_node = record { 0 = get_or (get_or t.heads i []) 1 0 };
      right = row_held (get_or (get_or t.images i []) 1 []);
      right_node = record { 0 = get_or (get_or t.heads i []) 2 0 };
    }

-- The definition's equation of one that the code holds, with A atoms in use.
unfoldable pub equation_of : ℕ → Pending → Equation
equation_of A e =
    record {
      number = e.number;
      left = record { images = table A e.left; node = e.left_node.0 };
      right = record { images = table A e.right; node = e.right_node.0 };
    }

-- "Equations wait in a stack": with n of them the top is at place n - 1.
unfoldable pub stack_of : ℕ → Stack → ℕ → List Equation
stack_of A t zero = []
stack_of A t (suc n) = equation_of A (pending_at t n) ∷ stack_of A t n

-- What stands of an equation at its place.
abbrev pub head_of : Pending → List ℕ
head_of e = e.number ∷ e.left_node.0 ∷ e.right_node.0 ∷ []

abbrev pub rows_of : Pending → List (List ℕ)
rows_of e = row_kept e.left ∷ row_kept e.right ∷ []

-- The tables with an equation at place n; every other place stays.
unfoldable pub with_equation : ℕ → Pending → Stack → Stack
with_equation n e t = record { heads = set t.heads n (head_of e); images = set t.images n (rows_of e) }

-- What pushing does: the tables' whole content, and what that is as a stack, for any number of atoms in use.
pub record Pushed (before : Stack) (n : ℕ) (e : Pending) (after : Stack) : Type 0 where
  pub content : after ≡ with_equation n e before
  pub stack : (A : ℕ) → A ≤ 32 → stack_of A after (n + 1) ≡ equation_of A e ∷ stack_of A before n

-- What reading the top gives.
pub record Topped (t : Stack) (n : ℕ) (r : Pending) : Type 0 where
  pub content : r ≡ pending_at t n
  pub stack : (A : ℕ) → A ≤ 32 → stack_of A t (n + 1) ≡ equation_of A r ∷ stack_of A t n

-- "Each side is a permutation and a node": at the start the permutation is the identity.
abbrev pub first_pending : ℕ → Equal → Pending
first_pending k e =
    record {
      number = k;
      left = of_table (identity 32);
      left_node = record { 0 = e.left };
      right = of_table (identity 32);
      right_node = record { 0 = e.right };
    }

-- "the file's first on top": the tables with the equations from number k on, written from the last to the first.
unfoldable pub filled : ℕ → List Equal → Stack → Stack
filled k [] t = t
filled k (e ∷ es) t = with_equation (length es) (first_pending k e) (filled (suc k) es t)

-- What starting leaves: the definition's stack at the start of a run, of n equations, for any number of atoms in use.
pub record Started (equations : List Equal) (before : Stack) (n : ℕ) (after : Stack) : Type 0 where
  pub content : after ≡ filled 0 equations before
  pub stack : (A : ℕ) → A ≤ 32 → stack_of A after n ≡ equations_from A 0 equations
