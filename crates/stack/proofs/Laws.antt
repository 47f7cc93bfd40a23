-- The laws of the stack in tables: an equation written above n others is the top, those below it stay, what the code reads at the top is the
-- definition's top, and the problem's equations pushed from the last to the first are the definition's stack at the start of a run.
use Prim.Native.Nat.{ℕ, zero, suc, ◌+◌, ◌-◌, ◌≤◌, ◌<◌, ◌%◌}
use native.Mathlib.Numerals.{add-one}
use native.Mathlib.Omega.{arith}
use mathlib.Core.Path.{◌≡◌, refl, sym, ◌∙◌, ap, ap₂}
use mathlib.Core.Logic.{◌≢◌}
use mathlib.Core.List.{List, [], ◌∷◌}
use lib.ListN.{length, drop, length-drop, drop_of_length-le, set}
use lib.Seq.{get_or-set_same, get_or-set_other, drop-cons}
use Rattle.permutation.specs.Table.{Table, identity, image}
use Rattle.permutation.specs.Store.{table, of_table}
use Rattle.permutation.proofs.Table.{table_extensional, length_identity, image_identity}
use Rattle.permutation.proofs.Store.{table_of_table, length_table, image_table}
use Rattle.rows.specs.Rows.{row_kept, row_held}
use Rattle.rows.proofs.Rows.{images_in_kept, table_held}
use Rattle.problem.specs.Problem.{Equal}
use Rattle.problem.specs.Look.{equation_at as equation_in}
use Rattle.run.specs.Run.{Equation, equations_from}
use Rattle.stack.specs.declared.Pending.{Pending}
use Rattle.stack.specs.Stack.{Stack, pending_at, equation_of, stack_of, head_of, rows_of, with_equation, Pushed, Topped, first_pending, filled, Started}

-- Two rows, both written.
pub both_written : (rows : List (List ℕ)) (left right : List ℕ) → length rows ≡ 2 → set (set rows 0 left) 1 right ≡ left ∷ right ∷ []
both_written [] left right h = absurd (omega arith)
both_written (a ∷ []) left right h = absurd (omega arith)
both_written (a ∷ b ∷ []) left right h = refl
both_written (a ∷ b ∷ c ∷ rows) left right h = absurd (omega arith)

pub stack_of_none : (A : ℕ) (t : Stack) → stack_of A t 0 ≡ []
unfolding stack_of
stack_of_none A t = refl

-- As many equations wait as are in use: what is known of the length of the definition's stack bounds n.
pub length_stack_of : (A : ℕ) (t : Stack) (n : ℕ) → length (stack_of A t n) ≡ n
unfolding stack_of
length_stack_of A t zero = refl
length_stack_of A t (suc n) = ap suc (length_stack_of A t n)

-- The equations that wait are read off the places below alone.
pub same_below : (A : ℕ) (t u : Stack) (k : ℕ) → ((i : ℕ) → i < k → pending_at t i ≡ pending_at u i) → stack_of A t k ≡ stack_of A u k
unfolding stack_of
same_below A t u zero e = refl
same_below A t u (suc k) e =
    ap₂ (λ (x : Pending) (l : List Equation). equation_of A x ∷ l) (e k (omega arith)) (same_below A t u k (λ i h. e i (omega arith)))

-- Both tables have a place n.
pub record Room (n : ℕ) (t : Stack) : Type 0 where
  pub heads : n < length t.heads
  pub images : n < length t.images

-- ---- an equation that was pushed is read at its place for any number of atoms, and every other place stays

module _ (n : ℕ) (e : Pending) (t : Stack) where
  at_new : Room n t → (A : ℕ) → e.number < 256 → equation_of A (pending_at (with_equation n e t) n) ≡ equation_of A e
  unfolding equation_of pending_at with_equation
  at_new r A small =
      let number : e.number % 256 ≡ e.number = omega arith in
      let left : table A (row_held (row_kept e.left)) ≡ table A e.left = table_held A (row_kept e.left) ∙ images_in_kept A e.left in
      let right : table A (row_held (row_kept e.right)) ≡ table A e.right = table_held A (row_kept e.right) ∙ images_in_kept A e.right in
      rw (get_or-set_same t.heads n (head_of e) [] r.heads, get_or-set_same t.images n (rows_of e) [] r.images, number, left, right)

  at_other : (i : ℕ) → i ≢ n → pending_at (with_equation n e t) i ≡ pending_at t i
  unfolding pending_at with_equation
  at_other i o = rw (get_or-set_other t.heads n i (head_of e) [] o, get_or-set_other t.images n i (rows_of e) [] o)

  -- What the code of `push` leaves.
  pub pushed : Room n t → e.number < 256 → (after : Stack) → after ≡ with_equation n e t → Pushed t n e after
  unfolding stack_of
  pushed r small after c =
      record {
        content = c;
        stack = λ A h.
            rw (c, add-one)
            (ap₂ (λ (x : Equation) (l : List Equation). x ∷ l) (at_new r A small) (same_below A _ t n (λ i k. at_other i (λ p. omega arith))));
      }

-- What the code of `top` makes.
pub topped : (t : Stack) (n : ℕ) (e : Pending) → e ≡ pending_at t n → Topped t n e
unfolding stack_of
topped t n e c = record { content = c; stack = λ A h. rw (c, add-one) }

-- ---- the start of a run: from the last equation down

-- The identity that the code makes has images for all 32 atoms: for A of them it is theirs.
identity_narrow : length (of_table (identity 32)).images ≡ 32 → (A : ℕ) → A ≤ 32 → table A (of_table (identity 32)) ≡ identity A
identity_narrow whole A h =
    let p = of_table (identity 32) in
    let length_A : length (table A p) ≡ A = length_table A p (omega arith) in
    let read_back : table 32 p ≡ identity 32 = table_of_table 32 (identity 32) (length_identity 32) in
    table_extensional (table A p) (identity A) (length_A ∙ sym (length_identity A)) λ a k.
    let inside : a < A = rw length_A at k in
    image_table A p a inside (omega arith)
    ∙ sym (image_table 32 p a (omega arith) (omega arith))
    ∙ ap (λ (P : Table). image P a) read_back
    ∙ image_identity 32 a
    ∙ sym (image_identity A a)

-- The definition's equation k at the start.
abbrev starts_at : ℕ → ℕ → Equal → Equation
starts_at A k e =
    record { number = k; left = record { images = identity A; node = e.left }; right = record { images = identity A; node = e.right } }

starts_at_lem : length (of_table (identity 32)).images ≡ 32 → (A : ℕ) → A ≤ 32 → (k : ℕ) (e : Equal) → equation_of A (first_pending k e) ≡ starts_at A k e
unfolding equation_of
starts_at_lem whole A h k e = rw (identity_narrow whole A h)

-- The last n of the equations are pushed: those from number count - n on.
pub record Starting (equations : List Equal) (before : Stack) (count n : ℕ) (t : Stack) : Type 0 where
  pub content : t ≡ filled (count - n) (drop (count - n) equations) before
  pub stack : (A : ℕ) → A ≤ 32 → stack_of A t n ≡ equations_from A (count - n) (drop (count - n) equations)

module _ (equations : List Equal) (before : Stack) (count : ℕ) (all : count ≡ length equations) where
  pub starting_none : Starting equations before count 0 before
  unfolding filled stack_of
  starting_none =
      let none : drop (count - 0) equations ≡ [] = drop_of_length-le equations {i = count - 0} (omega arith) in
      record { content = rw none; stack = λ A h. rw none }

  pub starting_more : length (of_table (identity 32)).images ≡ 32 → (n : ℕ) (t after : Stack) → n < count → Starting equations before count n t
      → Pushed t n (first_pending (count - n - 1) (equation_in equations (count - n - 1))) after → Starting equations before count (n + 1) after
  unfolding filled
  starting_more whole n t after h s u =
      let k = count - n - 1 in
      let e = equation_in equations k in
      let here : count - (n + 1) ≡ k = omega arith in
      let next : suc k ≡ count - n = omega arith in
      let left : drop k equations ≡ e ∷ drop (count - n) equations = drop-cons equations k _ (omega arith) ∙ ap (λ (i : ℕ). e ∷ drop i equations) next in
      let behind : length (drop (count - n) equations) ≡ n = length-drop (count - n) equations ∙ omega arith in
      record {
        content = u.content ∙ rw (here, left, behind, next) (ap (with_equation n (first_pending k e)) s.content);
        stack = λ A o. u.stack A o ∙ rw (here, left, next) (ap₂ (λ (x : Equation) (l : List Equation). x ∷ l) (starts_at_lem whole A o k e) (s.stack A o));
      }

  pub starting_all : (t : Stack) → Starting equations before count count t → Started equations before count t
  starting_all t s =
      let none : count - count ≡ 0 = omega arith in
      record { content = rw none at s.content; stack = λ A h. rw none at (s.stack A h) }
