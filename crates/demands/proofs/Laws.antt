-- The laws of demands kept as sets: what a place of the tables says after one more mark, and that marking is raising one more demand.
use Prim.Native.Nat.{ℕ, zero, suc, ◌+◌, ◌^◌, ◌≤◌, ◌<◌}
use native.Mathlib.Omega.{arith}
use mathlib.Core.Path.{◌≡◌, refl, sym, ◌∙◌, ap}
use mathlib.Core.Logic.{◌≢◌}
use mathlib.Core.Bool.{Bool, true, false, ◌&&◌, or_comm, cond, true≢false}
use mathlib.Core.List.{List, [], ◌∷◌, ◌++◌, map, append_assoc, append-nil, Memᴰ}
use mathlib.Core.Option.{Option, none, some}
use lib.ListN.{length, get_or, set, drop, replicate, length-set, length-replicate}
use lib.ListN.{get_or-replicate, get_or-append}
use lib.Seq.{get_or-set_same, get_or-set_other, set-get_or, set-set}
use lib.Dec.{eqb}
use borrow.Author.Tests.{eq-eqb, ne_eqb}
use Rattle.permutation.specs.Table.{Table, image, inverted, place_from}
use Rattle.permutation.proofs.Table.{image_inverted_place}
use Rattle.names.proofs.Equal.{by_eq}
use Rattle.sets.specs.Bits.{member, union, difference, inserted, removed, lowest, members_from, members}
use Rattle.sets.proofs.Bits.{by_member, member_empty, member_inserted_same, member_inserted_other}
use Rattle.sets.proofs.Bits.{member_union, member_union_left, member_union_right, member_difference}
use Rattle.sets.proofs.Bits.{members_empty, members_lowest, in_members_member, member_within}
use Rattle.run.specs.Run.{Subject, of_variable, of_side, Demand, demands}
use Rattle.demands.specs.Demands.{Sheet, sheet, row_of, atoms_at, first_at, Line, line, line_at, with_line, RowThere, line_marked, line_marked_all}
use Rattle.demands.specs.Demands.{marked, marked_all, emptied, demands_cleared, is_of_node, is_of_variable, first_raised}
use Rattle.demands.specs.Demands.{PlaceTells, ToldAt, RowsTell, Raised, NodeRaised, SideRaised, VariableRaised}
use Rattle.demands.specs.Demands.{asked_of_node, asked_of_variable, with_set, SetThere, NodeAsked, VariableAsked}

-- ---- a row in hand and in the tables

module _ (column i : ℕ) (t : Sheet) where
  -- A row put back as it was changes nothing; of two put in the second stays; what is put in is there.
  line_back : with_line column i (line_at column i t) t ≡ t
  line_back = rw (set-get_or t.asked column [], set-get_or t.firsts (row_of column i) [])

  line_again : (l m : Line) → with_line column i m (with_line column i l t) ≡ with_line column i m t
  line_again l m =
      rw (
        set-set t.asked column l.sets m.sets,
        set-set t.firsts (row_of column i) l.numbers m.numbers,
      )

  line_there : RowThere column i t → (l : Line) → line_at column i (with_line column i l t) ≡ l
  line_there there l =
      rw (
        get_or-set_same t.asked column l.sets [] there.columns,
        get_or-set_same t.firsts (row_of column i) l.numbers [] there.rows,
      )

-- ---- one mark

-- A row with an atom marked that was not.
abbrev line_new : ℕ → ℕ → ℕ → Line → Line
line_new i k b l = line (set l.sets i (inserted 32 (get_or l.sets i 0) b)) (set l.numbers b k)

pub line_marked_again : (i k b : ℕ) (l : Line) → member (get_or l.sets i 0) b ≡ true → line_marked i k b l ≡ l
unfolding line_marked
line_marked_again i k b l m = rw m

pub line_marked_new : (i k b : ℕ) (l : Line) → member (get_or l.sets i 0) b ≡ false → line_marked i k b l ≡ line_new i k b l
unfolding line_marked
line_marked_new i k b l m = rw m

-- What holds of the tables where the atom is in the set already, and with it in the set where it was not, holds after the mark.
by_marked : (column i k b : ℕ) (t : Sheet) (P : Sheet → Type 0) → (member (atoms_at t column i) b ≡ true → P t)
    → (member (atoms_at t column i) b ≡ false → P (with_line column i (line_new i k b (line_at column i t)) t)) → P (marked column i k b t)
unfolding marked
by_marked column i k b t P again new =
    by_member (atoms_at t column i) b
    (λ m. rw (line_marked_again i k b (line_at column i t) m, line_back column i t) (again m))
    (λ m. rw (line_marked_new i k b (line_at column i t) m) (new m))

-- What a place says with one demand more: the earlier one counts.
abbrev later : Option ℕ → Bool → ℕ → Option ℕ
later none m k = cond m (some k) none
later (some e) m k = some e

later_not : (o : Option ℕ) (k : ℕ) → later o false k ≡ o
later_not none k = refl
later_not (some e) k = refl

told_marked : (o : Option ℕ) (k e : ℕ) → PlaceTells o true e → PlaceTells (later o true k) true e
told_marked none k e t = absurd (true≢false t)
told_marked (some d) k e t = t

told_new : (o : Option ℕ) (k e : ℕ) → PlaceTells o false e → PlaceTells (later o true k) true k
told_new none k e t = (refl, refl)
told_new (some d) k e t = absurd (true≢false (sym t.0))

module _ (column i k b : ℕ) (t : Sheet) (there : RowThere column i t) where
  -- The row and the tables with the atom marked, where it was not.
  abbrev new : Line
  new = line_new i k b (line_at column i t)

  abbrev after : Sheet
  after = with_line column i new t

  column_new : get_or after.asked column [] ≡ new.sets
  column_new = ap (λ (l : Line). l.sets) (line_there column i t there new)

  row_new : get_or after.firsts (row_of column i) [] ≡ new.numbers
  row_new = ap (λ (l : Line). l.numbers) (line_there column i t there new)

  -- The set and the atom's number.
  set_new : atoms_at after column i ≡ inserted 32 (atoms_at t column i) b
  set_new = rw column_new (get_or-set_same (get_or t.asked column []) i (inserted 32 (atoms_at t column i) b) 0 there.sets)

  number_new : b < 32 → first_at after column i b ≡ k
  number_new h = rw row_new (get_or-set_same (get_or t.firsts (row_of column i) []) b k 0 (omega (arith, there.numbers)))

  -- The other sets, and what else there is of numbers and atoms.
  set_other : (j : ℕ) → j ≢ i → atoms_at after column j ≡ atoms_at t column j
  set_other j n = rw column_new (get_or-set_other (get_or t.asked column []) i j (inserted 32 (atoms_at t column i) b) 0 n)

  number_other : (j c : ℕ) → ((j ≡ i) → c ≢ b) → first_at after column j c ≡ first_at t column j c
  number_other j c d =
      by_eq j i
      (λ p. rw (p, row_new) (get_or-set_other (get_or t.firsts (row_of column i) []) b c k 0 (d p)))
      (λ n. let apart : row_of column j ≢ row_of column i = λ p. n (omega arith) in
      ap (λ (l : List ℕ). get_or l c 0) (get_or-set_other t.firsts (row_of column i) (row_of column j) new.numbers [] apart))

  member_other : (j c : ℕ) → ((j ≡ i) → c ≢ b) → member (atoms_at after column j) c ≡ member (atoms_at t column j) c
  member_other j c d =
      by_eq j i
      (λ p. rw (p, set_new) (member_inserted_other 32 (atoms_at t column i) b c (d p)))
      (λ n. rw (set_other j n))

  -- The row is there still.
  there_marked : RowThere column i (marked column i k b t)
  there_marked =
      by_marked column i k b t (RowThere column i) (λ m. there)
      (λ m. record {
        columns = rw (length-set t.asked column new.sets) there.columns;
        sets = rw (column_new, length-set (get_or t.asked column []) i (inserted 32 (atoms_at t column i) b)) there.sets;
        rows = rw (length-set t.firsts (row_of column i) new.numbers) there.rows;
        numbers = rw (row_new, length-set (get_or t.firsts (row_of column i) []) b k) there.numbers;
      })

  -- Another place of the column says what it said.
  marked_other : (j c : ℕ) → ((j ≡ i) → c ≢ b) → (o : Option ℕ) → ToldAt o column j c t → ToldAt o column j c (marked column i k b t)
  marked_other j c d o h =
      by_marked column i k b t (ToldAt o column j c) (λ m. h) (λ m. rw (member_other j c d, number_other j c d) h)

  -- The marked place says the equation, unless an earlier one asked.
  marked_same : b < 32 → (o : Option ℕ) → ToldAt o column i b t → ToldAt (later o true k) column i b (marked column i k b t)
  marked_same l o h =
      by_marked column i k b t (ToldAt (later o true k) column i b)
      (λ m. rw m (told_marked o k (first_at t column i b) (rw m at h)))
      (λ m.
      rw (set_new, member_inserted_same 32 (atoms_at t column i) b l, number_new l)
      (told_new o k (first_at t column i b) (rw m at h)))

  tells_marked : (f : ℕ → ℕ → Option ℕ) (rows : ℕ) → b < 32 → RowsTell f rows column t
      → RowsTell (λ j c. later (f j c) (eqb j i && eqb c b) k) rows column (marked column i k b t)
  tells_marked f rows l h j c x y =
      by_eq j i
      (λ p. by_eq c b
      (λ q. rw (p, q, eq-eqb i i refl, eq-eqb b b refl) (marked_same l (f i b) (rw (p, q) at (h j c x y))))
      (λ n. rw (eq-eqb j i p, ne_eqb c b n, later_not (f j c) k) (marked_other j c (λ e. n) (f j c) (h j c x y))))
      (λ n. rw (ne_eqb j i n, later_not (f j c) k) (marked_other j c (λ e. absurd (n e)) (f j c) (h j c x y)))

-- The other column says what it said, where its rows are others.
tells_other : (column i k b : ℕ) (t : Sheet) (f : ℕ → ℕ → Option ℕ) (rows other : ℕ) → other ≢ column
    → ((j : ℕ) → j < rows → row_of other j ≢ row_of column i) → RowsTell f rows other t → RowsTell f rows other (marked column i k b t)
tells_other column i k b t f rows other d apart h j c x y =
    let new = line_new i k b (line_at column i t) in
    by_marked column i k b t (ToldAt (f j c) other j c) (λ m. h j c x y)
    (λ m.
    rw (
      get_or-set_other t.asked column other new.sets [] d,
      get_or-set_other t.firsts (row_of column i) (row_of other j) new.numbers [] (apart j x),
    ) (h j c x y))

-- ---- the demands in the order raised

first_append : (f : ℕ → Subject → Bool) (ds : List Demand) (d : Demand)
    → first_raised f (ds ++ (d ∷ [])) ≡ later (first_raised f ds) (f d.atom d.subject) d.equation
first_append f [] d = refl
first_append f (e ∷ ds) d = go (first_append f ds d) (f e.atom e.subject)
  where
    asks : Option ℕ → Option ℕ
    asks o = later o (f d.atom d.subject) d.equation

    go : first_raised f (ds ++ (d ∷ [])) ≡ asks (first_raised f ds) → (m : Bool)
        → cond m (some e.equation) (first_raised f (ds ++ (d ∷ []))) ≡ asks (cond m (some e.equation) (first_raised f ds))
    go r true = refl
    go r false = r

tells_same : (f g : ℕ → ℕ → Option ℕ) (rows column : ℕ) (t : Sheet) → ((i b : ℕ) → f i b ≡ g i b) → RowsTell f rows column t → RowsTell g rows column t
tells_same f g rows column t e h i b x y = rw (e i b) at (h i b x y)

abbrev side_demand : ℕ → ℕ → Table → ℕ → Demand
side_demand k a P n = record { equation = k; atom = a; subject = of_side (record { images = P; node = n }) }

abbrev variable_demand : ℕ → ℕ → ℕ → Demand
variable_demand k a X = record { equation = k; atom = a; subject = of_variable X }

-- To mark an atom is to raise one more demand: its own column has it, and the other stays.
module _ (nodes variables : ℕ) (ds : List Demand) (t : Sheet) (r : Raised nodes variables ds t) where
  raised_side : (a : ℕ) (P : Table) (n k : ℕ) → RowThere 0 n t → image (inverted P) a < 32 → n < 512
      → Raised nodes variables (ds ++ (side_demand k a P n ∷ [])) (marked 0 n k (image (inverted P) a) t)
  raised_side a P n k there small h =
      let b = image (inverted P) a in
      let d = side_demand k a P n in
      let after = marked 0 n k b t in
      record {
        nodes_told =
            tells_same (λ j c. later (first_raised (is_of_node j c) ds) (eqb j n && eqb c b) k) (λ j c. first_raised (is_of_node j c) (ds ++ (d ∷ [])))
            nodes 0 after
            (λ j c. sym (first_append (is_of_node j c) ds d))
            (tells_marked 0 n k b t there (λ j c. first_raised (is_of_node j c) ds) nodes small r.nodes_told);
        variables_told =
            tells_same (λ j c. first_raised (is_of_variable j c) ds) (λ j c. first_raised (is_of_variable j c) (ds ++ (d ∷ []))) variables 1 after
            (λ j c. sym (first_append (is_of_variable j c) ds d ∙ later_not (first_raised (is_of_variable j c) ds) k))
            (tells_other 0 n k b t (λ j c. first_raised (is_of_variable j c) ds) variables 1 (λ e. omega arith) (λ j x e. omega arith) r.variables_told);
      }

  raised_variable : (a X k : ℕ) → RowThere 1 X t → a < 32 → nodes ≤ 512
      → Raised nodes variables (ds ++ (variable_demand k a X ∷ [])) (marked 1 X k a t)
  raised_variable a X k there small h =
      let d = variable_demand k a X in
      let after = marked 1 X k a t in
      record {
        nodes_told =
            tells_same (λ j c. first_raised (is_of_node j c) ds) (λ j c. first_raised (is_of_node j c) (ds ++ (d ∷ []))) nodes 0 after
            (λ j c. sym (first_append (is_of_node j c) ds d ∙ later_not (first_raised (is_of_node j c) ds) k))
            (tells_other 1 X k a t (λ j c. first_raised (is_of_node j c) ds) nodes 0 (λ e. omega arith) (λ j x e. omega arith) r.nodes_told);
        variables_told =
            tells_same (λ j c. later (first_raised (is_of_variable j c) ds) (eqb j X && eqb c a) k) (λ j c. first_raised (is_of_variable j c) (ds ++ (d ∷ [])))
            variables 1 after
            (λ j c. sym (first_append (is_of_variable j c) ds d))
            (tells_marked 1 X k a t there (λ j c. first_raised (is_of_variable j c) ds) variables small r.variables_told);
      }

-- Marking the atoms of a list is marking them one after another in the tables.
marked_all_none : (column i k : ℕ) (t : Sheet) → marked_all column i k [] t ≡ t
unfolding marked_all line_marked_all
marked_all_none column i k t = line_back column i t

marked_all_more : (column i k b : ℕ) (l : List ℕ) (t : Sheet) → RowThere column i t
    → marked_all column i k (b ∷ l) t ≡ marked_all column i k l (marked column i k b t)
unfolding marked_all marked line_marked_all
marked_all_more column i k b l t there =
    let m = line_marked i k b (line_at column i t) in
    rw (line_there column i t there m, line_again column i t m (line_marked_all i k l m))

raised_variables : (nodes variables : ℕ) (ds : List Demand) (t : Sheet) (X k : ℕ) (l : List ℕ) → ((a : ℕ) → Memᴰ a l → a < 32)
    → RowThere 1 X t → nodes ≤ 512 → Raised nodes variables ds t
    → Raised nodes variables (ds ++ demands k (map (λ a. (a, of_variable X)) l)) (marked_all 1 X k l t)
raised_variables nodes variables ds t X k [] small there h r = rw (append-nil ds, marked_all_none 1 X k t) r
raised_variables nodes variables ds t X k (a ∷ l) small there h r =
    let d = variable_demand k a X in
    let one = raised_variable nodes variables ds t r a X k there (small a (Memᴰ.head refl)) h in
    rw (marked_all_more 1 X k a l t there)
    (rw (append_assoc ds (d ∷ []) (demands k (map (λ b. (b, of_variable X)) l))) at
    (raised_variables nodes variables (ds ++ (d ∷ [])) (marked 1 X k a t) X k l (λ b m. small b (Memᴰ.tail m))
    (there_marked 1 X k a t there) h one))

-- ---- at the start

emptied_at : (n i : ℕ) (l : List ℕ) → i < n → get_or (emptied n l) i 0 ≡ 0
unfolding emptied
emptied_at n i l h = get_or-append (replicate n 0) (drop n l) 0 i (rw length-replicate h) ∙ get_or-replicate n i 0 0 h

-- A column put in, or no such column there: either way its first sets are empty.
column_emptied : (asked : List (List ℕ)) (column n : ℕ) (l : List ℕ) (i : ℕ) → i < n
    → get_or (get_or (set asked column (emptied n l)) column []) i 0 ≡ 0
column_emptied [] column n l i h = refl
column_emptied (sets ∷ asked) zero n l i h = emptied_at n i l h
column_emptied (sets ∷ asked) (suc column) n l i h = column_emptied asked column n l i h

-- Nothing is raised yet, whatever the tables held.
pub raised_none : (nodes variables : ℕ) (asked firsts : List (List ℕ)) → Raised nodes variables [] (sheet (demands_cleared nodes variables asked) firsts)
unfolding demands_cleared
raised_none nodes variables asked firsts =
    let first_raised = set asked 0 (emptied nodes (get_or asked 0 [])) in
    record {
      nodes_told = λ i b h k. rw (
        get_or-set_other first_raised 1 0 (emptied variables (get_or asked 1 [])) [] (λ e. omega arith),
        column_emptied asked 0 nodes (get_or asked 0 []) i h,
      ) (member_empty b);
      variables_told = λ i b h k. rw (column_emptied first_raised 1 variables (get_or asked 1 []) i h) (member_empty b);
    }

-- ---- the atom that the images send to another

place_from_lt : (i a : ℕ) (P : Table) → 0 < i + length P → place_from i a P < i + length P
place_from_lt i a [] h = h
place_from_lt i a (b ∷ P) h =
    by_eq a b (λ p. rw (eq-eqb a b p) (omega arith))
    (λ n. rw (ne_eqb a b n) (let m : place_from (suc i) a P < suc i + length P = place_from_lt (suc i) a P (omega arith) in omega arith))

-- An atom's place in a table is one of the table's.
pub inverted_lt : (P : Table) (a : ℕ) → a < length P → image (inverted P) a < length P
inverted_lt P a h = rw (image_inverted_place P a h) (let m : place_from 0 a P < 0 + length P = place_from_lt 0 a P (omega arith) in omega arith)

-- ---- what the functions that raise leave

pub node_raised : (b n k : ℕ) (t after : Sheet) → b < 32 → n < 512 → RowThere 0 n t → after ≡ marked 0 n k b t → NodeRaised b n k t after
node_raised b n k t after small h there e =
    record {
      content = e;
      raised = λ a P sent nodes variables ds r. rw (e, sent) (raised_side nodes variables ds t r a P n k there (rw sent at small) h);
    }

pub side_raised : {a : ℕ} {P : Table} {n k : ℕ} {t after : Sheet} → NodeRaised (image (inverted P) a) n k t after → SideRaised a P n k t after
side_raised {a} {P} r = record { content = r.content; raised = r.raised a P refl }

pub variable_raised : (w X k : ℕ) (t after : Sheet) → w < 2 ^ 32 → RowThere 1 X t → after ≡ marked_all 1 X k (members 32 w) t
    → VariableRaised w X k t after
variable_raised w X k t after h there e =
    record {
      content = e;
      raised = λ nodes variables ds x r.
          let small : (a : ℕ) → Memᴰ a (members 32 w) → a < 32 = λ a m. member_within 32 w a h (in_members_member 32 w a m) in
          rw e (raised_variables nodes variables ds t X k (members 32 w) small there x r);
    }

-- A row that has something is there; and so is the row of a node or a variable, once its lengths are seen.
place_there : (l : List (List ℕ)) (i : ℕ) → 0 < length (get_or l i []) → i < length l
place_there [] i h = absurd (omega arith)
place_there (a ∷ l) zero h = omega arith
place_there (a ∷ l) (suc i) h = let there = place_there l i h in omega arith

pub row_there : (column i : ℕ) (t : Sheet) → i < 512 → length (get_or t.asked column []) ≡ 512 → length (get_or t.firsts (row_of column i) []) ≡ 32
    → RowThere column i t
row_there column i t h s n =
    record { columns = place_there t.asked column (omega arith); sets = omega arith; rows = place_there t.firsts (row_of column i) (omega arith); numbers = n }

pub set_there : (column i : ℕ) (asked : List (List ℕ)) → i < 512 → length (get_or asked column []) ≡ 512 → SetThere column i asked
set_there column i asked h s = record { columns = place_there asked column (omega arith); sets = omega arith }

-- What was marked in a row in hand is marked in the tables, once the row is put back.
module _ (column i k : ℕ) where
  pub marked_row : (b : ℕ) (row : ℕ) (asked firsts : List (List ℕ)) (sets numbers : List ℕ) → row_of column i ≡ row
      → line sets numbers ≡ line_marked i k b (line (get_or asked column []) (get_or firsts row []))
      → sheet (set asked column sets) (set firsts row numbers) ≡ marked column i k b (sheet asked firsts)
  unfolding marked
  marked_row b row asked firsts sets numbers here e =
      rw here (ap (λ (l : Line). sheet (set asked column l.sets) (set firsts row l.numbers)) e)

  pub marked_all_row : (bs : List ℕ) (row : ℕ) (asked firsts : List (List ℕ)) (sets numbers : List ℕ) → row_of column i ≡ row
      → line sets numbers ≡ line_marked_all i k bs (line (get_or asked column []) (get_or firsts row []))
      → sheet (set asked column sets) (set firsts row numbers) ≡ marked_all column i k bs (sheet asked firsts)
  unfolding marked_all
  marked_all_row bs row asked firsts sets numbers here e =
      rw here (ap (λ (l : Line). sheet (set asked column l.sets) (set firsts row l.numbers)) e)

-- ---- what asking more leaves

-- A set put into a row is there, and the other rows of its column stay.
module _ (column i : ℕ) (asked : List (List ℕ)) (there : SetThere column i asked) (atoms : ℕ) where
  abbrev after_set : List ℕ
  after_set = get_or (with_set column i atoms asked) column []

  column_put : after_set ≡ set (get_or asked column []) i atoms
  column_put = get_or-set_same asked column (set (get_or asked column []) i atoms) [] there.columns

  set_here : get_or after_set i 0 ≡ atoms
  set_here = rw column_put (get_or-set_same (get_or asked column []) i atoms 0 there.sets)

  set_elsewhere : (j : ℕ) → j ≢ i → get_or after_set j 0 ≡ get_or (get_or asked column []) j 0
  set_elsewhere j other = rw column_put (get_or-set_other (get_or asked column []) i j atoms 0 other)

pub node_asked : (n a : ℕ) (before after : List (List ℕ)) → a < 32 → SetThere 0 n before
    → after ≡ with_set 0 n (inserted 32 (asked_of_node before n) a) before → NodeAsked n a before after
node_asked n a before after small there e =
    let atoms = asked_of_node before n in
    let more = inserted 32 atoms a in
    record {
      content = e;
      marks = λ m b.
          by_eq n m
          (λ p.
          rw (e, ← p, eq-eqb n n refl, set_here 0 n before there more)
          (by_eq a b
          (λ q. rw (← q, eq-eqb a a refl) (member_inserted_same 32 atoms a small))
          (λ q. rw (ne_eqb a b q) (member_inserted_other 32 atoms a b (λ s. q (sym s))))))
          (λ p. rw (e, ne_eqb n m p, set_elsewhere 0 n before there more m (λ s. p (sym s))));
      others = rw e (get_or-set_other before 0 1 (set (get_or before 0 []) n more) [] (λ s. omega arith));
    }

pub variable_asked : (X atoms : ℕ) (before after : List (List ℕ)) → SetThere 1 X before
    → after ≡ with_set 1 X (union (asked_of_variable before X) atoms) before → VariableAsked X atoms before after
variable_asked X atoms before after there e =
    let both = union (asked_of_variable before X) atoms in
    record {
      content = e;
      marks = λ Y b.
          by_eq X Y
          (λ p.
          rw (e, ← p, eq-eqb X X refl, set_here 1 X before there both)
          (member_union (asked_of_variable before X) atoms b ∙ or_comm (member (asked_of_variable before X) b) (member atoms b)))
          (λ p. rw (e, ne_eqb X Y p, set_elsewhere 1 X before there both Y (λ s. p (sym s))));
      others = rw e (get_or-set_other before 1 0 (set (get_or before 1 []) X both) [] (λ s. omega arith));
    }

-- ---- the loop over the atoms of a set

pub line_marked_none : (i k : ℕ) (l : Line) → line_marked_all i k (members 32 0) l ≡ l
unfolding line_marked_all
line_marked_none i k l = rw (members_empty 32)

pub line_marked_lowest : (i k w : ℕ) (l : Line) → 0 < w → w < 2 ^ 32
    → line_marked_all i k (members 32 w) l ≡ line_marked_all i k (members 32 (removed w (lowest 32 w))) (line_marked i k (lowest 32 w) l)
unfolding line_marked_all
line_marked_lowest i k w l p h = rw (members_lowest 32 w p h)

-- The set in row i has every atom of the set v.
record Has (i v : ℕ) (l : Line) : Type 0 where
  there : i < length l.sets
  has : (b : ℕ) → member v b ≡ true → member (get_or l.sets i 0) b ≡ true

has_marked : (i k b v : ℕ) (l : Line) → Has i v l → Has i v (line_marked i k b l)
has_marked i k b v l h =
    let atoms = get_or l.sets i 0 in
    let more = inserted 32 atoms b in
    by_member atoms b
    (λ m. rw (line_marked_again i k b l m) h)
    (λ m. rw (line_marked_new i k b l m)
    (record {
      there = rw (length-set l.sets i more) h.there;
      has = λ a x.
          let apart : a ≢ b = λ q. true≢false (sym (h.has a x) ∙ ap (λ (c : ℕ). member atoms c) q ∙ m) in
          rw (get_or-set_same l.sets i more 0 h.there, member_inserted_other 32 atoms b a apart) (h.has a x);
    }))

-- Atoms that are there already change nothing: so they may be left out, which is what the code does.
marked_without : (i k w v j n : ℕ) (l : Line) → Has i v l
    → line_marked_all i k (members_from j n (difference w v)) l ≡ line_marked_all i k (members_from j n w) l
unfolding line_marked_all
marked_without i k w v j zero l h = refl
marked_without i k w v j (suc n) l h =
    by_member w j
    (λ m. by_member v j
    (λ x. rw (member_difference w v j, m, x)
    (marked_without i k w v (suc j) n l h ∙ ap (line_marked_all i k (members_from (suc j) n w)) (sym (line_marked_again i k j l (h.has j x)))))
    (λ x. rw (member_difference w v j, m, x) (marked_without i k w v (suc j) n (line_marked i k j l) (has_marked i k j v l h))))
    (λ m. rw (member_difference w v j, m) (marked_without i k w v (suc j) n l h))

pub line_marked_rest : (i k w : ℕ) (l : Line) → i < length l.sets
    → line_marked_all i k (members 32 (difference w (get_or l.sets i 0))) l ≡ line_marked_all i k (members 32 w) l
unfolding members
line_marked_rest i k w l there = marked_without i k w (get_or l.sets i 0) 0 32 l (record { there = there; has = λ b m. m })

-- ---- the first sets joined

-- All atoms of the first i sets are in one.
pub record Joined (sets : List ℕ) (i all : ℕ) : Type 0 where
  pub has : (k : ℕ) → k < i → (a : ℕ) → member (get_or sets k 0) a ≡ true → member all a ≡ true

pub joined_start : {sets : List ℕ} {all : ℕ} → Joined sets 0 all
joined_start = record { has = λ k l. absurd (omega arith) }

pub joined_more : {sets : List ℕ} {i all : ℕ} → Joined sets i all → Joined sets (i + 1) (union all (get_or sets i 0))
joined_more {sets} {i} {all} j = record {
  has = λ k l a m.
      by_eq k i
      (λ q. member_union_right all (get_or sets i 0) a (rw q at m))
      (λ d. member_union_left all (get_or sets i 0) a (j.has k (omega arith) a m));
}

pub joined_empty : {sets : List ℕ} {i all : ℕ} → Joined sets i all → all ≡ 0 → (k : ℕ) → k < i → (a : ℕ) → member (get_or sets k 0) a ≡ false
joined_empty {sets} {i} {all} j e k l a =
    by_member (get_or sets k 0) a
    (λ m. absurd (true≢false (sym (j.has k l a m) ∙ ap (λ (w : ℕ). member w a) e ∙ member_empty a)))
    (λ m. m)
