-- The two loops, turn by turn: nodes one after the other, and a field that is none.
use Prim.Native.Nat.{ℕ, ◌+◌, ◌≤◌, ◌<◌}
use native.Mathlib.Omega.{arith}
use native.Mathlib.Nat.{le_refl}
use mathlib.Core.Path.{◌≡◌, sym, ◌∙◌, ap, subst}
use mathlib.Core.List.{List}
use lib.ListN.{length, drop, length-drop}
use Rattle.std.specs.Prelude.{Option, Some, None, Err, IsSome}
use Rattle.numbers.specs.Numbers.{given_of}
use Rattle.numbers.specs.declared.Refusal.{Refusal}
use Rattle.names.proofs.Equal.{by_lt}
use Rattle.field.specs.Field.{Bytes}
use Rattle.field.specs.Word.{eight}
use Rattle.field.proofs.Standing.{bytes_drop}
use Rattle.problem.specs.declared.Counts.{Counts}
use Rattle.reader.specs.Tables.{ReaderTables, reader_tables}
use Rattle.reader.specs.Noting.{counted}
use Rattle.reader.specs.Told.{refused_by, FieldsRead}
use Rattle.reader.specs.Found.{sized_by, with_nodes, good_size, node_size, refusal_at, counted_in, NodeStepped, OtherStepped}
use Rattle.reader.specs.Onward.{Onward, NodesPassed}
use Rattle.reader.proofs.Stepping.{OtherFound, has_refusal, node_past, node_inside, other_inside, neither, node_found, other_found}
use Rattle.reader.proofs.Keeping.{none_some}
use Rattle.reader.proofs.Onward.{refused_here, again, carried}

-- ---- nodes

pub none_passed : (s : List ℕ) (o : ℕ) (c : Counts) (places variables : List ℕ) → o ≤ length s
    → NodesPassed s o c places variables o c.nodes places variables
none_passed s o c places variables h = record { forward = le_refl o; inside = h; onward = λ head start assumed w. w }

module _ {s : List ℕ} {from : ℕ} {c : Counts} {places₀ variables₀ : List ℕ} {o n : ℕ} {places variables : List ℕ}
    {r : Option ℕ} {places' variables' : List ℕ}
    (b : Bytes s) (w : NodesPassed s from c places₀ variables₀ o n places variables)
    (k : NodeStepped (drop o s) o (with_nodes c n) places variables r places' variables') where
  here : Bytes (drop o s)
  here = bytes_drop o s b

  -- The next field begins in the input, or where it ends.
  pub node_ends : {m : ℕ} → r ≡ Some m → (0 < m) × (o + m ≤ length s)
  node_ends e =
      let h = node_inside (sized_by (with_nodes c n)) (drop o s) here (sym (k places).the_size ∙ e) in (h.0, omega (arith, h.1, length-drop o s, w.inside))

  -- A node more.
  pub one_passed : {m : ℕ} → r ≡ Some m → NodesPassed s from c places₀ variables₀ (o + m) (n + 1) places' variables'
  one_passed {m} e =
      let f = node_found (sized_by (with_nodes c n)) (drop o s) here (sym (k places).the_size ∙ e) in
      record {
        forward = omega (arith, w.forward);
        inside = (node_ends e).1;
        onward = λ head start assumed h.
            let x = k assumed in
            carried (again (w.onward head start assumed h) b f.0 (x.goes m e) (x.row m e)) (ap (λ y. counted y (with_nodes c n)) f.1);
      }

  -- It is one of as many as there can be.
  pub node_few : {m : ℕ} → r ≡ Some m → n < 512
  node_few e =
      by_lt n 512
      (λ few. few)
      (λ many. absurd (none_some ((k places).the_size ∙ node_past (sized_by (with_nodes c n)) (drop o s) here many) e))

  -- No more nodes.
  pub same_passed : r ≡ None → NodesPassed s from c places₀ variables₀ o n places' variables'
  same_passed e =
      record {
        forward = w.forward;
        inside = w.inside;
        onward = λ head start assumed h.
            subst (Onward s head start o (with_nodes c n)) (sym ((k assumed).stays e)) (w.onward head start assumed h);
      }

  pub no_node_here : r ≡ None → node_size (sized_by (with_nodes c n)) (drop o s) ≡ None
  no_node_here e = sym (k places).the_size ∙ e

-- ---- a field that is none

module _ {s : List ℕ} {head : Counts} {start : ReaderTables} {o : ℕ} {c : Counts} {places assumed variables : List ℕ}
    {r : Option ℕ} {places' assumed' : List ℕ}
    (b : Bytes s) (w : Onward s head start o c (reader_tables places assumed variables))
    (k : OtherStepped (drop o s) o c places assumed r places' assumed') where
  from_here : Bytes (drop o s)
  from_here = bytes_drop o s b

  pub other_ends : {m : ℕ} → r ≡ Some m → (0 < m) × (o + m ≤ length s)
  other_ends e =
      let h = other_inside (sized_by c) (drop o s) from_here (sym (k variables).the_size ∙ e) in (h.0, omega (arith, h.1, length-drop o s, w.inside))

  -- It has no fault: it is counted, and the next field is looked at.
  pub is_other : {m : ℕ} → r ≡ Some m → OtherFound (sized_by c) (drop o s) c m
  is_other e = other_found (sized_by c) (drop o s) from_here c (sym (k variables).the_size ∙ e)

  pub other_passed : {m : ℕ} → r ≡ Some m → Onward s head start (o + m) (counted_in (eight (drop o s)) c) (reader_tables places' assumed' variables)
  other_passed {m} e =
      let f = is_other e in
      let x = k variables in
      carried (again w b f.the_size (x.goes m e) (x.row m e)) (sym f.counted_so)

  -- It has one.
  at_fault : r ≡ None → node_size (sized_by c) (drop o s) ≡ None → good_size (sized_by c) (drop o s) ≡ None
  at_fault e z = neither (sized_by c) (drop o s) from_here z (sym (k variables).the_size ∙ e)

  pub is_refused : (f : Option Refusal) → r ≡ None → node_size (sized_by c) (drop o s) ≡ None
      → refused_by o f ≡ refusal_at (sized_by c) o (drop o s) → IsSome f
  is_refused f e z = has_refusal (sized_by c) o (drop o s) f (at_fault e z)

  pub other_refused : {f : Refusal} → r ≡ None → o < length s → node_size (sized_by c) (drop o s) ≡ None
      → given_of f ≡ refusal_at (sized_by c) o (drop o s) → FieldsRead s head start (Err f) (reader_tables places' assumed' variables)
  other_refused {f} e h z g =
      let x = k variables in
      subst (FieldsRead s head start (Err f)) (sym (x.stays e))
      (refused_here w h (at_fault e z) g)
