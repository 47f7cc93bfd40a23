-- Every problem that is read is within document 01's limits, and every name in it is there.
use Prim.Native.Nat.{ℕ, zero, suc, ◌+◌, ◌≤◌, ◌<◌, ◌^◌}
use native.Mathlib.Omega.{arith}
use native.Mathlib.Decide.{ℕ_discrete, dec_lt}
use mathlib.Core.Path.{◌≡◌, refl, sym, subst}
use mathlib.Core.Logic.{⊎_elim}
use mathlib.Core.Bool.{Bool, true, false, not, ◌&&◌, cond}
use mathlib.Core.List.Memᴰ
use mathlib.Core.List.{List, [], ◌∷◌, ◌++◌, Memᴰ}
use lib.ListN.{length, get_or, length-append, get_or-append, get_or-eq_default}
use lib.Seq.{get_or-append_seam}
use lib.Dec.{leb, ltb, eqb}
use borrow.Author.Tests.{ltb-true, leb-true}
use Rattle.permutation.specs.Swaps.{Swaps, Within}
use Rattle.field.specs.Field.{Field, cut, whole, front, byte, long, Bytes}
use Rattle.field.proofs.Standing.{stands, bytes_body}
use Rattle.problem.specs.Problem.{Node, unit_form, atom_form, abstraction_form, pair_form, application_form, suspension_form}
use Rattle.problem.specs.Problem.{Fresh, Assumed, Problem}
use Rattle.problem.specs.Reader.{Item, node, equation, freshness, assumption, protection, Reading, read, unreadable, length_fits, item, Sizes, sizes}
use Rattle.problem.specs.Reader.{room, there, swaps_there, form_there, add, fault, unless, one_field, fields_from}
use Rattle.problem.specs.Reader.{good_head, started, headed, head_field, read_all, reading}
use Rattle.problem.specs.Readable.{Named, Readable}

-- Both of two tests.
pub both : (a b : Bool) → a && b ≡ true → (a ≡ true) × (b ≡ true)
both true true e = (refl, refl)
both true false e = let z : ◌≡◌ {A = ℕ} 0 1 = cc in absurd (omega arith)
both false b e = let z : ◌≡◌ {A = ℕ} 0 1 = cc in absurd (omega arith)

-- Split on equality of two numbers, or on their order.
by_order : (a b : ℕ) {P : Type 0} → (a < b → P) → (a ≡ b → P) → (b < a → P) → P
by_order a b {P} f g h = go (dec_lt a b) (ℕ_discrete a b)
  where
    go : Dec (a < b) → Dec (a ≡ b) → P
    go (yes l) d = f l
    go (no m) (yes e) = g e
    go (no m) (no n) = h (omega arith)

-- Where one more element is set behind a list: it stands at the old length, and all before it stays.
pub at_end : {A : Type 0} (d : A) (l : List A) (x : A) (n : ℕ) → n ≡ length l → get_or (l ++ (x ∷ [])) n d ≡ x
at_end d l x n e = rw e (get_or-append_seam l x [] d)

behind : {A : Type 0} (d : A) (l : List A) (x : A) (n : ℕ) → length l < n → get_or (l ++ (x ∷ [])) n d ≡ d
behind d l x n h = get_or-eq_default (l ++ (x ∷ [])) d (omega (arith, length-append l (x ∷ [])))

pub one_more : {A : Type 0} (l : List A) (x : A) → length (l ++ (x ∷ [])) ≡ length l + 1
one_more l x = length-append l (x ∷ [])

swaps_within : (atoms : ℕ) (π : Swaps) → swaps_there atoms π ≡ true → Within atoms π
swaps_within atoms [] e = tt
swaps_within atoms (s ∷ π) e =
    let b = both (ltb s.0 atoms) (ltb s.1 atoms && swaps_there atoms π) e in
    let d = both (ltb s.1 atoms) (swaps_there atoms π) b.1 in
    ((ltb-true _ _ b.0, ltb-true _ _ d.0), swaps_within atoms π d.1)

form_named : (atoms variables nodes : ℕ) (f : Node) → form_there atoms variables nodes f ≡ true → Named atoms variables nodes f
form_named atoms variables nodes unit_form e = tt
form_named atoms variables nodes (atom_form a) e = ltb-true a atoms e
form_named atoms variables nodes (abstraction_form a n) e =
    let b = both (ltb a atoms) (ltb n nodes) e in (ltb-true _ _ b.0, ltb-true _ _ b.1)
form_named atoms variables nodes (pair_form l r) e = let b = both (ltb l nodes) (ltb r nodes) e in (ltb-true _ _ b.0, ltb-true _ _ b.1)
form_named atoms variables nodes (application_form f n) e = ltb-true n nodes e
form_named atoms variables nodes (suspension_form π X) e =
    let b = both (ltb X variables) (swaps_there atoms π) e in (ltb-true _ _ b.0, swaps_within atoms π b.1)

-- A property of every element, kept where one more that has it is set behind.
all_more : {A : Type 0} (P : A → Type 0) (l : List A) (x : A) → ((y : A) → Memᴰ y l → P y) → P x → (y : A) → Memᴰ y (l ++ (x ∷ [])) → P y
all_more P l x h k y m = ⊎_elim (h y) (λ n. subst P (sym (Memᴰ.eq_of_singleton n)) k) (Memᴰ.append_cases l m)

-- The item that a field says is added without harm.
pub kept : (p : Problem) (o : ℕ) (i : Item) → Readable p → room (sizes p) i ≡ true → there (sizes p) i ≡ true → Readable (add p o i)
unfolding sizes room there add
kept p o (node f) r e h =
    record {
      few_atoms = r.few_atoms;
      few_variables = r.few_variables;
      small_limit = r.small_limit;
      few_nodes = omega (arith, one_more p.nodes f, ltb-true (length p.nodes) 512 e);
      few_equations = r.few_equations;
      few_freshness = r.few_freshness;
      named_nodes = λ n.
          by_order n (length p.nodes)
          (λ l. rw (get_or-append p.nodes (f ∷ []) unit_form n l) (r.named_nodes n))
          (λ q. rw (at_end unit_form p.nodes f n q, q) (form_named _ _ _ f h))
          (λ g. rw (behind unit_form p.nodes f n g) tt);
      named_equations = λ d m. let n = r.named_equations d m in let o = one_more p.nodes f in (omega arith, omega arith);
      named_freshness = λ d m. let n = r.named_freshness d m in let o = one_more p.nodes f in (omega arith, omega arith);
      named_assumptions = r.named_assumptions;
      named_protected = r.named_protected;
    }
kept p o (equation d) r e h =
    let b = both (ltb d.left (length p.nodes)) (ltb d.right (length p.nodes)) h in
    record {
      few_atoms = r.few_atoms;
      few_variables = r.few_variables;
      small_limit = r.small_limit;
      few_nodes = r.few_nodes;
      few_equations = omega (arith, one_more p.equations d, ltb-true (length p.equations) 64 e);
      few_freshness = r.few_freshness;
      named_nodes = r.named_nodes;
      named_equations = all_more _ p.equations d r.named_equations (ltb-true _ _ b.0, ltb-true _ _ b.1);
      named_freshness = r.named_freshness;
      named_assumptions = r.named_assumptions;
      named_protected = r.named_protected;
    }
kept p o (freshness a n) r e h =
    let d : Fresh = record { atom = a; node = n; offset = o } in
    let b = both (ltb a p.atoms) (ltb n (length p.nodes)) h in
    record {
      few_atoms = r.few_atoms;
      few_variables = r.few_variables;
      small_limit = r.small_limit;
      few_nodes = r.few_nodes;
      few_equations = r.few_equations;
      few_freshness = omega (arith, one_more p.freshness d, ltb-true (length p.freshness) 64 e);
      named_nodes = r.named_nodes;
      named_equations = r.named_equations;
      named_freshness = all_more _ p.freshness d r.named_freshness (ltb-true _ _ b.0, ltb-true _ _ b.1);
      named_assumptions = r.named_assumptions;
      named_protected = r.named_protected;
    }
kept p o (assumption a X) r e h =
    let d : Assumed = record { atom = a; variable = X; offset = o } in
    let b = both (ltb a p.atoms) (ltb X p.variables) h in
    record {
      few_atoms = r.few_atoms;
      few_variables = r.few_variables;
      small_limit = r.small_limit;
      few_nodes = r.few_nodes;
      few_equations = r.few_equations;
      few_freshness = r.few_freshness;
      named_nodes = r.named_nodes;
      named_equations = r.named_equations;
      named_freshness = r.named_freshness;
      named_assumptions = all_more _ p.assumptions d r.named_assumptions (ltb-true _ _ b.0, ltb-true _ _ b.1);
      named_protected = r.named_protected;
    }
kept p o (protection X) r e h =
    record {
      few_atoms = r.few_atoms;
      few_variables = r.few_variables;
      small_limit = r.small_limit;
      few_nodes = r.few_nodes;
      few_equations = r.few_equations;
      few_freshness = r.few_freshness;
      named_nodes = r.named_nodes;
      named_equations = r.named_equations;
      named_freshness = r.named_freshness;
      named_assumptions = r.named_assumptions;
      named_protected = all_more _ p.protected X r.named_protected (ltb-true X p.variables h);
    }

-- A field without fault: its tag is known, its length fits, and there is room for what it says, whose names are there.
pub record Faultless (known : ℕ → Bool) (z : Sizes) (tag : ℕ) (s : List ℕ) : Type 0 where
  pub known_tag : known tag ≡ true
  pub right_length : length_fits tag (length s) ≡ true
  pub has_room : room z (item tag s) ≡ true
  pub all_there : there z (item tag s) ≡ true

-- "within a field the order is .. 4, 5, 6, 7": the number of the first of four tests that fails.
abbrev pub first_fault : (a b c d : Bool) → ℕ
first_fault a b c d = cond (not a) 4 (cond (not b) 5 (cond (not c) 6 (cond (not d) 7 0)))

four_tests : (a b c d : Bool) → first_fault a b c d ≡ 0 → (a ≡ true) × (b ≡ true) × (c ≡ true) × (d ≡ true)
four_tests true true true true e = (refl, refl, refl, refl)
four_tests true true true false e = absurd (omega arith)
four_tests true true false d e = absurd (omega arith)
four_tests true false true d e = absurd (omega arith)
four_tests true false false d e = absurd (omega arith)
four_tests false b c d e = absurd (omega arith)

pub faultless : (known : ℕ → Bool) (z : Sizes) (tag : ℕ) (s : List ℕ) → fault known z tag s ≡ 0 → Faultless known z tag s
unfolding fault
faultless known z tag s e =
    let f = four_tests (known tag) (length_fits tag (length s)) (room z (item tag s)) (there z (item tag s)) e in
    record { known_tag = f.0; right_length = f.1; has_room = f.2; all_there = f.3 }

without_fault : (f o : ℕ) (r : Reading) (p : Problem) → unless f o r ≡ read p → (f ≡ 0) × (r ≡ read p)
without_fault zero o r p e = (refl, e)
without_fault (suc f) o r p e = let z : ◌≡◌ {A = ℕ} 0 1 = cc in absurd (omega arith)

chosen : (b : Bool) (r : Reading) (n o : ℕ) (p : Problem) → cond b r (unreadable n o) ≡ read p → (b ≡ true) × (r ≡ read p)
chosen true r n o p e = (refl, e)
chosen false r n o p e = let z : ◌≡◌ {A = ℕ} 0 1 = cc in absurd (omega arith)

pub same_problem : {p q : Problem} → read p ≡ read q → p ≡ q
same_problem e = cc

pub not_read : (n o : ℕ) (p : Problem) → unreadable n o ≡ read p → ⊥
not_read n o p e = let z : ◌≡◌ {A = ℕ} 0 1 = cc in omega arith

one_kept : (known : ℕ → Bool) (p q : Problem) (o : ℕ) (onward : Problem → ℕ → List ℕ → Reading) (f : Field)
    → ((p : Problem) (o : ℕ) (s : List ℕ) → Readable p → onward p o s ≡ read q → Readable q)
    → Readable p → one_field known p o onward f ≡ read q → Readable q
one_kept known p q o onward cut go r e = let z : ◌≡◌ {A = ℕ} 0 1 = cc in absurd (omega arith)
one_kept known p q o onward (whole tag s rest) go r e =
    let u = without_fault (fault known (sizes p) tag s) o _ q e in
    let f = faultless known (sizes p) tag s u.0 in
    go (add p o (item tag s)) _ rest (kept p o (item tag s) r f.has_room f.all_there) u.1

fields_readable : (known : ℕ → Bool) (k : ℕ) (p q : Problem) (o : ℕ) (s : List ℕ) → Readable p → fields_from known k p o s ≡ read q → Readable q
unfolding fields_from
fields_readable known zero p q o s r e = subst Readable (same_problem e) r
fields_readable known (suc k) p q o [] r e = subst Readable (same_problem e) r
fields_readable known (suc k) p q o (b ∷ s) r e =
    one_kept known p q o (λ q i r. fields_from known k q i r) (front (b ∷ s)) (λ p o s. fields_readable known k p q o s) r e

-- The head: "atoms A (0 to 32), variables V (0 to 64), step limit L (4 bytes)".
small_long : (s : List ℕ) → Bytes s → long s 2 < 2 ^ 32
small_long s b = omega (arith, b 2, b 3, b 4, b 5)

pub headed_readable : (tag : ℕ) (s : List ℕ) → Bytes s → good_head tag s ≡ true → Readable (headed s)
unfolding good_head started headed
headed_readable tag s b e =
    let g = both (eqb tag 0x01) (eqb (length s) 6 && (leb (byte s 0) 32 && leb (byte s 1) 64)) e in
    let h = both (eqb (length s) 6) (leb (byte s 0) 32 && leb (byte s 1) 64) g.1 in
    let i = both (leb (byte s 0) 32) (leb (byte s 1) 64) h.1 in
    record {
      few_atoms = leb-true (byte s 0) 32 i.0;
      few_variables = leb-true (byte s 1) 64 i.1;
      small_limit = small_long s b;
      few_nodes = omega arith;
      few_equations = omega arith;
      few_freshness = omega arith;
      named_nodes = λ n. tt;
      named_equations = λ d m. absurd (Memᴰ.not-nil m);
      named_freshness = λ d m. absurd (Memᴰ.not-nil m);
      named_assumptions = λ d m. absurd (Memᴰ.not-nil m);
      named_protected = λ d m. absurd (Memᴰ.not-nil m);
    }

head_readable : (known : ℕ → Bool) (s : List ℕ) (f : Field) (p : Problem) → Bytes s → front s ≡ f → head_field known f ≡ read p → Readable p
unfolding head_field
head_readable known s cut p b w e = let z : ◌≡◌ {A = ℕ} 0 1 = cc in absurd (omega arith)
head_readable known s (whole tag body rest) p b w e =
    let g = chosen (good_head tag body) _ 2 0 p e in
    let h = headed_readable tag body (bytes_body s tag body rest b (stands s tag body rest w)) g.0 in
    fields_readable known (length rest) (headed body) p _ rest h g.1

all_readable : (known : ℕ → Bool) (s : List ℕ) (p : Problem) → Bytes s → read_all known s ≡ read p → Readable p
unfolding read_all
all_readable known [] p b e = let z : ◌≡◌ {A = ℕ} 0 1 = cc in absurd (omega arith)
all_readable known (a ∷ s) p b e = head_readable known (a ∷ s) (front (a ∷ s)) p b refl e

-- "At most 512 nodes, 64 equations and 64 freshness fields", "a node is named only after its field": every byte string that is a problem is a
-- readable one.
pub readable : (known : ℕ → Bool) (s : List ℕ) (p : Problem) → Bytes s → reading known s ≡ read p → Readable p
unfolding reading
readable known s p b e = all_readable known s p b (chosen (leb (length s) 65535) _ 1 0 p e).1

-- "The input has at most 65,535 bytes."
pub short_input : (known : ℕ → Bool) (s : List ℕ) (p : Problem) → reading known s ≡ read p → length s ≤ 65535
unfolding reading
short_input known s p e = leb-true (length s) 65535 (chosen (leb (length s) 65535) _ 1 0 p e).0
