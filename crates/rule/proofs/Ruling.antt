-- The laws of the rule that fits: what the code tells by two forms is the definition's step.
use Prim.Native.Nat.{ℕ, ◌<◌}
use mathlib.Core.Path.{◌≡◌, refl, sym, ◌∙◌, ap, subst, subst₂}
use mathlib.Core.Logic.{◌≢◌, inl, inr}
use mathlib.Core.Bool.{Bool, true, false, not, cond}
use mathlib.Core.List.{List, [], ◌∷◌}
use lib.Dec.{T, eqb}
use mir.Val.{has_key}
use borrow.Enum.Refused.{Among, opened}
use types.Run.{OneOf}
use denote.Enum.Declared.{tag_of}
use Rattle.names.specs.declared.NodeId.{NodeId}
use Rattle.names.specs.declared.Variable.{Variable}
use Rattle.permutation.specs.Swaps.{Swaps}
use Rattle.permutation.specs.Table.{Table, image, after, of_swaps}
use Rattle.problem.specs.Problem.{Node, Form as Shape, unit_form, atom_form, abstraction_form, pair_form, application_form, suspension_form}
use Rattle.problem.specs.Readable.{Named}
use Rattle.problem.specs.Look.{form_told, untold, Suspended, own_swaps}
use Rattle.problem.specs.contracts.Form.{the_type}
use Rattle.problem.proofs.Looking.{told_back}
use Rattle.problem.specs.declared.Form.{Form}
use Rattle.problem.specs.declared.Form.TheVariants.{Unit, Atom, Abstraction, Pair, Application, Suspension}
use Rattle.run.specs.Meaning.{Side, Binding}
use Rattle.run.specs.Run.{Ground, permuted, protection, Step, refuses, bound, one_variable, two_variables, abstractions, fitting, rule}
use Rattle.run.specs.Tops.{Tops, left_suspension, right_suspension, different_forms, tops}
use Rattle.run.proofs.Did.{occurs_side}
use Rattle.run.proofs.Tops.{
  kind as shape,
  View,
  of_suspensions,
  on_the_left,
  on_the_right,
  of_units,
  of_atoms,
  of_abstractions,
  of_pairs,
  of_applications,
  of_different,
  view,
}
use Rattle.side.specs.declared.Side.{Side as HeldSide}
use Rattle.side.specs.Side.{kind, Compound}
use Rattle.rule.specs.declared.Act.{Act}
use Rattle.rule.specs.declared.Act.TheVariants.{Done, Clash, Inside, Protection, Part, Parts, Renamed, Same, BindLeft, BindRight}
use Rattle.rule.specs.Rule.{
  step_of,
  Compounds,
  both_units,
  both_atoms,
  both_abstractions,
  both_pairs,
  both_applications,
  different,
  unless_inside,
  unless_protected,
  either_act,
  RuleFits,
  both_suspended,
  left_suspended,
  right_suspended,
  none_suspended,
  OccursTold,
  Decided,
}
use Rattle.side.proofs.Forms.{tag_kind, not_kind, compound}

-- ---- what the code's tests tell

-- A form whose tag is one of some, as an arm that takes the other forms knows it.
pub compound_among : (w : Form) → Among (0 ∷ 1 ∷ 2 ∷ 3 ∷ 4 ∷ []) (tag_of the_type w) → Compound w
compound_among w h = compound w (opened h)

-- The left form's tag is k, and the right one's is another.
pub clashing : (P Q : Table) (v w : Form) (k : ℕ) (others : List ℕ) → T (not (has_key others k)) → tag_of the_type v ≡ k → OneOf others (tag_of the_type w)
    → Compounds P Q v w Clash
clashing P Q v w k others n e h = different (λ q. not_kind others k n w h (sym q ∙ sym (tag_kind v) ∙ e))

-- The same where the right one's is known as an arm that takes the other forms knows it.
pub clashing_among : (P Q : Table) (v w : Form) (k : ℕ) (others : List ℕ) → T (not (has_key others k)) → tag_of the_type v ≡ k
    → Among others (tag_of the_type w) → Compounds P Q v w Clash
clashing_among P Q v w k others n e h = clashing P Q v w k others n e (opened h)

-- By which of the two sides is a suspension.
module _ (A : ℕ) (protected : ℕ → Bool) (bound : ℕ) (made : List (List ℕ)) (variables_of_nodes : List ℕ) (l r : HeldSide) (act : Act) where
  -- What the occurs check says of a variable and a node.
  abbrev Says : NodeId → Variable → Bool → Type 0
  Says n x o = OccursTold bound made variables_of_nodes n.0 x.0 o

  pub decided_both : (x y : Variable) → l.form ≡ Suspension x → r.form ≡ Suspension y
      → ((i j : Bool) → Says l.node y i → Says r.node x j → act ≡ either_act protected x y i j)
      → Decided A protected bound made variables_of_nodes l r act
  decided_both x y e f h occurring agrees free_left free_right =
      let i = agrees y.0 l.node l.images (rw f at free_right) (inl refl) in
      let j = agrees x.0 r.node r.images (rw e at free_left) (inr refl) in
      rw (e, f, h _ _ i j) both_suspended

  pub decided_left : (x : Variable) → l.form ≡ Suspension x → Compound r.form
      → ((j : Bool) → Says r.node x j → act ≡ unless_protected (protected x.0) j (BindLeft x))
      → Decided A protected bound made variables_of_nodes l r act
  decided_left x e k h occurring agrees free_left free_right =
      let j = agrees x.0 r.node r.images (rw e at free_left) (inr refl) in
      rw (e, h _ j) (left_suspended k)

  pub decided_right : (y : Variable) → Compound l.form → r.form ≡ Suspension y
      → ((i : Bool) → Says l.node y i → act ≡ unless_protected (protected y.0) i (BindRight y))
      → Decided A protected bound made variables_of_nodes l r act
  decided_right y k f h occurring agrees free_left free_right =
      let i = agrees y.0 l.node l.images (rw f at free_right) (inl refl) in
      rw (f, h _ i) (right_suspended k)

-- ---- an act of a suspension is the definition's step

step_cond : (P Q : Table) (s t : Side) (b : Bool) (x y : Act) → step_of P Q s t (cond b x y) ≡ cond b (step_of P Q s t x) (step_of P Q s t y)
step_cond P Q s t true x y = refl
step_cond P Q s t false x y = refl

module _ (g : Ground) (bs : List Binding) (s t : Side) (P Q : Table) where
  bound_left : (x : Variable) → step_of P Q s t (unless_inside (occurs_side g bs x.0 t) (BindLeft x)) ≡ bound g bs P x.0 t
  unfolding bound
  bound_left x = step_cond P Q s t (occurs_side g bs x.0 t) Inside (BindLeft x)

  one_left : (x : Variable) → step_of P Q s t (unless_protected (g.protected x.0) (occurs_side g bs x.0 t) (BindLeft x)) ≡ one_variable g bs P x.0 t
  unfolding one_variable
  one_left x =
      step_cond P Q s t (g.protected x.0) Protection (unless_inside (occurs_side g bs x.0 t) (BindLeft x))
      ∙ ap (λ (y : Step). cond (g.protected x.0) (refuses protection) y) (bound_left x)

  bound_right : (y : Variable) → step_of P Q s t (unless_inside (occurs_side g bs y.0 s) (BindRight y)) ≡ bound g bs Q y.0 s
  unfolding bound
  bound_right y = step_cond P Q s t (occurs_side g bs y.0 s) Inside (BindRight y)

  one_right : (y : Variable) → step_of P Q s t (unless_protected (g.protected y.0) (occurs_side g bs y.0 s) (BindRight y)) ≡ one_variable g bs Q y.0 s
  unfolding one_variable
  one_right y =
      step_cond P Q s t (g.protected y.0) Protection (unless_inside (occurs_side g bs y.0 s) (BindRight y))
      ∙ ap (λ (z : Step). cond (g.protected y.0) (refuses protection) z) (bound_right y)

  two_either : (x y : Variable)
      → step_of P Q s t (either_act g.protected x y (occurs_side g bs y.0 s) (occurs_side g bs x.0 t)) ≡ two_variables g bs P x.0 s Q y.0 t
  unfolding two_variables
  two_either x y =
      let unprotected : Act = unless_inside (occurs_side g bs x.0 t) (BindLeft x) in
      let other : Act = unless_protected (g.protected y.0) (occurs_side g bs y.0 s) (BindRight y) in
      step_cond P Q s t (eqb x.0 y.0) (Same x) (cond (g.protected x.0) other unprotected)
      ∙ ap (λ (z : Step). cond (eqb x.0 y.0) (step_of P Q s t (Same x)) z)
      (step_cond P Q s t (g.protected x.0) other unprotected ∙ rw (one_right y, bound_left x))

-- ---- the definition's tops, by their kinds

abbrev Top : Type 0
Top = Shape Table Side

-- A top is of its form's kind.
shape_kind : (A : ℕ) (P : Table) (π : Swaps) (w : Form) → shape (permuted A P (untold π w)) ≡ kind w
shape_kind A P π Unit = refl
shape_kind A P π (Atom a) = refl
shape_kind A P π (Abstraction a n) = refl
shape_kind A P π (Pair l r) = refl
shape_kind A P π (Application f n) = refl
shape_kind A P π (Suspension x) = refl

tops_left : (P : Table) (X : ℕ) (w : Top) → shape w ≢ 5 → left_suspension P X ≡ tops (suspension_form P X) w
tops_left P X unit_form h = refl
tops_left P X (atom_form b) h = refl
tops_left P X (abstraction_form b v) h = refl
tops_left P X (pair_form v w) h = refl
tops_left P X (application_form f v) h = refl
tops_left P X (suspension_form Q Y) h = absurd (h refl)

tops_right : (v : Top) (Q : Table) (Y : ℕ) → shape v ≢ 5 → right_suspension Q Y ≡ tops v (suspension_form Q Y)
tops_right unit_form Q Y h = refl
tops_right (atom_form a) Q Y h = refl
tops_right (abstraction_form a u) Q Y h = refl
tops_right (pair_form l r) Q Y h = refl
tops_right (application_form f u) Q Y h = refl
tops_right (suspension_form P X) Q Y h = absurd (h refl)

tops_different : {v w : Top} {x : Tops Table Side} → View v w x → shape v ≢ 5 → shape w ≢ 5 → shape v ≢ shape w → different_forms ≡ x
tops_different of_suspensions h k n = absurd (h refl)
tops_different (on_the_left a) h k n = absurd (h refl)
tops_different (on_the_right a) h k n = absurd (k refl)
tops_different of_units h k n = absurd (n refl)
tops_different of_atoms h k n = absurd (n refl)
tops_different of_abstractions h k n = absurd (n refl)
tops_different of_pairs h k n = absurd (n refl)
tops_different of_applications h k n = absurd (n refl)
tops_different (of_different a b c) h k n = refl

-- ---- the rule that fits is the definition's step

module _ (g : Ground) (bs : List Binding) (s t : Side) where
  abbrev pub wholes : Side → Node → Table
  wholes x v = after x.images (of_swaps g.atoms (own_swaps v))

  abbrev Ruled : Node → Node → Act → Type 0
  Ruled v w act =
      step_of (wholes s v) (wholes t w) s t act ≡ rule g bs s t (permuted g.atoms s.images v) (permuted g.atoms t.images w)

  module _ (π ρ : Swaps) where
    -- What the forms stand for in the definition.
    abbrev left_top : Form → Top
    left_top v = permuted g.atoms s.images (untold π v)

    abbrev right_top : Form → Top
    right_top w = permuted g.atoms t.images (untold ρ w)

    -- What they suspend their variables under, if they are suspensions.
    abbrev left_whole : Form → Table
    left_whole v = wholes s (untold π v)

    abbrev right_whole : Form → Table
    right_whole w = wholes t (untold ρ w)

    left_compound : (v : Form) → Compound v → shape (left_top v) ≢ 5
    left_compound v h e = h (sym (shape_kind g.atoms s.images π v) ∙ e)

    right_compound : (w : Form) → Compound w → shape (right_top w) ≢ 5
    right_compound w h e = h (sym (shape_kind g.atoms t.images ρ w) ∙ e)

    ruled_compounds : {v w : Form} {act : Act} → Compound v → Compound w → Compounds s.images t.images v w act → Ruled (untold π v) (untold ρ w) act
    unfolding abstractions
    ruled_compounds h k both_units = refl
    ruled_compounds h k (both_atoms {a} {b}) =
        step_cond (left_whole (Atom a)) (right_whole (Atom b)) s t (eqb (image s.images a.0) (image t.images b.0)) Done Clash
    ruled_compounds h k (both_abstractions {a} {b} {m} {n}) =
        let x = image s.images a.0 in
        let y = image t.images b.0 in
        step_cond (left_whole (Abstraction a m)) (right_whole (Abstraction b n)) s t (eqb x y) (Part m n) (Renamed (record { 0 = x }) m (record { 0 = y }) n)
    ruled_compounds h k both_pairs = refl
    ruled_compounds h k (both_applications {f} {h = i} {m} {n}) =
        step_cond (left_whole (Application f m)) (right_whole (Application i n)) s t (eqb f i) (Part m n) Clash
    ruled_compounds h k (different {v} {w} d) =
        ap (fitting g bs s t) (tops_different (view (left_top v) (right_top w)) (left_compound v h) (right_compound w k) λ e.
        d (sym (shape_kind g.atoms s.images π v) ∙ e ∙ shape_kind g.atoms t.images ρ w))

    ruled_forms : {v w : Form} {act : Act} → RuleFits g.protected (occurs_side g bs) s t v w act → Ruled (untold π v) (untold ρ w) act
    ruled_forms (both_suspended {x} {y}) = two_either g bs s t (left_whole (Suspension x)) (right_whole (Suspension y)) x y
    ruled_forms (left_suspended {x} {w} k) =
        let P = left_whole (Suspension x) in
        one_left g bs s t P (right_whole w) x ∙ ap (fitting g bs s t) (tops_left P x.0 (right_top w) (right_compound w k))
    ruled_forms (right_suspended {v} {y} h) =
        let Q = right_whole (Suspension y) in
        one_right g bs s t (left_whole v) Q y ∙ ap (fitting g bs s t) (tops_right (left_top v) Q y.0 (left_compound v h))
    ruled_forms (none_suspended h k c) = ruled_compounds h k c

  pub ruled : (v w : Node) (act : Act) → RuleFits g.protected (occurs_side g bs) s t (form_told v) (form_told w) act → Ruled v w act
  ruled v w act f = subst₂ (λ x y. Ruled x y act) (sym (told_back v refl)) (sym (told_back w refl)) (ruled_forms (own_swaps v) (own_swaps w) f)

-- ---- what an act names

-- A variable that is told is one that the side suspends, and it is there.
abbrev pub Names : ℕ → Node → Node → Act → Type 0
Names variables v w Done = Prim.Unit {0}
Names variables v w Clash = Prim.Unit {0}
Names variables v w Inside = Prim.Unit {0}
Names variables v w Protection = Prim.Unit {0}
Names variables v w (Part m k) = Prim.Unit {0}
Names variables v w (Parts l m k n) = Prim.Unit {0}
Names variables v w (Renamed a m b k) = Prim.Unit {0}
Names variables v w (Same x) = (x.0 < variables) × Suspended v × Suspended w
Names variables v w (BindLeft x) = Suspended v
Names variables v w (BindRight x) = Suspended w

module _ (variables : ℕ) (v w : Node) where
  names_cond : (b : Bool) (x y : Act) → Names variables v w x → Names variables v w y → Names variables v w (cond b x y)
  names_cond true x y f g = f
  names_cond false x y f g = g

  names_one : (p i : Bool) (act : Act) → Names variables v w act → Names variables v w (unless_protected p i act)
  names_one p i act f = names_cond p Protection (unless_inside i act) tt (names_cond i Inside act tt f)

  -- Parts have no variable.
  names_compounds : (P Q : Table) {x y : Form} {act : Act} → Compounds P Q x y act → Names variables v w act
  names_compounds P Q both_units = tt
  names_compounds P Q (both_atoms {a} {b}) = names_cond (eqb (image P a.0) (image Q b.0)) Done Clash tt tt
  names_compounds P Q (both_abstractions {a} {b} {m} {n}) =
      names_cond (eqb (image P a.0) (image Q b.0)) (Part m n) (Renamed (record { 0 = image P a.0 }) m (record { 0 = image Q b.0 }) n) tt tt
  names_compounds P Q both_pairs = tt
  names_compounds P Q (both_applications {f} {h} {m} {n}) = names_cond (eqb f h) (Part m n) Clash tt tt
  names_compounds P Q (different d) = tt

module _ {protected : ℕ → Bool} {occurring : ℕ → Side → Bool} {s t : Side} (atoms variables n : ℕ) where
  names_forms : (π ρ : Swaps) {v w : Form} {act : Act} → Named atoms variables n (untold π v) → RuleFits protected occurring s t v w act
      → Names variables (untold π v) (untold ρ w) act
  names_forms π ρ q (both_suspended {x} {y}) =
      let v : Node = suspension_form π x.0 in
      let w : Node = suspension_form ρ y.0 in
      let left : Act = unless_inside (occurring x.0 t) (BindLeft x) in
      let right : Act = unless_protected (protected y.0) (occurring y.0 s) (BindRight y) in
      names_cond variables v w (eqb x.0 y.0) (Same x) (cond (protected x.0) right left) (q.0, tt, tt)
      (names_cond variables v w (protected x.0) right left
      (names_one variables v w (protected y.0) (occurring y.0 s) (BindRight y) tt)
      (names_cond variables v w (occurring x.0 t) Inside (BindLeft x) tt tt))
  names_forms π ρ q (left_suspended {x} {w} k) =
      names_one variables (suspension_form π x.0) (untold ρ w) (protected x.0) (occurring x.0 t) (BindLeft x) tt
  names_forms π ρ q (right_suspended {v} {y} h) =
      names_one variables (untold π v) (suspension_form ρ y.0) (protected y.0) (occurring y.0 s) (BindRight y) tt
  names_forms π ρ q (none_suspended {v} {w} h k c) = names_compounds variables (untold π v) (untold ρ w) s.images t.images c

  pub names : (v w : Node) (act : Act) → Named atoms variables n v → RuleFits protected occurring s t (form_told v) (form_told w) act → Names variables v w act
  names v w act q f =
      subst₂ (λ x y. Names variables x y act) (sym (told_back v refl)) (sym (told_back w refl))
      (names_forms (own_swaps v) (own_swaps w) (subst (Named atoms variables n) (told_back v refl) q) f)
