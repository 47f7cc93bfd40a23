-- One step of the run is one transformation of figure 3: on the resolved sides with the meaning of the bindings put in, each case of document 01's
-- table is the rule of that name, and a refusing step stands where there is none.
use Prim.Native.Nat.{ℕ}
use native.Mathlib.Omega.{arith}
use mathlib.Core.Path.{◌≡◌, refl, sym, ◌∙◌, ap}
use mathlib.Core.Logic.{◌≢◌, ◌↔◌}
use mathlib.Core.Bool.{Bool, true, false, true≢false}
use mathlib.Core.List.{List, [], ◌∷◌, map, append-nil, Memᴰ}
use mathlib.Core.Option.{none}
use lib.ListN.{length}
use Rattle.names.proofs.Equal.{by_lt}
use Rattle.permutation.specs.Swaps.{Swaps, act, inverse, Disagree}
use Rattle.permutation.specs.Table.{Table, image, inverted, disagreement, swaps_of}
use Rattle.permutation.proofs.Table.{image_out, mem_disagreement}
use Rattle.nominal.specs.Tree.{Tree, suspension, variable, permute, Occurs, substitute}
use Rattle.nominal.specs.Form.{form}
use Rattle.nominal.specs.Solutions
use Rattle.nominal.proofs.Tree.{permute_nil, substitute_permute}
use Rattle.nominal.proofs.Steps.{form_substitute}
use Rattle.problem.specs.Problem.{Form, unit_form, atom_form, abstraction_form, pair_form, application_form, suspension_form, form_at}
use Rattle.problem.specs.Readable.{Named}
use Rattle.run.specs.Meaning.{Side, side_tree, Binding, meaning}
use Rattle.run.specs.Run.{Subject, of_variable, of_side, Ground, value_of, under, resolved, Refusal, clash, inside, protection, Step, refuses, goes_on, step}
use Rattle.run.specs.Answer.{subject_tree}
use Rattle.nominal.specs.Same.{Same}
use Rattle.run.proofs.Same.{same_reflexive, same_symmetric, same_transitive, same_permute, same_substitute, alike_inverse}
use Rattle.run.proofs.Trees.{Permuting, Fits, act_permuting, tree_under_inverted, tree_under_swap, under_swap, Shows, top_shows, TopFits, top_fits}
use Rattle.solutions.proofs.Step.{shows_form}
use Rattle.run.proofs.Tops.{kind}
use Rattle.run.proofs.Did.{NotOf, Did, step_did, two_units, same_atoms, same_abstractions, other_abstractions, two_pairs, same_symbols, from_one_variable}
use Rattle.run.proofs.Did.{left_bound, right_bound, left_inside, right_inside, left_protected, right_protected, both_protected, different_forms}
use Rattle.run.proofs.Did.{different_atoms, different_symbols}
use Rattle.run.proofs.Questions.{occurs_in_true, occurs_in_false}
use Rattle.run.proofs.Bindings.{Settled, Meant, resolved_same}
use Rattle.figure3.specs.Figure3.{ε, ◌:=◌, Equational, ≈?-unit, ≈?-pair, ≈?-function_symbol, ≈?-abstraction_1, ≈?-abstraction_2, ≈?-atom, ≈?-suspension}
use Rattle.figure3.specs.Figure3.{≈?-variable_right, ≈?-variable_left, Each, AlikeDemands, AlikeEquations}
use Rattle.figure3.specs.Ran.{Protected, Stuck}
use Rattle.figure3.proofs.Alike.{equations_reflexive}
use Rattle.figure3.proofs.Rules.{none_alike, none_forms, none_atoms, none_symbols, none_inside_left, none_inside_right, none_protected_left}
use Rattle.figure3.proofs.Rules.{none_protected_right, none_both_protected}

-- A side with the meaning of the bindings put in; so the equations and demands of a step.
abbrev pub meant_tree : Ground → List Binding → Side → Tree
meant_tree g bs s = substitute (meaning g.nodes bs) (side_tree g.nodes s)

abbrev pub meant_equations : Ground → List Binding → List (Side × Side) → List Solutions.TreeEquation
meant_equations g bs qs = map (λ q. (meant_tree g bs q.0, meant_tree g bs q.1)) qs

abbrev pub meant_demands : Ground → List Binding → List (ℕ × Subject) → List Solutions.TreeDemand
meant_demands g bs d = map (λ x. (x.0, substitute (meaning g.nodes bs) (subject_tree g.nodes x.1))) d

-- A step that goes on is a rule's: one with label ε, whose parts are the new equations and demands; or (≈?-variable), whose label is the binding.
pub data Simulates (g : Ground) (bs : List Binding) (s t : Tree) : List (Side × Side) → List (ℕ × Side) → List (ℕ × Subject) → Type 0 where
  simplifies : {E : List Solutions.TreeEquation} {D : List Solutions.TreeDemand} {qs : List (Side × Side)} {d : List (ℕ × Subject)}
      → Equational (Protected g) s t ε E D
      → Each AlikeEquations E (meant_equations g bs qs) → Each AlikeDemands D (meant_demands g bs d) → Simulates g bs s t qs [] d
  binds : {X : ℕ} {u : Tree} {v : Side} → Equational (Protected g) s t (X := u) [] [] → Same u (meant_tree g bs v) → Simulates g bs s t [] ((X, v) ∷ []) []

abbrev pub DoneAs : Ground → List Binding → Tree → Tree → Step → Type 0
DoneAs g bs s t (refuses r) = Stuck g r s t
DoneAs g bs s t (goes_on qs b d) = Simulates g bs s t qs b d

unprotected : (b : Bool) → b ≡ false → b ≡ true → ⊥
unprotected b e p = true≢false (sym p ∙ e)

-- Tables that disagree are lists of swaps that disagree.
disagreeing : (atoms : ℕ) (P Q : Table) (π ρ : Swaps) → Permuting atoms P → Permuting atoms Q → ((a : ℕ) → act π a ≡ image P a)
    → ((a : ℕ) → act ρ a ≡ image Q a)
    → (a : ℕ) → Memᴰ a (disagreement P Q) ↔ Disagree π ρ a
disagreeing atoms P Q π ρ p q h k a = (
  λ o e. ((mem_disagreement P Q a).0 o).1 (sym (h a) ∙ e ∙ k a),
  λ n. (mem_disagreement P Q a).1 (
    by_lt a (length P) (λ l. l) (λ l. absurd (n (h a ∙ image_out P a l ∙ sym (k a ∙ image_out Q a (let x = p.long in let y = q.long in omega arith))))),
    λ e. n (h a ∙ e ∙ sym (k a)),
  ),
)

module _ (g : Ground) (variables : ℕ) {bs : List Binding} (m : Meant g variables bs (meaning g.nodes bs)) where
  -- A suspension of an unbound variable stands for itself.
  meant_suspension : (s : Side) (ρ : Swaps) (X : ℕ) → side_tree g.nodes s ≡ suspension ρ X → value_of bs X ≡ none → meant_tree g bs s ≡ suspension ρ X
  meant_suspension s ρ X e f = rw (e, m.free X f, append-nil)

  -- Another form keeps its form.
  meant_form : (s : Side) (w : Form Table Side) → Shows g.nodes (side_tree g.nodes s) w → kind w ≢ 5 → form (meant_tree g bs s) ≡ kind w
  meant_form s w h n =
      let e : form (side_tree g.nodes s) ≡ kind w = shows_form g.nodes (side_tree g.nodes s) w h in
      form_substitute (meaning g.nodes bs) (side_tree g.nodes s) (λ q. n (sym e ∙ q)) ∙ e

  meant_other : (s : Side) (w : Form Table Side) → Shows g.nodes (side_tree g.nodes s) w → kind w ≢ 5 → form (meant_tree g bs s) ≢ 5
  meant_other s w h n e = n (sym (meant_form s w h n) ∙ e)

  -- A side that holds X and is no suspension of X is no suspension.
  holding : (X : ℕ) (s : Side) (w : Form Table Side) → Shows g.nodes (side_tree g.nodes s) w → Settled bs w → NotOf X w → Occurs X (meant_tree g bs s)
      → form (meant_tree g bs s) ≢ 5
  holding X s unit_form h a n o = meant_other s unit_form h (λ e. omega arith)
  holding X s (atom_form c) h a n o = meant_other s (atom_form c) h (λ e. omega arith)
  holding X s (abstraction_form c t) h a n o = meant_other s (abstraction_form c t) h (λ e. omega arith)
  holding X s (pair_form l r) h a n o = meant_other s (pair_form l r) h (λ e. omega arith)
  holding X s (application_form f t) h a n o = meant_other s (application_form f t) h (λ e. omega arith)
  holding X s (suspension_form Q Y) h a n o =
      let k : Occurs X (suspension h.0 Y) = rw (meant_suspension s h.0 Y h.1 (a Q Y refl)) at o in
      absurd (n Q (ap (suspension_form Q) (sym k)))

  -- The value of a variable under ρ, whose table is P.
  meant_value : (P : Table) (ρ : Swaps) (t : Side) → Permuting g.atoms P → Fits g.atoms g.nodes t → ((a : ℕ) → act ρ a ≡ image P a)
      → Same (permute (inverse ρ) (meant_tree g bs t)) (meant_tree g bs (under (inverted P) t))
  meant_value P ρ t p f h =
      same_transitive (same_permute (inverse ρ) (inverse (swaps_of P)) (alike_inverse ρ (swaps_of P) (λ a. h a ∙ sym (act_permuting p a))) (meant_tree g bs t))
      (same_symmetric (rw substitute_permute at (same_substitute (meaning g.nodes bs) (tree_under_inverted g.nodes p f))))

  demands_variable : (X : ℕ) → value_of bs X ≡ none → (ds : List ℕ)
      → Each AlikeDemands (map (λ a. (a, variable X)) ds) (meant_demands g bs (map (λ a. (a, of_variable X)) ds))
  demands_variable X f [] = tt
  demands_variable X f (a ∷ ds) = ((refl, rw (permute_nil, m.free X f) (same_reflexive (variable X))), demands_variable X f ds)

  did_as : (s t : Side) → Fits g.atoms g.nodes s → Fits g.atoms g.nodes t → {v w : Form Table Side} {x : Step} → Did g bs s t v w x
      → Shows g.nodes (side_tree g.nodes s) v → Shows g.nodes (side_tree g.nodes t) w
      → TopFits g.atoms variables g.nodes s.node v → TopFits g.atoms variables g.nodes t.node w → Settled bs v → Settled bs w
      → DoneAs g bs (meant_tree g bs s) (meant_tree g bs t) x
  did_as s t f h two_units p q i j a b = rw (p, q) (simplifies ≈?-unit tt tt)
  did_as s t f h same_atoms p q i j a b = rw (p, q) (simplifies ≈?-atom tt tt)
  did_as s t f h (same_abstractions {u = u} {v = v}) p q i j a b =
      rw (p, q) (simplifies ≈?-abstraction_1 (equations_reflexive (meant_equations g bs ((u, v) ∷ []))) tt)
  did_as s t f h (other_abstractions {a = c} {b = d} {u = u} {v = v} n) p q i j a b =
      rw (p, q) (simplifies {qs = (u, under_swap c d v) ∷ []} {d = (c, of_side v) ∷ []} (≈?-abstraction_2 n) (
        (
          same_reflexive (meant_tree g bs u),
          same_symmetric
              (rw substitute_permute at (same_substitute (meaning g.nodes bs) (tree_under_swap g.nodes c d i.0 j.0 j.1))),
        ),
        tt,
      )
      ((refl, same_reflexive (meant_tree g bs v)), tt))
  did_as s t f h (two_pairs {l = l} {r = r} {v = v} {w = w}) p q i j a b =
      rw (p, q) (simplifies ≈?-pair (equations_reflexive (meant_equations g bs ((l, v) ∷ (r, w) ∷ []))) tt)
  did_as s t f h (same_symbols {u = u} {v = v}) p q i j a b =
      rw (p, q) (simplifies ≈?-function_symbol (equations_reflexive (meant_equations g bs ((u, v) ∷ []))) tt)
  did_as s t f h (from_one_variable {P = P} {Q = Q} {X = X}) p q i j a b =
      rw (meant_suspension s p.0 X p.1 (a P X refl), meant_suspension t q.0 X q.1 (b Q X refl))
      (simplifies (≈?-suspension (disagreement P Q) (disagreeing g.atoms P Q p.0 q.0 i.0 j.0 p.2 q.2)) tt
      (demands_variable X (a P X refl) (disagreement P Q)))
  did_as s t f h (left_bound {P = P} {X = X} n u o) p q i j a b =
      rw (meant_suspension s p.0 X p.1 (a P X refl))
      (binds (≈?-variable_left {t = meant_tree g bs t} {π = p.0} (unprotected (g.protected X) u) (occurs_in_false X (meant_tree g bs t) o))
      (meant_value P p.0 t i.0 h p.2))
  did_as s t f h (right_bound {Q = Q} {Y = Y} n k u o) p q i j a b =
      rw (meant_suspension t q.0 Y q.1 (b Q Y refl))
      (binds (≈?-variable_right {t = meant_tree g bs s} {π = q.0} (unprotected (g.protected Y) u) (occurs_in_false Y (meant_tree g bs s) o))
      (meant_value Q q.0 s j.0 f q.2))
  did_as s t f h (left_inside {P = P} {X = X} {w = w} n u o) p q i j a b =
      let k : Occurs X (meant_tree g bs t) = occurs_in_true X (meant_tree g bs t) o in
      rw (meant_suspension s p.0 X p.1 (a P X refl)) (none_inside_left (holding X t w q b n k) k)
  did_as s t f h (right_inside {v = v} {Q = Q} {Y = Y} n x u o) p q i j a b =
      let k : Occurs Y (meant_tree g bs s) = occurs_in_true Y (meant_tree g bs s) o in
      rw (meant_suspension t q.0 Y q.1 (b Q Y refl)) (none_inside_right (holding Y s v p a n k) k)
  did_as s t f h (left_protected {P = P} {X = X} {w = w} n u) p q i j a b =
      rw (meant_suspension s p.0 X p.1 (a P X refl)) (none_protected_left (meant_other t w q n) u)
  did_as s t f h (right_protected {v = v} {Q = Q} {Y = Y} n u) p q i j a b =
      rw (meant_suspension t q.0 Y q.1 (b Q Y refl)) (none_protected_right (meant_other s v p n) u)
  did_as s t f h (both_protected {P = P} {Q = Q} {X = X} {Y = Y} n u x) p q i j a b =
      rw (meant_suspension s p.0 X p.1 (a P X refl), meant_suspension t q.0 Y q.1 (b Q Y refl)) (none_both_protected n u x)
  did_as s t f h (different_forms {v = v} {w = w} n k l) p q i j a b =
      none_forms (meant_other s v p n) (meant_other t w q k) (λ e. l (sym (meant_form s v p n) ∙ e ∙ meant_form t w q k))
  did_as s t f h (different_atoms n) p q i j a b = rw (p, q) (none_atoms n)
  did_as s t f h (different_symbols n) p q i j a b = rw (p, q) (none_symbols n)

-- A step, before its sides are resolved: that is not counted, and changes nothing but for swaps.
pub record Stepped (g : Ground) (bs : List Binding) (l r : Side) (x : Step) : Type 0 where
  pub left : Tree
  pub right : Tree
  pub same_left : Same (meant_tree g bs l) left
  pub same_right : Same (meant_tree g bs r) right
  pub done_as : DoneAs g bs left right x

pub stuck_alike : (g : Ground) (r : Refusal) {s t s' t' : Tree} → Same s s' → Same t t' → Stuck g r s' t' → Stuck g r s t
stuck_alike g clash a b n = none_alike a b n
stuck_alike g inside a b n = none_alike a b n
stuck_alike g protection a b n = none_alike a b n

module _ (g : Ground) (variables : ℕ) (named : (n : ℕ) → Named g.atoms variables n (form_at g.nodes n)) {bs : List Binding}
    (m : Meant g variables bs (meaning g.nodes bs)) where
  pub step_as : (l r : Side) → Fits g.atoms g.nodes l → Fits g.atoms g.nodes r → Stepped g bs l r (step g bs l r)
  step_as l r f h =
      let s : Side = resolved g bs l in
      let t : Side = resolved g bs r in
      let (i, a) = resolved_same g variables named m l f in
      let (j, b) = resolved_same g variables named m r h in
      record {
        left = meant_tree g bs s;
        right = meant_tree g bs t;
        same_left = a;
        same_right = b;
        done_as = did_as g variables m s t i j (step_did g bs l r) (top_shows g variables named s i.images) (top_shows g variables named t j.images)
            (top_fits g variables named s i) (top_fits g variables named t j) (m.settles l) (m.settles r);
      }
