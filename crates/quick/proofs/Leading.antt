-- The laws of where a node leads: a suspension without swaps, of a variable that is bound to a node as it is, resolves to that node under the same images.
use Prim.Native.Nat.{ℕ, ◌-◌}
use native.Mathlib.Omega.{arith}
use mathlib.Core.Path.{◌≡◌, ◌∙◌, ap}
use mathlib.Core.Logic.{◌≢◌}
use mathlib.Core.Bool.{Bool, true}
use mathlib.Core.List.{List, [], ◌∷◌}
use mathlib.Core.Option.{some}
use lib.ListN.{length}
use Rattle.std.specs.Prelude.{Some}
use Rattle.names.specs.declared.NodeId.{NodeId}
use Rattle.names.specs.declared.Variable.{Variable}
use Rattle.permutation.specs.Table.{Table, identity}
use Rattle.permutation.proofs.Table.{of_swaps_none}
use Rattle.sets.specs.Bits.{member}
use Rattle.problem.specs.Problem.{Node, unit_form, atom_form, abstraction_form, pair_form, application_form, suspension_form}
use Rattle.problem.specs.Held.{problem_of}
use Rattle.problem.specs.Look.{form_now, form_told, bare_of}
use Rattle.run.specs.Meaning.{Side, Binding}
use Rattle.run.specs.Run.{value_of, under, resolved_in, resolved}
use Rattle.bindings.specs.Bindings.{Bindings, binding_at, bindings_of, images_of, node_of, Keeps}
use Rattle.bindings.proofs.Laws.{value_of_set}
use Rattle.side.specs.Side.{ground_in, whole_of}
use Rattle.side.proofs.Resolving.{after_none, resolved_stop, resolved_on, unbound_told}
use Rattle.quick.specs.Met.{side_under, FreeAt, LeadsTo}

-- The form of which the code tells a variable.
pub bare_form : (v : Node) (X : Variable) → Some X ≡ bare_of v → v ≡ suspension_form [] X.0
bare_form unit_form X e = cc
bare_form (atom_form a) X e = cc
bare_form (abstraction_form a n) X e = cc
bare_form (pair_form l r) X e = cc
bare_form (application_form f n) X e = cc
bare_form (suspension_form [] X) Y e = cc
bare_form (suspension_form (p ∷ π) X) Y e = cc

valued_some : (bs : List Binding) (X : ℕ) (v : Side) → value_of bs X ≡ some v → length bs ≢ 0
valued_some [] X v e z = let y : ◌≡◌ {A = ℕ} 0 1 = cc in omega arith
valued_some (b ∷ bs) X v e z = omega arith

-- It leads no further.
pub leads_itself : {s : List ℕ} {t : Bindings} {bound : ℕ} {node : NodeId} → LeadsTo s t bound node node
unfolding resolved
leads_itself {s} {t} {bound} {node} =
    let A = (problem_of s).atoms in
    record {
      there = λ n h l. l;
      resolves = λ k keeps f P long free.
          resolved_stop s f (bindings_of A t k) (side_under P node) (length (bindings_of A t k))
          (unbound_told A t k bound keeps (form_told (form_now s node.0)) free);
    }

-- It leads to the value of the variable X.
module _ (s : List ℕ) (t : Bindings) (bound X : ℕ) (node r : NodeId) (form : form_now s node.0 ≡ suspension_form [] X)
    (is_bound : member bound X ≡ true)
    (plain : images_of (problem_of s).atoms t.values X ≡ identity (problem_of s).atoms) (value : r.0 ≡ node_of t.made X) where
  abbrev A : ℕ
  A = (problem_of s).atoms

  module _ (k : ℕ) (keeps : Keeps t.made k bound) (f : ℕ → Bool) (P : Table) (long : length P ≡ A) where
    abbrev bs : List Binding
    bs = bindings_of A t k

    abbrev found : Side
    found = record { images = identity A; node = r.0 }

    valued : value_of bs X ≡ some found
    unfolding binding_at
    valued = value_of_set A t k bound keeps X ∙ rw (is_bound, plain, value)

    images_stay : under (whole_of s A P node.0) found ≡ side_under P r
    unfolding whole_of
    images_stay = rw (form, after_none A P long, ← (of_swaps_none A), after_none A P long)

    resolves_on : FreeAt s bound r → resolved (ground_in s f) bs (side_under P node) ≡ side_under P r
    unfolding resolved
    resolves_on free =
        resolved_on s f bs (side_under P node) (length bs) found (valued_some bs X found valued) (rw form valued)
        ∙ ap (resolved_in (length bs - 1) (ground_in s f) bs) images_stay
        ∙ resolved_stop s f bs (side_under P r) (length bs - 1) (unbound_told A t k bound keeps (form_told (form_now s r.0)) free)

  pub leads_on : LeadsTo s t bound node r
  leads_on = record { there = λ n h l. rw value (h X is_bound); resolves = resolves_on }
