-- What nodes weigh: the size of a node's tree where each variable weighs as given. A weighing that respects the bindings falls strictly along parts
-- and stays along bindings; it goes on respecting fewer bindings, so what is lower stays lower when bindings are added.
use Prim.Native.Nat.{ℕ, zero, suc, ◌+◌, ◌<◌}
use native.Mathlib.Omega.{arith}
use mathlib.Core.Path.{◌≡◌, refl, sym, ◌∙◌, ap}
use mathlib.Core.Option.{Option, none, some}
use mathlib.Core.List.{List}
use lib.ListN.{length, get_or-eq_default}
use Rattle.names.proofs.Equal.{by_lt}
use Rattle.permutation.specs.Swaps.{Swaps}
use Rattle.permutation.specs.Table.{Table}
use Rattle.nominal.specs.Tree.{Tree, unit, atom, abstraction, pair, application, suspension, permute, Substitution, substitute}
use Rattle.problem.specs.Problem.{Form, unit_form, atom_form, abstraction_form, pair_form, application_form, suspension_form, Node, form_at}
use Rattle.problem.specs.Readable.{Named}
use Rattle.run.specs.Meaning.{tree, Side, side_tree, Binding}
use Rattle.run.specs.Run.{Ground, permuted, top, value_of, under, replacement, replaced, resolved_in, resolved}
use Rattle.run.proofs.Trees.{built, tree_built}

abbrev pub weigh : (ℕ → ℕ) → Tree → ℕ
weigh w unit = 1
weigh w (atom a) = 1
weigh w (abstraction a t) = suc (weigh w t)
weigh w (pair s t) = suc (weigh w s + weigh w t)
weigh w (application f t) = suc (weigh w t)
weigh w (suspension π X) = w X

pub weigh_permute : (w : ℕ → ℕ) (π : Swaps) (t : Tree) → weigh w (permute π t) ≡ weigh w t
weigh_permute w π unit = refl
weigh_permute w π (atom a) = refl
weigh_permute w π (abstraction a t) = ap suc (weigh_permute w π t)
weigh_permute w π (pair s t) = cc (weigh_permute w π s, weigh_permute w π t)
weigh_permute w π (application f t) = ap suc (weigh_permute w π t)
weigh_permute w π (suspension ρ X) = refl

pub weigh_substitute : (w : ℕ → ℕ) (σ : Substitution) (t : Tree) → weigh w (substitute σ t) ≡ weigh (λ X. weigh w (σ X)) t
weigh_substitute w σ unit = refl
weigh_substitute w σ (atom a) = refl
weigh_substitute w σ (abstraction a t) = ap suc (weigh_substitute w σ t)
weigh_substitute w σ (pair s t) = cc (weigh_substitute w σ s, weigh_substitute w σ t)
weigh_substitute w σ (application f t) = ap suc (weigh_substitute w σ t)
weigh_substitute w σ (suspension π X) = weigh_permute w π (σ X)

-- What a node weighs. It is all that matters of a side.
abbrev pub weight : List Node → (ℕ → ℕ) → ℕ → ℕ
weight nodes w n = weigh w (tree nodes n)

pub weigh_side : (nodes : List Node) (w : ℕ → ℕ) (s : Side) → weigh w (side_tree nodes s) ≡ weight nodes w s.node
unfolding side_tree
weigh_side nodes w s = weigh_permute w _ (tree nodes s.node)

-- A bound variable weighs what its value weighs.
abbrev pub Respects : List Node → List Binding → (ℕ → ℕ) → Type 0
Respects nodes bs w = (X : ℕ) (v : Side) → value_of bs X ≡ some v → w X ≡ weight nodes w v.node

-- A node is lower than another: whatever the variables weigh, if only the bindings are respected.
abbrev pub Lower : List Node → List Binding → ℕ → ℕ → Type 0
Lower nodes bs m n = (w : ℕ → ℕ) → Respects nodes bs w → weight nodes w m < weight nodes w n

-- What stands on top of a node: its parts are lighter, a variable is as heavy; only a node that is there is a pair.
abbrev pub Heavier : List Node → ℕ → Form Table Side → Type 0
Heavier nodes n unit_form = Unit {0}
Heavier nodes n (atom_form a) = Unit {0}
Heavier nodes n (abstraction_form a s) = (w : ℕ → ℕ) → weight nodes w s.node < weight nodes w n
Heavier nodes n (pair_form l r) =
    (n < length nodes) × ((w : ℕ → ℕ) → weight nodes w l.node < weight nodes w n) × ((w : ℕ → ℕ) → weight nodes w r.node < weight nodes w n)
Heavier nodes n (application_form f s) = (w : ℕ → ℕ) → weight nodes w s.node < weight nodes w n
Heavier nodes n (suspension_form P X) = (w : ℕ → ℕ) → weight nodes w n ≡ w X

module _ (g : Ground) (variables : ℕ) (named : (n : ℕ) → Named g.atoms variables n (form_at g.nodes n)) where
  pub top_heavier : (s : Side) → Heavier g.nodes s.node (top g s)
  unfolding top
  top_heavier s = by_form (form_at g.nodes s.node) refl
    where
      is : (f : Node) → form_at g.nodes s.node ≡ f → (w : ℕ → ℕ) → weight g.nodes w s.node ≡ weigh w (built g.nodes f)
      is f e w = ap (weigh w) (tree_built g.atoms variables g.nodes named s.node ∙ ap (built g.nodes) e)

      by_form : (f : Node) → form_at g.nodes s.node ≡ f → Heavier g.nodes s.node (permuted g.atoms s.images f)
      by_form unit_form e = tt
      by_form (atom_form a) e = tt
      by_form (abstraction_form a n) e = λ w. omega (arith, is (abstraction_form a n) e w)
      by_form (pair_form l r) e = (
        by_lt s.node (length g.nodes) (λ h. h) (λ h.
            let u : form_at g.nodes s.node ≡ unit_form = get_or-eq_default g.nodes unit_form h in
            let z : ◌≡◌ {A = ℕ} 0 1 = cc in omega arith),
        λ w. omega (arith, is (pair_form l r) e w),
        λ w. omega (arith, is (pair_form l r) e w),
      )
      by_form (application_form f n) e = λ w. omega (arith, is (application_form f n) e w)
      by_form (suspension_form π X) e = λ w. is (suspension_form π X) e w

  -- Resolving a side keeps its weight.
  module _ (bs : List Binding) (w : ℕ → ℕ) (respects : Respects g.nodes bs w) where
    replacement_weight : (s : Side) (P : Table) (X : ℕ) (onward : Side → Side)
        → ((t : Side) → weight g.nodes w (onward t).node ≡ weight g.nodes w t.node) → weight g.nodes w s.node ≡ w X
        → (v : Option Side) → value_of bs X ≡ v → weight g.nodes w (replacement v s P onward).node ≡ weight g.nodes w s.node
    replacement_weight s P X onward keeps is none e = refl
    replacement_weight s P X onward keeps is (some v) e = keeps (under P v) ∙ sym (is ∙ respects X v e)

    replaced_weight : (s : Side) (onward : Side → Side) → ((t : Side) → weight g.nodes w (onward t).node ≡ weight g.nodes w t.node)
        → (f : Form Table Side) → Heavier g.nodes s.node f → weight g.nodes w (replaced bs s f onward).node ≡ weight g.nodes w s.node
    replaced_weight s onward keeps unit_form h = refl
    replaced_weight s onward keeps (atom_form a) h = refl
    replaced_weight s onward keeps (abstraction_form a t) h = refl
    replaced_weight s onward keeps (pair_form t u) h = refl
    replaced_weight s onward keeps (application_form f t) h = refl
    replaced_weight s onward keeps (suspension_form P X) h = replacement_weight s P X onward keeps (h w) (value_of bs X) refl

    resolved_in_weight : (k : ℕ) (s : Side) → weight g.nodes w (resolved_in k g bs s).node ≡ weight g.nodes w s.node
    unfolding resolved_in
    resolved_in_weight zero s = refl
    resolved_in_weight (suc k) s = replaced_weight s (λ t. resolved_in k g bs t) (resolved_in_weight k) (top g s) (top_heavier s)

    pub resolved_weight : (s : Side) → weight g.nodes w (resolved g bs s).node ≡ weight g.nodes w s.node
    unfolding resolved
    resolved_weight s = resolved_in_weight (length bs) s
