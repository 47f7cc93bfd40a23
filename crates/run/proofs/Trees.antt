-- What the trees of nodes and sides are: a node's tree is built from its parts' trees, a side's top says what its tree is, and what the run does to
-- a side's table it does to its tree. Over any number of atoms, and nodes whose names are there.
use Prim.Native.Nat.{ℕ, zero, suc, ◌+◌, ◌<◌}
use native.Mathlib.Nat.{add-zero, zero-add}
use native.Mathlib.Omega.{arith}
use mathlib.Core.Path.{◌≡◌, refl, sym, ◌∙◌, ap}
use mathlib.Core.List.{List, [], ◌∷◌, ◌++◌}
use lib.ListN.{length, get_or, length-append, get_or-append, get_or-eq_default}
use Rattle.permutation.specs.Swaps.{Swaps, act, inverse, Within}
use Rattle.permutation.specs.Table.{Table, image, identity, after, inverted, of_swaps, swapped_after, swaps_of}
use Rattle.permutation.proofs.Swaps.{act_append, within, within_append}
use Rattle.permutation.proofs.Table.{length_identity, length_after, length_inverted, length_swapped_after, length_of_swaps, image_after, image_of_swaps_within}
use Rattle.permutation.proofs.Table.{permutes_identity, permutes_of_swaps, permutes_after, permutes_inverted, permutes_swapped_after, act_swaps_of}
use Rattle.permutation.proofs.Table.{swaps_of_within, swaps_of_after, swaps_of_inverted, swaps_of_swapped_after, swaps_of_identity}
use Rattle.nominal.specs.Tree.{Tree, unit, atom, abstraction, pair, application, suspension, permute, Substitution, substitute}
use Rattle.nominal.proofs.Tree.{permute_nil, permute_append}
use Rattle.problem.specs.Problem.{Form, unit_form, atom_form, abstraction_form, pair_form, application_form, suspension_form, Node, form_at}
use Rattle.problem.specs.Readable.{Named}
use Rattle.run.specs.Meaning.{tree_of, trees_after, tree, Side, side_tree}
use Rattle.run.specs.Run.{Ground, permuted, top, under}
pub use Rattle.run.specs.Circle.{Permuting, Fits}
use Rattle.nominal.specs.Same.{Same}
use Rattle.run.proofs.Same.{same_transitive, same_permute}

-- ---- the trees of nodes

-- A tree by its node's form, of its parts' trees.
abbrev pub built : List Node → Node → Tree
built nodes unit_form = unit
built nodes (atom_form a) = atom a
built nodes (abstraction_form a n) = abstraction a (tree nodes n)
built nodes (pair_form l r) = pair (tree nodes l) (tree nodes r)
built nodes (application_form f n) = application f (tree nodes n)
built nodes (suspension_form π X) = suspension π X

get_d_last : (ts : List Tree) (t : Tree) → get_or (ts ++ (t ∷ [])) (length ts) unit ≡ t
get_d_last [] t = refl
get_d_last (s ∷ ts) t = get_d_last ts t

-- Later nodes change no tree.
trees_after_before : (ts : List Tree) (nodes : List Node) (i : ℕ) → i < length ts → get_or (trees_after ts nodes) i unit ≡ get_or ts i unit
trees_after_before ts [] i h = refl
trees_after_before ts (n ∷ nodes) i h =
    trees_after_before (ts ++ (tree_of ts n ∷ [])) nodes i (rw length-append (omega arith)) ∙ get_or-append ts (tree_of ts n ∷ []) unit i h

module _ (atoms variables : ℕ) where
  -- A form's tree depends only on the trees before it.
  tree_of_agree : (ts us : List Tree) (k : ℕ) → ((i : ℕ) → i < k → get_or ts i unit ≡ get_or us i unit) → (n : Node) → Named atoms variables k n
      → tree_of ts n ≡ tree_of us n
  tree_of_agree ts us k h unit_form m = refl
  tree_of_agree ts us k h (atom_form a) m = refl
  tree_of_agree ts us k h (abstraction_form a n) m = ap (abstraction a) (h n m.1)
  tree_of_agree ts us k h (pair_form l r) m = cc (h l m.0, h r m.1)
  tree_of_agree ts us k h (application_form f n) m = ap (application f) (h n m)
  tree_of_agree ts us k h (suspension_form π X) m = refl

  trees_after_at : (ts : List Tree) (nodes : List Node) (j : ℕ) → ((i : ℕ) → Named atoms variables (length ts + i) (form_at nodes i))
      → get_or (trees_after ts nodes) (length ts + j) unit ≡ tree_of (trees_after ts nodes) (form_at nodes j)
  trees_after_at ts [] j m = get_or-eq_default ts unit (omega arith)
  trees_after_at ts (n ∷ nodes) zero m =
      let us : List Tree = ts ++ (tree_of ts n ∷ []) in
      ap (λ (k : ℕ). get_or (trees_after us nodes) k unit) (add-zero (length ts))
      ∙ trees_after_before us nodes (length ts) (rw length-append (omega arith))
      ∙ get_d_last ts (tree_of ts n)
      ∙ tree_of_agree ts (trees_after us nodes) (length ts)
      (λ i h. sym (trees_after_before us nodes i (rw length-append (omega arith)) ∙ get_or-append ts (tree_of ts n ∷ []) unit i h))
      n (rw add-zero at (m 0))
  trees_after_at ts (n ∷ nodes) (suc j) m =
      let us : List Tree = ts ++ (tree_of ts n ∷ []) in
      let l : (i : ℕ) → length us + i ≡ length ts + suc i = λ i. rw length-append (omega arith) in
      ap (λ (k : ℕ). get_or (trees_after us nodes) k unit) (sym (l j))
      ∙ trees_after_at us nodes j (λ i. rw (l i) (m (suc i)))

  pub tree_built : (nodes : List Node) → ((n : ℕ) → Named atoms variables n (form_at nodes n)) → (n : ℕ) → tree nodes n ≡ built nodes (form_at nodes n)
  unfolding tree
  tree_built nodes m n =
      ap (λ (k : ℕ). get_or (trees_after [] nodes) k unit) (sym (zero-add n)) ∙ trees_after_at [] nodes n (λ i. rw zero-add (m i)) ∙ by_form (form_at nodes n)
    where
      by_form : (f : Node) → tree_of (trees_after [] nodes) f ≡ built nodes f
      by_form unit_form = refl
      by_form (atom_form a) = refl
      by_form (abstraction_form a i) = refl
      by_form (pair_form l r) = refl
      by_form (application_form f i) = refl
      by_form (suspension_form π X) = refl

-- ---- sides

pub permuting_identity : (atoms : ℕ) → Permuting atoms (identity atoms)
permuting_identity atoms = record { long = length_identity atoms; permutes = permutes_identity atoms }

pub permuting_of_swaps : (atoms : ℕ) (π : Swaps) → Within atoms π → Permuting atoms (of_swaps atoms π)
permuting_of_swaps atoms π w = record { long = length_of_swaps atoms π; permutes = permutes_of_swaps atoms π w }

module _ {atoms : ℕ} {P : Table} (p : Permuting atoms P) where
  pub permuting_after : {Q : Table} → Permuting atoms Q → Permuting atoms (after P Q)
  permuting_after {Q} q =
      record { long = length_after P Q ∙ q.long; permutes = permutes_after P Q (p.long ∙ sym q.long) p.permutes q.permutes }

  pub permuting_inverted : Permuting atoms (inverted P)
  permuting_inverted = record { long = length_inverted P ∙ p.long; permutes = permutes_inverted P p.permutes }

  pub permuting_swapped : (a b : ℕ) → a < atoms → b < atoms → Permuting atoms (swapped_after a b P)
  permuting_swapped a b h k =
      record { long = length_swapped_after a b P ∙ p.long; permutes = permutes_swapped_after a b P (rw p.long h) (rw p.long k) p.permutes }

  pub image_below : (a : ℕ) → a < atoms → image P a < atoms
  image_below a h = rw p.long at (p.permutes.inside a (rw p.long h))

  pub act_permuting : (a : ℕ) → act (swaps_of P) a ≡ image P a
  act_permuting a = act_swaps_of P a p.permutes

  pub within_permuting : Within atoms (swaps_of P)
  within_permuting = rw p.long at (swaps_of_within P p.permutes)

pub fits_under : {atoms : ℕ} {nodes : List Node} {P : Table} {s : Side} → Permuting atoms P → Fits atoms nodes s → Fits atoms nodes (under P s)
fits_under p f = record { images = permuting_after p f.images; there = f.there }

-- "s against t under the swap of a and b"
abbrev pub under_swap : ℕ → ℕ → Side → Side
under_swap a b t = record { images = swapped_after a b t.images; node = t.node }

pub fits_under_swap : {atoms : ℕ} {nodes : List Node} {s : Side} (a b : ℕ) → a < atoms → b < atoms → Fits atoms nodes s → Fits atoms nodes (under_swap a b s)
fits_under_swap a b h k f = record { images = permuting_swapped f.images a b h k; there = f.there }

-- The side that a node is, as the problem's equations have it.
abbrev pub plain : ℕ → ℕ → Side
plain atoms n = record { images = identity atoms; node = n }

pub fits_plain : {atoms : ℕ} {nodes : List Node} (n : ℕ) → n < length nodes → Fits atoms nodes (plain atoms n)
fits_plain {atoms} n h = record { images = permuting_identity atoms; there = h }

-- What happens to a side's table happens to its tree.
module _ (nodes : List Node) where
  pub tree_plain : (atoms n : ℕ) → Same (side_tree nodes (plain atoms n)) (tree nodes n)
  unfolding side_tree
  tree_plain atoms n = rw permute_nil at (same_permute (swaps_of (identity atoms)) [] (swaps_of_identity atoms) (tree nodes n))

  pub tree_under : {atoms : ℕ} {P : Table} {s : Side} → Permuting atoms P → Fits atoms nodes s
      → Same (side_tree nodes (under P s)) (permute (swaps_of P) (side_tree nodes s))
  unfolding side_tree
  tree_under {P = P} {s = s} p f =
      rw permute_append at (same_permute (swaps_of (after P s.images)) (swaps_of P ++ swaps_of s.images)
      (swaps_of_after P s.images (p.long ∙ sym f.images.long) p.permutes f.images.permutes) (tree nodes s.node))

  pub tree_under_inverted : {atoms : ℕ} {P : Table} {s : Side} → Permuting atoms P → Fits atoms nodes s
      → Same (side_tree nodes (under (inverted P) s)) (permute (inverse (swaps_of P)) (side_tree nodes s))
  tree_under_inverted {P = P} {s = s} p f =
      same_transitive (tree_under (permuting_inverted p) f)
      (same_permute (swaps_of (inverted P)) (inverse (swaps_of P)) (swaps_of_inverted P p.permutes) (side_tree nodes s))

  pub tree_under_swap : {atoms : ℕ} {s : Side} (a b : ℕ) → a < atoms → b < atoms → Fits atoms nodes s
      → Same (side_tree nodes (under_swap a b s)) (permute ((a, b) ∷ []) (side_tree nodes s))
  unfolding side_tree
  tree_under_swap {s = s} a b h k f =
      rw (permute_append ((a, b) ∷ []) (swaps_of s.images) (tree nodes s.node)) at
      (same_permute (swaps_of (swapped_after a b s.images)) ((a, b) ∷ swaps_of s.images)
      (swaps_of_swapped_after a b s.images (rw f.images.long h) (rw f.images.long k) f.images.permutes) (tree nodes s.node))

-- ---- tops

-- What a side's top says of its tree: exactly what it is, but that a suspension's list of swaps is known by its table.
abbrev pub Shows : List Node → Tree → Form Table Side → Type 0
Shows nodes t unit_form = t ≡ unit
Shows nodes t (atom_form a) = t ≡ atom a
Shows nodes t (abstraction_form a s) = t ≡ abstraction a (side_tree nodes s)
Shows nodes t (pair_form l r) = t ≡ pair (side_tree nodes l) (side_tree nodes r)
Shows nodes t (application_form f s) = t ≡ application f (side_tree nodes s)
Shows nodes t (suspension_form P X) = (ρ : Swaps) × (t ≡ suspension ρ X) × ((a : ℕ) → act ρ a ≡ image P a)

-- The names in a top are there, and its parts are sides at lower nodes.
abbrev pub TopFits : ℕ → ℕ → List Node → ℕ → Form Table Side → Type 0
TopFits atoms variables nodes n unit_form = Unit {0}
TopFits atoms variables nodes n (atom_form a) = a < atoms
TopFits atoms variables nodes n (abstraction_form a s) = (a < atoms) × Fits atoms nodes s × (s.node < n)
TopFits atoms variables nodes n (pair_form l r) = (Fits atoms nodes l × (l.node < n)) × (Fits atoms nodes r × (r.node < n))
TopFits atoms variables nodes n (application_form f s) = Fits atoms nodes s × (s.node < n)
TopFits atoms variables nodes n (suspension_form P X) = Permuting atoms P × (X < variables)

module _ (g : Ground) (variables : ℕ) (named : (n : ℕ) → Named g.atoms variables n (form_at g.nodes n)) where
  pub top_shows : (s : Side) → Permuting g.atoms s.images → Shows g.nodes (side_tree g.nodes s) (top g s)
  unfolding top side_tree
  top_shows s p = rw (tree_built g.atoms variables g.nodes named s.node) (by_form (form_at g.nodes s.node) (named s.node))
    where
      by_form : (f : Node) → Named g.atoms variables s.node f
          → Shows g.nodes (permute (swaps_of s.images) (built g.nodes f)) (permuted g.atoms s.images f)
      by_form unit_form m = refl
      by_form (atom_form a) m = ap atom (act_permuting p a)
      by_form (abstraction_form a n) m = rw (act_permuting p a)
      by_form (pair_form l r) m = refl
      by_form (application_form f n) m = refl
      by_form (suspension_form π X) m = (
        swaps_of s.images ++ π,
        refl,
        λ a. act_append (swaps_of s.images) π a ∙ act_permuting p (act π a)
            ∙ sym (image_after s.images (of_swaps g.atoms π) a (p.long ∙ sym (length_of_swaps g.atoms π))
            ∙ ap (image s.images) (image_of_swaps_within g.atoms π a m.1)),
      )

  pub top_fits : (s : Side) → Fits g.atoms g.nodes s → TopFits g.atoms variables g.nodes s.node (top g s)
  unfolding top
  top_fits s f = by_form (form_at g.nodes s.node) (named s.node)
    where
      part : (n : ℕ) → n < s.node → Fits g.atoms g.nodes (record { images = s.images; node = n }) × (n < s.node)
      part n h = (record { images = f.images; there = let k = f.there in omega arith }, h)

      by_form : (t : Node) → Named g.atoms variables s.node t → TopFits g.atoms variables g.nodes s.node (permuted g.atoms s.images t)
      by_form unit_form m = tt
      by_form (atom_form a) m = image_below f.images a m
      by_form (abstraction_form a n) m = let k = part n m.1 in (image_below f.images a m.0, k.0, k.1)
      by_form (pair_form l r) m = (part l m.0, part r m.1)
      by_form (application_form h n) m = part n m
      by_form (suspension_form π X) m = (permuting_after f.images (permuting_of_swaps g.atoms π m.1), m.0)

-- ---- names

-- All names in a tree are there: so many atoms and variables.
abbrev pub NamedTree : ℕ → ℕ → Tree → Type 0
NamedTree atoms variables unit = Unit {0}
NamedTree atoms variables (atom a) = a < atoms
NamedTree atoms variables (abstraction a t) = (a < atoms) × NamedTree atoms variables t
NamedTree atoms variables (pair s t) = NamedTree atoms variables s × NamedTree atoms variables t
NamedTree atoms variables (application f t) = NamedTree atoms variables t
NamedTree atoms variables (suspension π X) = (X < variables) × Within atoms π

module _ (atoms variables : ℕ) where
  pub named_permute : (π : Swaps) → Within atoms π → (t : Tree) → NamedTree atoms variables t → NamedTree atoms variables (permute π t)
  named_permute π w unit m = tt
  named_permute π w (atom a) m = within atoms π a w m
  named_permute π w (abstraction a t) m = (within atoms π a w m.0, named_permute π w t m.1)
  named_permute π w (pair s t) m = (named_permute π w s m.0, named_permute π w t m.1)
  named_permute π w (application f t) m = named_permute π w t m
  named_permute π w (suspension ρ X) m = (m.0, within_append atoms π ρ w m.1)

  pub named_substitute : (σ : Substitution) → ((X : ℕ) → X < variables → NamedTree atoms variables (σ X)) → (t : Tree) → NamedTree atoms variables t
      → NamedTree atoms variables (substitute σ t)
  named_substitute σ h unit m = tt
  named_substitute σ h (atom a) m = m
  named_substitute σ h (abstraction a t) m = (m.0, named_substitute σ h t m.1)
  named_substitute σ h (pair s t) m = (named_substitute σ h s m.0, named_substitute σ h t m.1)
  named_substitute σ h (application f t) m = named_substitute σ h t m
  named_substitute σ h (suspension π X) m = named_permute π m.1 (σ X) (h X m.0)

  module _ (nodes : List Node) (named : (n : ℕ) → Named atoms variables n (form_at nodes n)) where
    named_form : (n : ℕ) → ((i : ℕ) → i < n → NamedTree atoms variables (tree nodes i)) → (f : Node) → Named atoms variables n f
        → NamedTree atoms variables (built nodes f)
    named_form n before unit_form m = tt
    named_form n before (atom_form a) m = m
    named_form n before (abstraction_form a i) m = (m.0, before i m.1)
    named_form n before (pair_form l r) m = (before l m.0, before r m.1)
    named_form n before (application_form f i) m = before i m
    named_form n before (suspension_form π X) m = m

    named_below : (k n : ℕ) → n < k → NamedTree atoms variables (tree nodes n)
    named_below zero n h = absurd (omega arith)
    named_below (suc k) n h = rw (tree_built atoms variables nodes named n) (named_form n (λ i l. named_below k i (omega arith)) (form_at nodes n) (named n))

    pub named_node : (n : ℕ) → NamedTree atoms variables (tree nodes n)
    named_node n = named_below (suc n) n (omega arith)

    pub named_side : (s : Side) → Permuting atoms s.images → NamedTree atoms variables (side_tree nodes s)
    unfolding side_tree
    named_side s p = named_permute (swaps_of s.images) (within_permuting p) (tree nodes s.node) (named_node s.node)
