-- What holds a problem gives every look-up what it asks, for every number that is there; and what a told form says of its node.
use Prim.Native.Nat.{ℕ}
use native.Mathlib.Omega.{arith}
use mathlib.Core.Path.{◌≡◌, refl, sym, ◌∙◌, ap, subst}
use mathlib.Core.List.{List}
use Rattle.permutation.specs.Swaps.{Within}
use borrow.Author.Tests.{eq-eqb, ne_eqb}
use Rattle.names.proofs.Equal.{by_eq}
use Rattle.field.specs.Field.{Bytes}
use Rattle.field.specs.Word.{key_in}
use Rattle.problem.specs.Problem.{Node, unit_form, atom_form, abstraction_form, pair_form, application_form, suspension_form, form_at, Problem}
use Rattle.problem.specs.Readable.{Named, Readable}
use Rattle.problem.specs.Held.{Held, node_word, problem_of}
use Rattle.problem.specs.Look.{NodeStands, Standing, form_told, form_in, form_now, bare_in, bare_of, untold, own_swaps}
use Rattle.problem.specs.declared.Form.{Form}
use Rattle.problem.proofs.Kept.{told_kept, bare_kept, not_bare}

-- What the reader holds stands where the table says.
pub standing : (s : List ℕ) (places : List ℕ) (assumed : List ℕ) (protected : ℕ)
    → Held s places assumed protected (problem_of s)
    → Readable (problem_of s)
    → Standing s places
standing s places assumed protected h r =
    record {
      readable = r;
      nodes = λ n k. record { small = omega (arith, r.few_nodes); kept = h.nodes n k };
      equations = λ n k. record { small = omega (arith, r.few_equations); kept = h.equations n (record { left = 0; right = 0 }) k };
      freshness = λ n k. record { small = omega (arith, r.few_freshness); kept = h.freshness n (record { atom = 0; node = 0; offset = 0 }) k };
    }

-- The form that the table has for a node is the node's own.
pub form_kept : (s places : List ℕ) (n : ℕ) → Bytes s → NodeStands s places n → form_in (node_word places n) ≡ form_told (form_now s n)
form_kept s places n b h = told_kept b h.kept

-- The variable that the table has for a suspension without swaps is the node's own.
pub variable_kept : (s places : List ℕ) (n : ℕ) → Bytes s → NodeStands s places n → bare_in (node_word places n) ≡ bare_of (form_now s n)
unfolding bare_in
variable_kept s places n b h =
    by_eq (key_in (node_word places n)) 0x150001 (λ e. rw (eq-eqb _ _ e) (bare_kept b h.kept e)) (λ d. rw (ne_eqb _ _ d) (not_bare b h.kept d))

-- A told form, with the node's own swaps, is the node's form.
pub told_back : (f : Node) {w : Form} → w ≡ form_told f → f ≡ untold (own_swaps f) w
told_back f e = by_form f ∙ ap (untold (own_swaps f)) (sym e)
  where
    by_form : (f : Node) → f ≡ untold (own_swaps f) (form_told f)
    by_form unit_form = refl
    by_form (atom_form a) = refl
    by_form (abstraction_form a n) = refl
    by_form (pair_form l r) = refl
    by_form (application_form g n) = refl
    by_form (suspension_form π X) = refl

within_named : (atoms variables n : ℕ) (f : Node) → Named atoms variables n f → Within atoms (own_swaps f)
within_named atoms variables n unit_form h = tt
within_named atoms variables n (atom_form a) h = tt
within_named atoms variables n (abstraction_form a m) h = tt
within_named atoms variables n (pair_form l r) h = tt
within_named atoms variables n (application_form f m) h = tt
within_named atoms variables n (suspension_form π X) h = h.1

-- The names in a told form are there and its parts are below the node, and a node's swaps are of atoms that are there.
module _ {p : Problem} (r : Readable p) (n : ℕ) where
  pub named_told : {w : Form} → w ≡ form_told (form_at p.nodes n) → Named p.atoms p.variables n (untold (own_swaps (form_at p.nodes n)) w)
  named_told e = subst (Named p.atoms p.variables n) (told_back (form_at p.nodes n) e) (r.named_nodes n)

  pub own_within : Within p.atoms (own_swaps (form_at p.nodes n))
  own_within = within_named p.atoms p.variables n (form_at p.nodes n) (r.named_nodes n)
