-- What the table tells of a node: its form, whatever input the table is of, and that the names in it are there.
use Prim.Native.Nat.{ℕ, ◌+◌, ◌*◌, ◌^◌, ◌<◌}
use native.Mathlib.Omega.{arith}
use mathlib.Core.Path.{◌≡◌, ◌∙◌, ap}
use mathlib.Core.List.{List}
use lib.ListN.{length, get_or}
use Rattle.sets.specs.Bits.{difference, lowest}
use Rattle.permutation.specs.Swaps.{Within}
use Rattle.permutation.proofs.Swaps.{within_more}
use Rattle.names.specs.declared.Variable.{Variable}
use Rattle.problem.specs.Problem.{suspension_form}
use Rattle.problem.specs.Readable.{Named}
use Rattle.problem.specs.Held.{problem_of, node_word}
use Rattle.problem.specs.Look.{Standing, form_now, form_in, form_told, untold, own_swaps}
use Rattle.problem.specs.declared.Form.{Form}
use Rattle.problem.specs.declared.Form.TheVariants.{Suspension}
use Rattle.problem.proofs.Looking.{form_kept, told_back, named_told, own_within}
use Rattle.visit.specs.Visited.{added}
use Rattle.visit.specs.Parts.{InTable, InWord, SuspendedAt}
use Rattle.visit.proofs.Growth.{Noted}
use Rattle.visit.proofs.Waiting.{first_in}

-- ---- a node of some input whose table this is

abbrev lower : (m n k : ℕ) → m < n → n < k → m < k
lower m n k h l = omega arith

module _ {places : List ℕ} {n : ℕ} (i : InTable places n) where
  pub small_node : n < 512
  small_node = (i.stands.nodes n i.few).small

  -- A part of it is there too.
  abbrev pub part : {m : ℕ} → m < n → InTable places m
  part h = record { input = i.input; bytes = i.bytes; stands = i.stands; few = lower _ _ _ h i.few }

  -- Its form, as the code was told it: its parts are below it, and its variable is one of the problem's.
  module _ {r : Form} (e : r ≡ form_in (node_word places n)) where
    as_kept : r ≡ form_told (form_now i.input n)
    as_kept = e ∙ form_kept _ _ _ i.bytes (i.stands.nodes n i.few)

    pub told : form_now i.input n ≡ untold (own_swaps (form_now i.input n)) r
    told = told_back (form_now i.input n) as_kept

    pub named : Named (problem_of i.input).atoms (problem_of i.input).variables n (untold (own_swaps (form_now i.input n)) r)
    named = named_told i.stands.readable n as_kept

  -- The atoms that are new there were marked, in the row that was read.
  pub noted : {seen variables seen₁ : List ℕ} {atoms j row new : ℕ} → n < length seen → j ≡ n → row ≡ get_or seen j 0 → new ≡ difference atoms row
      → seen₁ ≡ added seen j new → Noted (problem_of i.input) atoms n seen variables new seen₁
  noted {seen} {variables} {seen₁} {atoms} {j} {row} {new} h at read is_new is_seen = record {
    few = i.few;
    in_seen = h;
    is_new = is_new ∙ ap (difference atoms) read ∙ ap (λ (k : ℕ). difference atoms (get_or seen k 0)) at;
    is_seen = is_seen ∙ ap (λ (k : ℕ). added seen k new) at;
  }

-- ---- a suspension of a problem that stands in the input

-- Its swaps are of atoms that are there, and its variable is there.
pub record ToldSuspension (s : List ℕ) (n X : ℕ) : Type 0 where
  pub form : form_now s n ≡ suspension_form (own_swaps (form_now s n)) X
  pub names : Within 32 (own_swaps (form_now s n))
  pub there : X < (problem_of s).variables
  pub few : X < 64

pub told_suspension : {s places : List ℕ} (n : ℕ) {x : Variable} → Standing s places → Suspension x ≡ form_told (form_now s n) → ToldSuspension s n x.0
told_suspension {s} {places} n {x} stands e =
    let there : x.0 < (problem_of s).variables = (named_told stands.readable n e).0 in
    record {
      form = told_back (form_now s n) e;
      names = within_more _ 32 (own_swaps (form_now s n)) stands.readable.few_atoms (own_within stands.readable n);
      there = there;
      few = omega (arith, there, stands.readable.few_variables);
    }

-- The first node of those left in a word.
pub record FirstThere (s : List ℕ) (n : ℕ) : Type 0 where
  pub suspended : SuspendedAt (problem_of s).nodes n
  pub small : n < 512

pub first_there : {s places : List ℕ} (i word rest : ℕ) → Standing s places → ((n : ℕ) → InWord i word n → SuspendedAt (problem_of s).nodes n)
    → ((n : ℕ) → InWord i rest n → InWord i word n) → 0 < rest → rest < 2 ^ 64 → FirstThere s (i * 64 + lowest 64 rest)
first_there {s} {places} i word rest stands suspended within some small =
    let first : SuspendedAt (problem_of s).nodes (i * 64 + lowest 64 rest) = suspended _ (within _ (first_in i rest some small)) in
    record { suspended = first; small = omega (arith, first.few, stands.readable.few_nodes) }
