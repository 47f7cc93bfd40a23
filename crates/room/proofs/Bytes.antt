-- How long an answer is: 7 bytes for the steps, at most 38 for a binding, 5 for a fact.
use Prim.Native.Nat.{ℕ, suc, ◌+◌, ◌*◌, ◌≤◌}
use native.Mathlib.Omega.{arith}
use mathlib.Core.Path.{◌≡◌}
use mathlib.Core.Bool.{Bool, true, false, cond}
use mathlib.Core.List.{List, [], ◌∷◌}
use lib.ListN.{length, length-append, length-map}
use Rattle.permutation.specs.Table.{upto}
use Rattle.permutation.proofs.Table.{length_from}
use Rattle.nominal.specs.Solutions.{Every}
use Rattle.field.specs.Field.{bytes2, bytes4, field_bytes}
use Rattle.problem.specs.Problem.{Problem}
use Rattle.run.proofs.Written.{length_fact_bytes}
use Rattle.run.specs.Meaning.{Binding, Fact}
use Rattle.run.specs.Answer.{has_fact, facts_among, all_facts, facts, binding_bytes, answer_bytes}

length_field : (tag : ℕ) (body : List ℕ) → length (field_bytes tag body) ≡ 3 + length body
unfolding field_bytes bytes2
length_field tag body = omega arith

-- The binding holds at most so many images.
abbrev pub Narrow : ℕ → Binding → Type 0
Narrow atoms b = length b.value.images ≤ atoms

length_bindings : (bs : List Binding) → Every (Narrow 32) bs → length (binding_bytes bs) ≤ 38 * length bs
unfolding binding_bytes bytes2
length_bindings [] n = omega arith
length_bindings (b ∷ bs) n = simp (length-append, length_field) (omega (arith, length_bindings bs n.1, n.0))

pub answer_short : (steps : ℕ) (bs : List Binding) (fs : List Fact) → Every (Narrow 32) bs → length bs ≤ 64 → length fs ≤ 2048
    → length (answer_bytes steps bs fs) ≤ 12679
unfolding answer_bytes bytes4 bytes2
answer_short steps bs fs n b f = simp (length-append, length_field) (omega (arith, length_bindings bs n, length_fact_bytes fs))

-- ---- how many facts there are

among_few : (given fs : List Fact) → length (facts_among given fs) ≤ length fs
among_few given [] = omega arith
among_few given (f ∷ fs) = by_test (among_few given fs) (has_fact f given)
  where
    by_test : length (facts_among given fs) ≤ length fs → (c : Bool) → length (cond c (f ∷ facts_among given fs) (facts_among given fs)) ≤ suc (length fs)
    by_test h true = omega arith
    by_test h false = omega arith

all_few : (atoms : ℕ) → atoms ≤ 32 → (Xs : List ℕ) → length (all_facts atoms Xs) ≤ 32 * length Xs
all_few atoms h [] = omega arith
all_few atoms h (X ∷ Xs) = simp (length-append, length-map, length_from) (omega (arith, all_few atoms h Xs))

pub facts_few : (p : Problem) (given : List Fact) → p.atoms ≤ 32 → p.variables ≤ 64 → length (facts p given) ≤ 2048
unfolding facts
facts_few p given a v =
    omega (arith, among_few given (all_facts p.atoms (upto p.variables)), all_few p.atoms a (upto p.variables), length_from 0 p.variables)
