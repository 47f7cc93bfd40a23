-- A problem's numbers, one by one: what `c ≡ counts_of p` says of each.
use mathlib.Core.Path.{◌≡◌, ap}
use lib.ListN.{length}
use Rattle.problem.specs.Problem.{Problem}
use Rattle.problem.specs.Told.{counts_of}
use Rattle.problem.specs.declared.Counts.{Counts}

module _ {c : Counts} (p : Problem) (e : c ≡ counts_of p) where
  pub all_atoms : c.atoms ≡ p.atoms
  unfolding counts_of
  all_atoms = ap (λ (x : Counts). x.atoms) e

  pub all_variables : c.variables ≡ p.variables
  unfolding counts_of
  all_variables = ap (λ (x : Counts). x.variables) e

  pub whole_limit : c.limit ≡ p.limit
  unfolding counts_of
  whole_limit = ap (λ (x : Counts). x.limit) e

  pub all_nodes : c.nodes ≡ length p.nodes
  unfolding counts_of
  all_nodes = ap (λ (x : Counts). x.nodes) e

  pub all_equations : c.equations ≡ length p.equations
  unfolding counts_of
  all_equations = ap (λ (x : Counts). x.equations) e

  pub all_freshness : c.freshness ≡ length p.freshness
  unfolding counts_of
  all_freshness = ap (λ (x : Counts). x.freshness) e
