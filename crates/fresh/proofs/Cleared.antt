-- Marks are cleared as demands are: nothing is seen at the nodes in use, and nothing was passed on from the variables in use.
use Prim.Native.Nat.{ℕ, ◌<◌}
use native.Mathlib.Omega.{arith}
use mathlib.Core.Path.{◌≡◌, ◌∙◌, ap}
use mathlib.Core.List.{List, []}
use lib.ListN.{length, get_or, set, replicate, drop, get_or-append, get_or-replicate, length-replicate, length-set}
use lib.Seq.{get_or-set_same, get_or-set_other}
use Rattle.demands.specs.Demands.{emptied, demands_cleared}
use Rattle.fresh.specs.Marks.{seen_in, done_in}

emptied_at : (n i : ℕ) (l : List ℕ) → i < n → get_or (emptied n l) i 0 ≡ 0
unfolding emptied
emptied_at n i l h = get_or-append (replicate n 0) (drop n l) 0 i (rw length-replicate h) ∙ get_or-replicate n i 0 0 h

module _ (nodes variables : ℕ) (marks : List (List ℕ)) (two : length marks ≡ 2) where
  abbrev seen : List ℕ
  seen = emptied nodes (seen_in marks)

  abbrev done : List ℕ
  done = emptied variables (done_in marks)

  pub none_seen : (i : ℕ) → i < nodes → get_or (seen_in (demands_cleared nodes variables marks)) i 0 ≡ 0
  unfolding demands_cleared
  none_seen i h =
      let now = get_or-set_other (set marks 0 seen) 1 0 done [] (λ q. omega arith) ∙ get_or-set_same marks 0 seen [] (omega arith) in
      ap (λ (t : List ℕ). get_or t i 0) now ∙ emptied_at nodes i (seen_in marks) h

  pub none_done : (i : ℕ) → i < variables → get_or (done_in (demands_cleared nodes variables marks)) i 0 ≡ 0
  unfolding demands_cleared
  none_done i h =
      let now = get_or-set_same (set marks 0 seen) 1 done [] (rw length-set (omega arith)) in
      ap (λ (t : List ℕ). get_or t i 0) now ∙ emptied_at variables i (done_in marks) h
