use Rattle.std.proofs.Common.{◌≡◌, ◌∙◌, ap, ap₂, arith, List, [], ℕ}
use Rattle.std.proofs.Math.ListN.{set}
use Rattle.std.proofs.Math.Seq.{get_or-set_other}
use Rattle.demands.specs.Demands.{asked_of_variables, emptied, demands_cleared}
use Rattle.demands.proofs.clear.Goals as goal

-- Emptying one column leaves the other.
pub returns : goal.returns
unfolding demands_cleared
returns c =
    let a = c.args in
    let asked = a.asked.now in
    let variables : c.empty_rows-2.new.sets ≡ emptied a.variables (asked_of_variables asked) =
    c.empty_rows-2.ensures ∙ ap (emptied a.variables) (get_or-set_other asked 0 1 c.empty_rows.new.sets [] (λ e. omega arith)) in
    ap₂ (λ (n v : List ℕ). set (set asked 0 n) 1 v) c.empty_rows.ensures variables
