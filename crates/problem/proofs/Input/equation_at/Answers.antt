-- What the table has for the equation.
use mathlib.Core.Path.{◌∙◌}
use Rattle.problem.proofs.Kept.{equation_kept}
use Rattle.problem.proofs.Input.equation_at.Goals as goal

pub returns : goal.returns
returns c =
    let h = equation_kept c.args.self.now.are_bytes c.requires.kept in
    let l = c.first_two.ensures ∙ h.0 in
    let r = c.last_two.ensures ∙ h.1 in
    λ i. record { left = record { 0 = l i }; right = record { 0 = r i } }
