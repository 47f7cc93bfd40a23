-- What the table has for the freshness field.
use mathlib.Core.Path.{◌∙◌}
use Rattle.problem.proofs.Kept.{freshness_kept}
use Rattle.problem.proofs.Input.freshness_at.Goals as goal

pub returns : goal.returns
returns c =
    let h = freshness_kept c.args.self.now.are_bytes c.requires.kept in
    let a = c.first_byte.ensures ∙ h.0 in
    let n = c.middle_two.ensures ∙ h.1 in
    λ i. record { atom = record { 0 = a i }; node = record { 0 = n i } }
