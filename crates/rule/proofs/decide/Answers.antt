-- `decide` meets its contract: by which of the two sides is a suspension.
use borrow.Author.Rules.{rules}
use Rattle.rule.specs.Rule.{none_suspended}
use Rattle.side.proofs.Forms.{no_suspension}
use Rattle.rule.proofs.Ruling.{compound_among, decided_both, decided_left, decided_right}
use Rattle.rule.proofs.decide.Goals as goal

pub returns-in-Suspension-Suspension : goal.returns-in-Suspension-Suspension
returns-in-Suspension-Suspension c =
    decided_both _ _ _ _ _ c.args.left c.args.right _ _ _ c.in-Suspension-Suspension.is-0 c.in-Suspension-Suspension.is-1 c.two_variables.ensures

pub returns-in-Suspension-default : goal.returns-in-Suspension-default
returns-in-Suspension-default c =
    decided_left _ _ _ _ _ c.args.left c.args.right _ _ c.in-Suspension-default.is-0
    (compound_among c.args.right.form (search rules))
    c.one_variable.ensures

pub returns-in_default-Suspension : goal.returns-in_default-Suspension
returns-in_default-Suspension c =
    decided_right _ _ _ _ _ c.args.left c.args.right _ _
    (no_suspension c.args.left.form c.in_default-Suspension.not-Suspension-0)
    c.in_default-Suspension.is-1 c.one_variable-in_default-Suspension.ensures

pub returns-in_default : goal.returns-in_default
returns-in_default c =
    let left_compound = no_suspension c.args.left.form c.in_default.not-Suspension-0 in
    let right_compound = no_suspension c.args.right.form c.in_default.not-Suspension-1 in
    λ occurring agrees free_left free_right. none_suspended left_compound right_compound c.compounds.ensures
