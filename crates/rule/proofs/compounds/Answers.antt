-- `compounds` meets its contract: two forms of one kind have their rule, and others are a clash.
use borrow.Author.Rules.{rules}
use mathlib.Core.Path.{ap}
use mathlib.Core.List.{[], ◌∷◌}
use denote.Enum.Declared.{tag_of}
use Rattle.problem.specs.contracts.Form.{the_type}
use Rattle.rule.specs.Rule.{both_units, both_atoms, both_abstractions, both_pairs, both_applications}
use Rattle.rule.proofs.Ruling.{clashing_among}
use Rattle.rule.proofs.compounds.Goals as goal

pub returns-in-Unit-Unit : goal.returns-in-Unit-Unit
returns-in-Unit-Unit c = rw (c.in-Unit-Unit.is-0, c.in-Unit-Unit.is-1) both_units

pub returns-in-Atom-Atom : goal.returns-in-Atom-Atom
returns-in-Atom-Atom c = rw (c.in-Atom-Atom.is-0, c.in-Atom-Atom.is-1, c.two_atoms.ensures) both_atoms

pub returns-in-Abstraction-Abstraction : goal.returns-in-Abstraction-Abstraction
returns-in-Abstraction-Abstraction c = rw (c.in-Abstraction-Abstraction.is-0, c.in-Abstraction-Abstraction.is-1, c.two_abstractions.ensures) both_abstractions

pub returns-in-Pair-Pair : goal.returns-in-Pair-Pair
returns-in-Pair-Pair c = rw (c.in-Pair-Pair.is-0, c.in-Pair-Pair.is-1) both_pairs

pub returns-in-Application-Application : goal.returns-in-Application-Application
returns-in-Application-Application c = rw (c.in-Application-Application.is-0, c.in-Application-Application.is-1, c.two_applications.ensures) both_applications

pub returns-in_default : goal.returns-in_default
returns-in_default c = clashing_among _ _ _ _ 0 (1 ∷ 2 ∷ 3 ∷ 4 ∷ 5 ∷ []) tt (ap (tag_of the_type) c.in_default.is-0) (search rules)

pub returns-in_default-2 : goal.returns-in_default-2
returns-in_default-2 c = clashing_among _ _ _ _ 1 (0 ∷ 2 ∷ 3 ∷ 4 ∷ 5 ∷ []) tt (ap (tag_of the_type) c.in_default.is-0) (search rules)

pub returns-in_default-3 : goal.returns-in_default-3
returns-in_default-3 c = clashing_among _ _ _ _ 2 (0 ∷ 1 ∷ 3 ∷ 4 ∷ 5 ∷ []) tt (ap (tag_of the_type) c.in_default.is-0) (search rules)

pub returns-in_default-4 : goal.returns-in_default-4
returns-in_default-4 c = clashing_among _ _ _ _ 3 (0 ∷ 1 ∷ 2 ∷ 4 ∷ 5 ∷ []) tt (ap (tag_of the_type) c.in_default.is-0) (search rules)

pub returns-in_default-5 : goal.returns-in_default-5
returns-in_default-5 c = clashing_among _ _ _ _ 4 (0 ∷ 1 ∷ 2 ∷ 3 ∷ 5 ∷ []) tt (ap (tag_of the_type) c.in_default.is-0) (search rules)
