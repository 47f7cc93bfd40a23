-- `meet` meets its contract: two nodes of the same form go on by its rule, and else the equation is left.
use mathlib.Core.Path.{sym, ◌∙◌}
use Rattle.problem.proofs.Looking.{told_back}
use Rattle.quick.specs.Met.{met_in}
use Rattle.quick.proofs.Taking.{met_units, meets_atoms, met_abstractions, met_pairs, meets_applications}
use Rattle.quick.proofs.meet.Goals as goal

pub returns-in-Unit-Unit-clause-meets : goal.returns-in-Unit-Unit-clause-meets
returns-in-Unit-Unit-clause-meets c =
    met_units (told_back _ (sym c.in-Unit-Unit.is-0 ∙ c.form_of.ensures)) (told_back _ c.in-Unit-Unit.ensures)

pub returns-in-Atom-Atom-clause-meets : goal.returns-in-Atom-Atom-clause-meets
returns-in-Atom-Atom-clause-meets c =
    let a = c.args in
    meets_atoms a.input.now.bytes.now a.atoms a.bound.0 a.number a.n a.l a.r (met_in a.stack.now a.demands.now)
    (told_back _ c.in-Atom-Atom.ensures) (told_back _ c.in-Atom-Atom.ensures') c.atoms_meet.ensures

pub returns-in-Abstraction-Abstraction-clause-meets : goal.returns-in-Abstraction-Abstraction-clause-meets
returns-in-Abstraction-Abstraction-clause-meets c =
    let told = c.abstractions_meet.ensures.taken in
    rw told.0
    (met_abstractions (told_back _ c.in-Abstraction-Abstraction.ensures) (told_back _ c.in-Abstraction-Abstraction.ensures') told.1)

pub returns-in-Pair-Pair-clause-meets : goal.returns-in-Pair-Pair-clause-meets
returns-in-Pair-Pair-clause-meets c = met_pairs (told_back _ c.in-Pair-Pair.ensures) (told_back _ c.in-Pair-Pair.ensures')

pub returns-in-Application-Application-clause-meets : goal.returns-in-Application-Application-clause-meets
returns-in-Application-Application-clause-meets c =
    let a = c.args in
    meets_applications a.input.now.bytes.now a.atoms a.bound.0 a.number a.n a.l a.r (met_in a.stack.now a.demands.now)
    (told_back _ c.in-Application-Application.ensures) (told_back _ c.in-Application-Application.ensures') c.applications_meet.ensures
