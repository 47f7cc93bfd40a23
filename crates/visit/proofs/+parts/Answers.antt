-- One law for each form.
use Rattle.std.proofs.Common.{◌∙◌, ap, sym, ℕ, get_or, arith}
use borrow.Author.Tests.{eqb-true}
use Rattle.sets.specs.Bits.{difference}
use Rattle.problem.specs.Held.{problem_of}
use Rattle.problem.proofs.Looking.{variable_kept}
use Rattle.visit.proofs.Growth.{visited_again, visited_unit, visited_atom, visited_abstraction, visited_application}
use Rattle.visit.proofs.Growth.{visited_pair, visited_pair_right, visited_twins, visited_suspension}
use Rattle.visit.proofs.Told.{small_node, part, told, named, noted}
use Rattle.visit.proofs.+parts.Goals as goal

pub returns-then-is_empty : goal.returns-then-is_empty
returns-then-is_empty t c =
    let is_new = c.minus-new.ensures ∙ ap (difference c.args.atoms) (c.atoms_at.ensures ∙ ap (λ (k : ℕ). get_or c.args.seen.now k 0) c.from-n.ensures) in
    let none_new = sym is_new ∙ eqb-true _ 0 (sym c.is_empty.ensures ∙ c.if-is_empty.true) in
    λ i. visited_again (problem_of i.input) _ _ _ _ _ i.few none_new

pub returns-in-Unit : goal.returns-in-Unit
returns-in-Unit t c = λ i.
    let here = noted i (omega (arith, small_node i)) c.from-n.ensures c.atoms_at.ensures c.minus-new.ensures c.add_atoms.ensures in
    visited_unit here (told i c.in-Unit.ensures)

pub returns-in-Atom : goal.returns-in-Atom
returns-in-Atom t c = λ i.
    let here = noted i (omega (arith, small_node i)) c.from-n.ensures c.atoms_at.ensures c.minus-new.ensures c.add_atoms.ensures in
    visited_atom here (told i c.in-Atom.ensures)

pub parts-requires : goal.parts-requires
parts-requires t c =
    let below = (named c.requires c.in-Abstraction.ensures).1 in
    (omega (arith, below), part c.requires below)

pub returns-in-Abstraction : goal.returns-in-Abstraction
returns-in-Abstraction t c = λ i.
    let here = noted i (omega (arith, small_node i)) c.from-n.ensures c.atoms_at.ensures c.minus-new.ensures c.add_atoms.ensures in
    let below = (named i c.in-Abstraction.ensures).1 in
    visited_abstraction here (told i c.in-Abstraction.ensures) c.without-rest.ensures (c.parts.ensures (part i below))

pub parts-requires-then-eq : goal.parts-requires-then-eq
parts-requires-then-eq t c = let both = named c.requires c.in-Pair.ensures in (omega (arith, both), part c.requires both.1)

pub returns-then-eq : goal.returns-then-eq
returns-then-eq t c = λ i.
    let here = noted i (omega (arith, small_node i)) c.from-n.ensures c.atoms_at.ensures c.minus-new.ensures c.add_atoms.ensures in
    let both = named i c.in-Pair.ensures in
    visited_twins here (told i c.in-Pair.ensures) (eqb-true _ _ (sym c.eq.ensures ∙ c.if-eq.true))
    (c.parts-then-eq.ensures (part i both.1))

-- Of either part, so that a left part that is not asked is missed where the two visits are put together.
pub parts-requires-then-lt : goal.parts-requires-then-lt
parts-requires-then-lt t c = let both = named c.requires c.in-Pair.ensures in (omega (arith, both), part c.requires (omega (arith, both)))

pub parts-requires-then-lt-2 : goal.parts-requires-then-lt-2
parts-requires-then-lt-2 t c = let both = named c.requires c.in-Pair.ensures in (omega (arith, both), part c.requires both.1)

pub returns-then-lt : goal.returns-then-lt
returns-then-lt t c = λ i.
    let here = noted i (omega (arith, small_node i)) c.from-n.ensures c.atoms_at.ensures c.minus-new.ensures c.add_atoms.ensures in
    let both = named i c.in-Pair.ensures in
    visited_pair here (told i c.in-Pair.ensures) (c.parts-then-lt.ensures (part i (omega (arith, both)))) (c.parts-then-lt-2.ensures (part i both.1))

pub parts-requires-in-Pair : goal.parts-requires-in-Pair
parts-requires-in-Pair t c = let both = named c.requires c.in-Pair.ensures in (omega (arith, both), part c.requires both.1)

pub parts-requires-in-Pair-2 : goal.parts-requires-in-Pair-2
parts-requires-in-Pair-2 t c = let both = named c.requires c.in-Pair.ensures in (omega (arith, both), part c.requires both.0)

pub returns-in-Pair : goal.returns-in-Pair
returns-in-Pair t c = λ i.
    let here = noted i (omega (arith, small_node i)) c.from-n.ensures c.atoms_at.ensures c.minus-new.ensures c.add_atoms.ensures in
    let both = named i c.in-Pair.ensures in
    visited_pair_right here (told i c.in-Pair.ensures) (c.parts-in-Pair.ensures (part i both.1)) (c.parts-in-Pair-2.ensures (part i both.0))

pub parts-requires-in-Application : goal.parts-requires-in-Application
parts-requires-in-Application t c = let below = named c.requires c.in-Application.ensures in (omega (arith, below), part c.requires below)

pub returns-in-Application : goal.returns-in-Application
returns-in-Application t c = λ i.
    let here = noted i (omega (arith, small_node i)) c.from-n.ensures c.atoms_at.ensures c.minus-new.ensures c.add_atoms.ensures in
    let below = named i c.in-Application.ensures in
    visited_application here (told i c.in-Application.ensures) (c.parts-in-Application.ensures (part i below))

pub returns-in-Suspension : goal.returns-in-Suspension
returns-in-Suspension t c = λ i.
    let here = noted i (omega (arith, small_node i)) c.from-n.ensures c.atoms_at.ensures c.minus-new.ensures c.add_atoms.ensures in
    let there = (named i c.in-Suspension.ensures).0 in
    let bare = variable_kept _ _ _ i.bytes (i.stands.nodes _ i.few) in
    visited_suspension here (told i c.in-Suspension.ensures) bare c.come.ensures there (omega (arith, there, i.stands.readable.few_variables))
    (omega (arith, small_node i))
