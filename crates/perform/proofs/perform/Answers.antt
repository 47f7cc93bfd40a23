-- `perform` meets its contract: what each act leaves is what the definition's step adds.
use Prim.Native.Nat.{◌≤◌}
use mathlib.Core.Path.{◌≡◌}
use lib.ListN.{length}
use borrow.Author.Rules.{rules}
use Rattle.perform.proofs.Performing.{grown_one, grown_two, swapped_is, gone_pushed, gone_renamed, gone_same, gone_bound}
use Rattle.perform.proofs.perform.Goals as goal

-- ---- one part of each side, or two

pub returns-in-Part-clause-performed : goal.returns-in-Part-clause-performed
returns-in-Part-clause-performed c =
    let few : c.args.atoms ≤ 32 = rw c.requires.number c.requires.standing.readable.few_atoms in
    rw (c.in-Part.is, c.with.ensures) (gone_pushed c.requires.keeps (rw c.part.ensures at (grown_one c.push.ensures.pushed _ few)))

pub returns-in-Parts-clause-performed : goal.returns-in-Parts-clause-performed
returns-in-Parts-clause-performed c =
    let few : c.args.atoms ≤ 32 = rw c.requires.number c.requires.standing.readable.few_atoms in
    let below = rw c.part-in-Parts.ensures at (grown_one c.push-in-Parts.ensures.pushed _ few) in
    let above = rw c.part-in-Parts-2.ensures at (grown_one c.push-in-Parts-2.ensures.pushed _ few) in
    rw (c.in-Parts.is, c.with-in-Parts.ensures) (gone_pushed c.requires.keeps (grown_two _ _ _ _ _ _ _ _ _ _ below above))

-- ---- abstractions of two atoms

pub returns-in-Renamed-clause-performed : goal.returns-in-Renamed-clause-performed
returns-in-Renamed-clause-performed c =
    let few : c.args.atoms ≤ 32 = rw c.requires.number c.requires.standing.readable.few_atoms in
    let whole : length c.args.right.images.images ≡ 32 = search rules in
    let swapped = swapped_is _ _ _ c.args.right.images few whole c.swap_after-images.ensures in
    let pushed = rw c.part-in-Renamed.ensures at (grown_one c.push-in-Renamed.ensures.pushed _ few) in
    rw (c.in-Renamed.is, c.with-in-Renamed.ensures) (gone_renamed c.requires.keeps _ (rw swapped at pushed) c.raise_side.ensures.raised)

-- ---- suspensions of one variable

pub returns-in-Same-clause-performed : goal.returns-in-Same-clause-performed
returns-in-Same-clause-performed c =
    rw c.in-Same.is (gone_same c.requires.keeps _ _ _ c.same_variable.ensures.raised c.requires.standing.readable.few_nodes)

-- ---- a binding

pub returns-in-BindLeft-clause-performed : goal.returns-in-BindLeft-clause-performed
returns-in-BindLeft-clause-performed c =
    rw c.in-BindLeft.is (gone_bound (rw c.requires.number c.requires.standing.readable.few_atoms) c.bind.ensures.bound)

pub returns-in-BindRight-clause-performed : goal.returns-in-BindRight-clause-performed
returns-in-BindRight-clause-performed c =
    rw c.in-BindRight.is (gone_bound (rw c.requires.number c.requires.standing.readable.few_atoms) c.bind-in-BindRight.ensures.bound)
