-- `through` meets its contract: a node leads to itself, or to the node of the value of the variable that it suspends.
use Rattle.quick.proofs.Leading.{bare_form, leads_itself, leads_on}
use mathlib.Core.Path.{◌≡◌}
use mathlib.Core.Bool.{true}
use Rattle.sets.specs.Bits.{member}
use Rattle.quick.proofs.through.Goals as goal

pub returns-in-Some : goal.returns-in-Some
returns-in-Some c =
    let is_bound : member c.args.bound.0 c.in-Some.x.0 ≡ true = cc in
    let plain : c.is_plain.result ≡ true = cc in
    leads_on _ _ _ _ _ _ (bare_form _ _ c.in-Some.ensures) is_bound (c.is_plain.ensures plain _ c.requires.0.readable.few_atoms) c.node_of.ensures

pub returns-in_default-2 : goal.returns-in_default-2
returns-in_default-2 c = leads_itself

pub returns-in_default-3 : goal.returns-in_default-3
returns-in_default-3 c = leads_itself
