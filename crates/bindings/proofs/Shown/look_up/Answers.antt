use Rattle.std.proofs.Common.{◌≡◌, ◌<◌, ◌^◌, sym, ◌∙◌, rules, length}
use Rattle.sets.proofs.Bits.{member_within}
use Rattle.bindings.specs.Bindings.{binding_tables}
use Rattle.bindings.proofs.Laws.{looked_up_bound, looked_up_unbound}
use Rattle.bindings.proofs.Shown.look_up.Goals as goal

pub returns-then-not-has : goal.returns-then-not-has
returns-then-not-has c =
    let a = c.args in
    looked_up_unbound (binding_tables a.self.now.made.now a.self.now.values.now) a.bound.0 a.x.0 (sym c.has.ensures ∙ c.if-not-has.true)

-- A bound variable is one of the 64.
pub bounds-values-from : goal.bounds-values-from
bounds-values-from c =
    let word : c.args.bound.0 < 2 ^ 64 = search rules in
    rw c.from.ensures (member_within 64 c.args.bound.0 c.args.x.0 word (sym c.has.ensures ∙ c.if-not-has.false))

pub node_of-node-requires : goal.node_of-node-requires
node_of-node-requires c =
    let word : c.args.bound.0 < 2 ^ 64 = search rules in
    member_within 64 c.args.bound.0 c.args.x.0 word (sym c.has.ensures ∙ c.if-not-has.false)

pub returns : goal.returns
returns c =
    let a = c.args in
    let whole : length c.load-images.result.images ≡ 32 = search rules in
    looked_up_bound (binding_tables a.self.now.made.now a.self.now.values.now) a.bound.0 a.x.0 _ (sym c.has.ensures ∙ c.if-not-has.false)
    (rw (c.load-images.ensures, c.node_of-node.ensures, c.from.ensures)) whole
