-- `reaches` looks through each bound variable that is reached, once.
use Prim.Native.Nat.{◌^◌, ◌<◌}
use borrow.Author.Rules.{rules}
use mathlib.Core.Path.{◌≡◌, sym, ◌∙◌, ap}
use mathlib.Core.Bool.{false}
use lib.Dec.{eqb}
use lib.ListN.{get_or}
use Rattle.occurs.proofs.Sets.{looking_none, looking_more, looking_all, unseen_small, unseen_bound, unseen_less}
use Rattle.occurs.proofs.Known.reaches.Goals as goal

pub loop-waiting-init : goal.loop-waiting-init
loop-waiting-init c = looking_none c.args.self.now.node_variables.now

pub returns-then-is_empty : goal.returns-then-is_empty
returns-then-is_empty c =
    rw (← c.of_node-reach.ensures)
    (looking_all c.args.self.now.node_variables.now c.loop-waiting.invariant _ c.intersection-unseen.ensures (sym c.is_empty.ensures ∙ c.if-is_empty.true))

-- ---- where a variable is reached that was not looked through

pub node_of-value-requires : goal.node_of-value-requires
node_of-value-requires c =
    let some_unseen : eqb c.intersection-unseen.result.0 0 ≡ false = sym c.is_empty.ensures ∙ c.if-is_empty.false in
    let few : c.intersection-unseen.result.0 < 2 ^ 64 = search rules in
    unseen_small c.args.self.now.node_variables.now c.loop-waiting.invariant _ _ few c.intersection-unseen.ensures some_unseen c.lowest-x.ensures

pub of_node-found-requires : goal.of_node-found-requires
of_node-found-requires c =
    let some_unseen : eqb c.intersection-unseen.result.0 0 ≡ false = sym c.is_empty.ensures ∙ c.if-is_empty.false in
    let few : c.intersection-unseen.result.0 < 2 ^ 64 = search rules in
    let sets = c.args.self.now.node_variables.now in
    let is_bound = unseen_bound sets c.loop-waiting.invariant _ _ few c.intersection-unseen.ensures some_unseen c.lowest-x.ensures in
    rw c.node_of-value.ensures (c.args.self.now.there c.lowest-x.result.0 is_bound)

pub loop-waiting-smaller : goal.loop-waiting-smaller
loop-waiting-smaller c =
    let some_unseen : eqb c.intersection-unseen.result.0 0 ≡ false = sym c.is_empty.ensures ∙ c.if-is_empty.false in
    let few : c.intersection-unseen.result.0 < 2 ^ 64 = search rules in
    rw c.without-waiting.ensures
    (unseen_less c.args.self.now.node_variables.now c.loop-waiting.invariant _ _ few c.intersection-unseen.ensures some_unseen c.lowest-x.ensures)

pub loop-waiting-preserved : goal.loop-waiting-preserved
loop-waiting-preserved c =
    let sets = c.args.self.now.node_variables.now in
    let some_unseen : eqb c.intersection-unseen.result.0 0 ≡ false = sym c.is_empty.ensures ∙ c.if-is_empty.false in
    let few : c.intersection-unseen.result.0 < 2 ^ 64 = search rules in
    let is_behind = c.of_node-found.ensures ∙ ap (λ n. get_or sets n 0) c.node_of-value.ensures in
    rw (c.without-waiting.ensures, c.union-reach.ensures)
    (looking_more sets c.loop-waiting.invariant _ _ few c.intersection-unseen.ensures some_unseen c.lowest-x.ensures _ is_behind)
