-- `resolve` meets its contract: each turn of the loop is one replacement of the definition.
use Prim.Native.Nat.{◌+◌, ◌-◌, ◌≤◌}
use native.Mathlib.Omega.{arith}
use borrow.Author.Rules.{rules}
use mathlib.Core.Path.{◌≡◌, refl}
use lib.ListN.{length}
use Rattle.side.proofs.Resolving.{finish_none, finish_free, kept_more}
use Rattle.side.proofs.resolve.Goals as goal

pub returns-in_default : goal.returns-in_default
returns-in_default c = finish_free c.loop-done.invariant (rw c.requires.1 c.requires.0.readable.few_atoms) c.in_default.ensures

pub returns : goal.returns
returns c = finish_none c.loop-done.invariant (omega arith)

pub of-side-requires-in-loop-done : goal.of-side-requires-in-loop-done
of-side-requires-in-loop-done c = c.requires.0.nodes _ (c.in-Some.ensures.there _ c.requires.3 _ refl)

pub loop-done-preserved : goal.loop-done-preserved
loop-done-preserved c =
    let few : c.args.atoms ≤ 32 = rw c.requires.1 c.requires.0.readable.few_atoms in
    let long : length c.in-Some.value.images.images ≡ 32 = search rules in
    let one_more : c.args.count - c.loop-done._done ≡ c.args.count - (c.loop-done._done + 1) + 1 = omega arith in
    kept_more c.loop-done.invariant c.whole-outer.result c.compose-inner.result c.requires.1 few c.in-Some.ensures one_more long c.requires.3
    c.whole-outer.ensures c.compose-inner.ensures c.of-side-in-loop-done.ensures
