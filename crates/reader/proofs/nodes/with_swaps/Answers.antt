-- Tag, length and end of the field are in order; what is left are its swaps, which are those bytes that are looked at.
use Rattle.std.proofs.Common.{◌≡◌, ◌+◌, ◌-◌, ◌%◌, ◌≤◌, ℕ, Bool, List, length, take, drop, sym, arith}
use borrow.Author.Tests.{eq-eqb, le-leb}
use Rattle.reader.specs.Found.{swaps_good}
use Rattle.says.specs.Told.{below}
use Rattle.reader.proofs.nodes.with_swaps.Goals as goal

swaps_looked : (atoms n : ℕ) (t : List ℕ) (looked : Bool) → n % 2 ≡ 1 → n ≤ 65 → 3 + n ≤ length t
    → looked ≡ below atoms (take (3 + n - 4) (drop 4 t)) → swaps_good atoms t n ≡ looked
swaps_looked atoms n t looked odd few whole e =
    let q : 3 + n - 4 ≡ n - 1 = omega arith in rw (eq-eqb (n % 2) 1 odd, le-leb n 65 few, le-leb (3 + n) (length t) whole, ← q) (sym e)

pub returns-then-not-all_below : goal.returns-then-not-all_below
returns-then-not-all_below c =
    let e = swaps_looked c.args.atoms c.length-n.result c.args.rest.now.bytes.now _ c.if-n-ne1.false c.if-n-gt65.false c.if-rest-n.false c.all_below.ensures in
    rw (← c.length-n.ensures.0, e, c.if-not-all_below.true)

pub returns : goal.returns
returns c =
    let e = swaps_looked c.args.atoms c.length-n.result c.args.rest.now.bytes.now _ c.if-n-ne1.false c.if-n-gt65.false c.if-rest-n.false c.all_below.ensures in
    rw (← c.length-n.ensures.0, e, c.if-not-all_below.false)
