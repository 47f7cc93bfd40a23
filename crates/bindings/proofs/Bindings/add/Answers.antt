use Rattle.std.proofs.Common.{◌≡◌, ℕ, rules, arith, List, [], length, get_or}
use Rattle.std.proofs.Math.ListN.{set}
use Rattle.bindings.specs.Bindings.{binding_tables, put_in, with_binding}
use Rattle.bindings.proofs.Laws.{keeps_room, room, added}
use Rattle.bindings.proofs.Bindings.add.Goals as goal

-- Each column was seen to have its place where it was about to be written.
pub returns-clause-added : goal.returns-clause-added
unfolding with_binding put_in
returns-clause-added c =
    let a = c.args in
    let made = a.self.now.made.now in
    let few = keeps_room _ _ _ c.requires.0 a.x.0 c.requires.2 c.requires.1 in
    let ordered : List (List ℕ) = set made 0 (set (get_or made 0 []) a.k c.from.result) in
    let rooted : List (List ℕ) = set ordered 1 (set (get_or ordered 1 []) c.from-i.result a.value.node.0) in
    let order_length : length (get_or made 0 []) ≡ 64 = omega arith in
    let nodes_length : length (get_or ordered 1 []) ≡ 64 = omega arith in
    let numbers_length : length (get_or rooted 2 []) ≡ 64 = omega arith in
    let values_length : length a.self.now.values.now ≡ 64 = omega arith in
    let whole : length a.value.images.images ≡ 32 = search rules in
    let has_place = room a.k a.x.0 made _ _ a.self.now.values.now few c.requires.2 order_length nodes_length numbers_length values_length in
    added a.k a.x.0 a.value a.number (binding_tables made a.self.now.values.now) has_place whole a.bound.0 c.requires.0 c.requires.1 c.requires.2 _ _
    (rw (c.from.ensures, c.from-i.ensures, c.from-2.ensures, c.keep.ensures)) c.with.ensures
