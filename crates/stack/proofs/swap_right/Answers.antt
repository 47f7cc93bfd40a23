use Rattle.std.proofs.Common.{◌≡◌, ◌<◌, arith, List, [], ℕ, length, get_or}
use Rattle.std.proofs.Math.Seq.{get_or-set_same, get_or-set_other}
use Rattle.stack.proofs.InPlace.{right_swapped}
use Rattle.stack.proofs.swap_right.Goals as goal

pub returns : goal.returns
returns c =
    let a = c.args in
    let images = a.images.now in
    let pair : List (List ℕ) = get_or images a.n [] in
    let there : a.n < length images = omega (arith, c.requires) in
    let two : length pair ≡ 2 = omega arith in
    right_swapped _ _ _ _ _ there (get_or-set_other pair 1 0 c.swap_after.new.row [] (λ e. omega arith))
    (rw (get_or-set_same pair 1 c.swap_after.new.row [] (omega arith)) c.swap_after.ensures)
