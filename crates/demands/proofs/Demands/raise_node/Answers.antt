use Rattle.std.proofs.Common.{◌≡◌, ◌∙◌, arith, [], length, get_or, ap, ℕ}
use Rattle.demands.specs.Demands.{sheet, row_of, marked}
use Rattle.demands.proofs.Laws.{row_there, marked_row, node_raised}
use Rattle.demands.proofs.Demands.raise_node.Goals as goal

pub returns-clause-raised : goal.returns-clause-raised
returns-clause-raised c =
    let a = c.args in
    let asked = a.self.now.asked.now in
    let firsts = a.self.now.firsts.now in
    let i : ℕ = c.from-i.result in
    let here : row_of 0 i ≡ i = omega arith in
    let long : length (get_or asked 0 []) ≡ 512 = omega arith in
    let numbers : length (get_or firsts i []) ≡ 32 = omega arith in
    let there = row_there 0 i (sheet asked firsts) (omega (arith, c.requires.1)) long (rw here numbers) in
    node_raised a.b.0 a.node.0 a.number (sheet asked firsts) _ c.requires.0 c.requires.1 (rw c.from-i.ensures at there)
    (marked_row 0 i a.number a.b.0 i asked firsts _ _ here c.mark.ensures ∙ ap (λ (n : ℕ). marked 0 n a.number a.b.0 (sheet asked firsts)) c.from-i.ensures)
