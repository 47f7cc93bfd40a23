use Rattle.std.proofs.Common.{◌≡◌, ◌<◌, ◌^◌, ◌+◌, ◌∙◌, arith, rules, refl, [], length, get_or, ap, ℕ}
use Rattle.sets.specs.Bits.{members}
use Rattle.demands.specs.Demands.{sheet, marked_all}
use Rattle.demands.proofs.Laws.{row_there, marked_all_row, variable_raised}
use Rattle.demands.proofs.Demands.raise_variable.Goals as goal

pub returns-clause-raised : goal.returns-clause-raised
returns-clause-raised c =
    let a = c.args in
    let asked = a.self.now.asked.now in
    let firsts = a.self.now.firsts.now in
    let i : ℕ = c.from-i.result in
    let atoms = members 32 a.atoms.0 in
    let fits : a.atoms.0 < 2 ^ 32 = search rules in
    let long : length (get_or asked 1 []) ≡ 512 = omega arith in
    let numbers : length (get_or firsts (512 + i) []) ≡ 32 = omega arith in
    let there = row_there 1 i (sheet asked firsts) (omega (arith, c.requires)) long numbers in
    variable_raised a.atoms.0 a.x.0 a.number (sheet asked firsts) _ fits (rw c.from-i.ensures at there)
    (marked_all_row 1 i a.number atoms (512 + i) asked firsts _ _ refl c.mark_all.ensures
    ∙ ap (λ (x : ℕ). marked_all 1 x a.number atoms (sheet asked firsts)) c.from-i.ensures)
