-- What is printed of what the solver and the judge gave back is the block, where they gave back what the definitions say.
use Rattle.std.proofs.Common.{ℕ, List, ◌≡◌, ◌∙◌, Result}
use Rattle.numbers.specs.declared.Given.{Given}
use Rattle.numbers.specs.declared.Refusal.{Refusal}
use Rattle.numbers.specs.Numbers.{solver_gives, judge_gives, result_of, judgement_given}
use Rattle.run.specs.Answer as run
use Rattle.block.specs.Block.{lines_of, lines_given, block}

pub block_printed :
    (problem output : List ℕ) {text after : List ℕ} {solved judged : Given} (s : Result ℕ Refusal) (j : Result Unit Refusal) →
    result_of s after ≡ run.solve problem output → judgement_given j ≡ run.judge problem → solved ≡ solver_gives s → judged ≡ judge_gives j →
    text ≡ lines_given solved after judged → text ≡ block problem output
unfolding block
block_printed problem output {text} {after} {solved} {judged} s j e f g h t =
    let same : lines_given solved after judged ≡ lines_of (result_of s after) (judgement_given j) = rw (g, h) in t ∙ same ∙ cc
