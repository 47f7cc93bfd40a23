-- The last four bytes are put behind the first four.
use Rattle.field.proofs.Words.{few_joined}
use Rattle.field.proofs.word.few.Goals as goal

pub returns : goal.returns
returns c =
    rw (c.from-high.ensures, c.from.ensures, c.four.ensures, c.four-2.ensures) (few_joined c.args.s.now (λ k. (c.type_inv.s k).fits) c.requires.0 c.requires.1)
