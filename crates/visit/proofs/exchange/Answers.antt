-- By which of the two atoms are in the set.
use Rattle.std.proofs.Common.{true, false, arith, sym, ◌∙◌, ap, ℕ}
use Rattle.sets.specs.Bits.{inserted}
use Rattle.visit.proofs.Sent.{exchanged_same, exchanged_left, exchanged_right}
use Rattle.visit.proofs.exchange.Goals as goal

pub returns-then-has-2 : goal.returns-then-has-2
returns-then-has-2 c =
    exchanged_same c.args.atoms.0 c.args.a.0 c.args.b.0 true (omega arith) (sym c.has.ensures ∙ c.if-has.true)
    (sym c.has-then-has.ensures ∙ c.if-has-2.true)

pub returns-then-has : goal.returns-then-has
returns-then-has c =
    c.with.ensures ∙ ap (λ (w : ℕ). inserted 32 w c.args.b.0) c.without.ensures
    ∙ exchanged_left c.args.atoms.0 c.args.a.0 c.args.b.0 (omega arith) c.requires.1 (sym c.has.ensures ∙ c.if-has.true)
    (sym c.has-then-has.ensures ∙ c.if-has-2.false)

pub returns-then-has-3 : goal.returns-then-has-3
returns-then-has-3 c =
    c.with-then-has-3.ensures ∙ ap (λ (w : ℕ). inserted 32 w c.args.a.0) c.without-then-has-3.ensures
    ∙ exchanged_right c.args.atoms.0 c.args.b.0 c.args.a.0 (omega arith) c.requires.0 (sym c.has-2.ensures ∙ c.if-has-3.true)
    (sym c.has.ensures ∙ c.if-has.false)

pub returns : goal.returns
returns c =
    exchanged_same c.args.atoms.0 c.args.a.0 c.args.b.0 false (omega arith) (sym c.has.ensures ∙ c.if-has.false)
    (sym c.has-2.ensures ∙ c.if-has-3.false)
