-- The node is a suspension, and `ask` does the rest.
use Rattle.std.proofs.Common.{ℕ, get_or, ap, sym, ◌∙◌, subst, arith}
use Rattle.permutation.specs.Swaps.{act}
use Rattle.problem.specs.Look.{Suspended, form_now, own_swaps}
use Rattle.visit.specs.Visited.{added, sent_into}
use Rattle.visit.proofs.Asking.{asked_one}
use Rattle.visit.proofs.Told.{told_suspension}
use Rattle.visit.proofs.ask_at.Goals as goal

pub ask-requires : goal.ask-requires
ask-requires c =
    let t = told_suspension c.args.node.0 c.requires.there.0 c.in-Suspension.ensures in (
      c.requires.there.0.nodes _ c.requires.there.1.few,
      subst Suspended (sym t.form) tt,
      t.names,
      omega (arith, t.few, c.requires.long.1),
    )

pub returns : goal.returns
returns c =
    let t = told_suspension c.args.node.0 c.requires.there.0 c.in-Suspension.ensures in
    let own = own_swaps (form_now c.args.input.now.bytes.now c.args.node.0) in
    let read = c.atoms_at-atoms.ensures ∙ ap (λ (k : ℕ). get_or c.args.seen.now k 0) c.from.ensures in
    asked_one (record {
      form = t.form;
      few = c.requires.there.1.few;
      small = omega (arith, read);
      names = t.names;
      few_variables = t.there;
      in_variables = omega (arith, t.few, c.requires.long.1);
      is_variables = c.ask.ensures ∙ ap (λ (w : ℕ). added c.args.on_variables.now c.in-Suspension.x.0 (sent_into 32 (act own) w)) read;
    })
