-- The bytes end there, or the field is cut, or its fault is told.
use Rattle.std.proofs.Common.{◌≡◌, ◌⊎◌, ⊎_elim, ℕ, List, take, drop, sym, ap, ◌∙◌}
use Rattle.std.proofs.Common as std
use Rattle.field.specs.Field.{front}
use Rattle.field.specs.Front.{front_of}
use Rattle.field.specs.declared.AtFront.TheVariants.{Whole, Cut, End}
use Rattle.field.proofs.Told.{at_end, at_cut, at_whole}
use Rattle.numbers.specs.declared.Reason.{Reason}
use Rattle.numbers.specs.Numbers.{given_of}
use Rattle.problem.specs.Reader.{Sizes}
use Rattle.says.specs.Told.{said_of, fault_by}
use Rattle.says.specs.declared.Said.{Said}
use Rattle.says.proofs.Saying.{fault_said}
use Rattle.reader.specs.Found.{refusal_at}
use Rattle.reader.proofs.refusal.Goals as goal

module _ (z : Sizes) (at : ℕ) (s : List ℕ) where
  is_cut : (front_of s ≡ End) ⊎ (front_of s ≡ Cut) → record { number = 3; place = at } ≡ refusal_at z at s
  unfolding refusal_at front
  is_cut = ⊎_elim (λ e. rw (at_end s e)) (λ e. rw (at_cut s e).the_front)

  -- What the field says, said with its fault's number.
  is_whole : (tag n : ℕ) (said : std.Result Said Reason) → front_of s ≡ Whole tag n → said ≡ said_of z tag (take n (drop 3 s))
      → record { number = fault_by said; place = at } ≡ refusal_at z at s
  unfolding refusal_at
  is_whole tag n said e h =
      rw ((at_whole s tag n e).0.the_front, ap fault_by h ∙ fault_said z tag (take n (drop 3 s)))

pub body-requires : goal.body-requires
body-requires c = (at_whole _ c.in-Whole.tag c.in-Whole.n (sym c.in-Whole.ensures)).1

pub returns-in-End : goal.returns-in-End
returns-in-End c = rw c.refuse.ensures (is_cut _ _ _ (rw c.front.ensures at c.in-End.is))

pub returns-in-Ok : goal.returns-in-Ok
returns-in-Ok c =
    ap (λ k. record { number = fault_by k; place = c.args.rest.now.place }) (sym c.in-Ok.is)
    ∙ is_whole _ _ _ c.in-Whole.tag c.in-Whole.n _ (sym c.in-Whole.ensures) (rw c.body.ensures at c.field_says.ensures)

pub returns-in-Err : goal.returns-in-Err
returns-in-Err c =
    ap given_of c.refuse-in-Err.ensures
    ∙ ap (λ k. record { number = fault_by k; place = c.args.rest.now.place }) (sym c.in-Err.is)
    ∙ is_whole _ _ _ c.in-Whole.tag c.in-Whole.n _ (sym c.in-Whole.ensures) (rw c.body.ensures at c.field_says.ensures)
