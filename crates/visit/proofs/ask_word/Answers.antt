use Rattle.std.proofs.Common.{◌≡◌, ◌-◌, bit_and, arith}
use Rattle.sets.specs.Bits.{removed, lowest}
use Rattle.sets.proofs.Bits.{and_pred, lowest_member, count_removed_lt}
use Rattle.visit.proofs.Waiting.{first_in, first_or_rest, rest_in, none_in_word}
use Rattle.visit.proofs.Asking.{asked_none, asked_more}
use Rattle.visit.proofs.Told.{first_there}
use Rattle.visit.proofs.ask_word.Goals as goal

pub overflow_mul-n : goal.overflow_mul-n
overflow_mul-n c =
    let word = c.args.word in
    omega (arith, first_there c.args.i word c.loop-rest.rest c.requires.there.0 c.requires.there.1 c.loop-rest.invariant.within (omega arith) (omega arith))

pub overflow_add-n : goal.overflow_add-n
unfolding lowest
overflow_add-n c =
    let word = c.args.word in
    omega (arith, first_there c.args.i word c.loop-rest.rest c.requires.there.0 c.requires.there.1 c.loop-rest.invariant.within (omega arith) (omega arith))

pub overflow_cast-n-in-loop-rest : goal.overflow_cast-n-in-loop-rest
unfolding lowest
overflow_cast-n-in-loop-rest c =
    let word = c.args.word in
    omega (arith, first_there c.args.i word c.loop-rest.rest c.requires.there.0 c.requires.there.1 c.loop-rest.invariant.within (omega arith) (omega arith))

pub ask_at-requires-clause-there : goal.ask_at-requires-clause-there
unfolding lowest
ask_at-requires-clause-there c =
    let word = c.args.word in
    let first = first_there c.args.i word c.loop-rest.rest c.requires.there.0 c.requires.there.1 c.loop-rest.invariant.within (omega arith) (omega arith) in
    (c.requires.there.0, first.suspended)

pub loop-rest-smaller : goal.loop-rest-smaller
loop-rest-smaller c =
    let left = c.loop-rest.rest in
    rw (and_pred 64 left (omega arith) (omega arith))
    (count_removed_lt left (lowest 64 left) (lowest_member 64 left (omega arith) (omega arith)))

pub loop-rest-preserved : goal.loop-rest-preserved
unfolding lowest
loop-rest-preserved c =
    let i = c.args.i in
    let left = c.loop-rest.rest in
    let is_rest : bit_and left (left - 1) ≡ removed left (lowest 64 left) = and_pred 64 left (omega arith) (omega arith) in
    record {
      within = λ n k. c.loop-rest.invariant.within n (rest_in i left (omega arith) (omega arith) n (rw is_rest at k));
      completes = λ variables k.
          c.loop-rest.invariant.completes variables
          (asked_more (λ n q. rw q (first_in i left (omega arith) (omega arith))) (rest_in i left (omega arith) (omega arith))
          (first_or_rest i left (omega arith) (omega arith)) c.ask_at.ensures (rw is_rest at k));
    }

pub returns : goal.returns
returns c =
    let none_left : c.loop-rest.rest ≡ 0 = omega arith in
    c.loop-rest.invariant.completes _ (asked_none (λ n k. none_in_word _ n (rw none_left at k)))
