-- The demands that were resolved decide, and then what is assumed.
use Rattle.std.proofs.Common.{◌∙◌, arith}
use Rattle.problem.proofs.Counted.{all_variables}
use Rattle.ending.proofs.Resolving.{bound_in, few_variables}
use Rattle.ending.proofs.Deciding.{judge_not_fresh, judge_holds, judge_does_not}
use Rattle.ending.proofs.judged.Goals as goal

pub resolve-requires-clause-bound : goal.resolve-requires-clause-bound
resolve-requires-clause-bound c = let (_, _, ended) = c.requires.ended in bound_in ended.meant

pub returns-then-resolve : goal.returns-then-resolve
returns-then-resolve c = λ count steps ended.
    let outcome = c.resolve.ensures count ended.meant _ ended.asks in
    judge_not_fresh c.requires.read.standing.readable ended outcome c.if-resolve.true c.refuse.ensures

pub all_assumed-requires : goal.all_assumed-requires
all_assumed-requires c = omega (arith, few_variables c.requires.read)

pub returns-then-all_assumed : goal.returns-then-all_assumed
returns-then-all_assumed c = λ count steps ended.
    let read = c.requires.read in
    let outcome = c.resolve.ensures count ended.meant _ ended.asks in
    judge_holds read.standing.readable ended outcome c.if-resolve.false c.words.ensures.1 c.args.assumed.now read.assumptions
    (c.from.ensures ∙ all_variables _ read.counts) c.all_assumed.ensures c.if-all_assumed.true

pub returns : goal.returns
returns c = λ count steps ended.
    let read = c.requires.read in
    let outcome = c.resolve.ensures count ended.meant _ ended.asks in
    judge_does_not read.standing.readable ended outcome c.if-resolve.false c.words.ensures.1 c.args.assumed.now read.assumptions
    (c.from.ensures ∙ all_variables _ read.counts) c.all_assumed.ensures c.if-all_assumed.false c.refuse-2.ensures
