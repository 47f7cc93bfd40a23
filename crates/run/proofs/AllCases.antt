-- Every case of document 01's table holds, by computing it: one theorem. By its name this file is checked before what is proved of the run in general,
-- so that a wrong definition shows at the case that it breaks.
use mathlib.Core.Path.{refl}
use Rattle.permutation.specs.Swaps.{swapped}
use Rattle.permutation.specs.Table.{after, inverted, of_swaps, swapped_after, disagreement, swaps_of}
use Rattle.field.specs.Field.{bodied, front, bytes2, bytes4, field_bytes}
use Rattle.problem.specs.Reader.{base_tags, length_fits, item, room, there, add, fault, fields_from, good_head, headed, head_field, read_all, reading}
use Rattle.nominal.specs.Tree.{replacing}
use Rattle.nominal.specs.Solutions.{Every}
use Rattle.run.specs.Meaning.{tree, side_tree, meaning_after, meaning}
use Rattle.run.specs.Run.{top, resolved_in, resolved, bound, one_variable, two_variables, abstractions, step, run, run_of}
use Rattle.run.specs.Answer.{resolved_all, facts, binding_bytes, fact_bytes, answer_bytes, verdict_of, verdict_read, written, given, solve, judged_run}
use Rattle.run.specs.Answer.{judgement_of, judgement_read, judge}
use Rattle.run.specs.Table.{cases, CaseHolds}

pub cases_hold : Every CaseHolds cases
unfolding swapped after inverted of_swaps swapped_after disagreement swaps_of bodied front bytes2 bytes4 field_bytes base_tags length_fits item room there
    add fault fields_from good_head headed head_field read_all reading tree side_tree replacing meaning_after meaning top resolved_in resolved bound
    one_variable two_variables abstractions step run run_of resolved_all facts binding_bytes fact_bytes answer_bytes verdict_of verdict_read written given
    solve judged_run judgement_of judgement_read judge cases
cases_hold = (
  refl,
  (
    refl,
    (
      refl,
      (
        refl,
        (
          refl,
          (
            refl,
            (
              refl,
              (
                refl,
                (
                  refl,
                  (
                    refl,
                    (
                      refl,
                      (
                        refl,
                        (
                          refl,
                          (
                            refl,
                            (
                              refl,
                              (refl, (refl, (refl, (refl, (refl, (refl, tt)))))),
                            ),
                          ),
                        ),
                      ),
                    ),
                  ),
                ),
              ),
            ),
          ),
        ),
      ),
    ),
  ),
)
