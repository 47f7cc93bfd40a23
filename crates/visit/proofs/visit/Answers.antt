-- The parts are visited, and then what waits is asked. The input is one whose table this is.
use Rattle.std.proofs.Common.{List, ℕ, ◌<◌, length}
use Rattle.field.specs.Field.{Bytes}
use Rattle.problem.specs.Held.{problem_of}
use Rattle.problem.specs.Look.{Standing}
use Rattle.visit.specs.Parts.{InTable}
use Rattle.visit.proofs.Waiting.{none_in_zeros}
use Rattle.visit.proofs.Growth.{late_suspended, visited_all}
use Rattle.visit.proofs.visit.Goals as goal

abbrev this : {s places : List ℕ} {n : ℕ} → Bytes s → Standing s places → n < length (problem_of s).nodes → InTable places n
this {s} {places} {n} bytes stands few = record { input = s; bytes = bytes; stands = stands; few = few }

pub ask_late-requires-clause-there : goal.ask_late-requires-clause-there
ask_late-requires-clause-there c =
    let at_node = this c.args.input.now.are_bytes c.requires.there.0 c.requires.there.1 in
    (c.requires.there.0, late_suspended (none_in_zeros 8) (c.parts.ensures at_node))

pub returns : goal.returns
returns c =
    let at_node = this c.args.input.now.are_bytes c.requires.there.0 c.requires.there.1 in
    visited_all c.requires.settled (none_in_zeros 8) (c.parts.ensures at_node) c.ask_late.ensures
