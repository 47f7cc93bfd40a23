use Rattle.std.specs.Prelude.{◌≡◌}
use Rattle.problem.specs.Held.{problem_of}
use Rattle.stack.specs.Stack.{stack_tables}
use Rattle.stack.proofs.Laws.{Starting}
use Rattle.stack.proofs.Stack.start.Given as goal

-- After n turns the last n equations are pushed, to the tables that were lent.
abbrev pub invariant-loop-n : goal.invariant-loop-n
invariant-loop-n l =
    Starting (problem_of l.input.bytes.now).equations (stack_tables l.fn.self.heads.now l.fn.self.images.now) l.count l.n
    (stack_tables l.self.heads.now l.self.images.now)
    × (l.self.heads.ghost_name ≡ l.fn.self.heads.ghost_name) × (l.self.images.ghost_name ≡ l.fn.self.images.ghost_name)
