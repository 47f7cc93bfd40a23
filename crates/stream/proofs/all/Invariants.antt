-- `stream::all` goes on only after a writing that was whole: so far every problem's block was written, and nothing else; and the tables
-- are those still that were lent.
use Rattle.solver.specs.Lent.{SameLent}
use Rattle.stream.proofs.Writings.{Blocks}
use Rattle.stream.proofs.all.Given as goal

abbrev pub invariant-loop-count : goal.invariant-loop-count
invariant-loop-count g l = Blocks (g.W.Write.contents l.fn.ports.to) (g.W.Write.contents l.ports.to) l.count × SameLent l.fn.tables l.tables
