-- The reader's way through the fields: what stays true from field to field. Definitions alone.
use Rattle.std.specs.Prelude.{ℕ, ◌≤◌, ◌≡◌, None, List, length, drop}
use Rattle.field.specs.Word.{eight}
use Rattle.problem.specs.Problem.{Problem}
use Rattle.problem.specs.Reader.{base_tags}
use Rattle.problem.specs.Readable.{Readable}
use Rattle.problem.specs.Told.{counts_of}
use Rattle.problem.specs.declared.Counts.{Counts}
use Rattle.reader.specs.Tables.{ReaderTables, reader_tables}
use Rattle.reader.specs.Noting.{started_by}
use Rattle.reader.specs.Told.{HeldIn, read_on, note_on}
use Rattle.reader.specs.Found.{sized_by, with_nodes, node_size}
use Rattle.reader.specs.declared.nodes.Reached.{Reached}

-- At offset o of the input s: some problem is what has been read so far, the counts are its counts, reading on from here gives what reading from the head
-- on gives, and the tables hold the problem.
pub record Onward (s : List ℕ) (head : Counts) (start : ReaderTables) (o : ℕ) (c : Counts) (t : ReaderTables) : Type 0 where
  pub problem : Problem
  pub counts : c ≡ counts_of problem
  pub readable : Readable problem
  pub inside : o ≤ length s
  pub short : length s ≤ 65535
  pub same_reading : read_on base_tags (started_by head) 9 (drop 9 s) ≡ read_on base_tags problem o (drop o s)
  pub same_tables : note_on base_tags (started_by head) 9 (drop 9 s) start ≡ note_on base_tags problem o (drop o s) t
  pub holds : HeldIn s start (started_by head) → HeldIn s t problem

-- What nodes one after the other come to: whatever was true before them is true after them, whatever the table holds that is not in hand.
pub record NodesPassed (s : List ℕ) (o : ℕ) (c : Counts) (places variables : List ℕ) (o' n : ℕ) (places' variables' : List ℕ) : Type 0 where
  pub forward : o ≤ o'
  pub inside : o' ≤ length s
  pub onward : (head : Counts) (start : ReaderTables) (assumed : List ℕ) → Onward s head start o c (reader_tables places assumed variables)
      → Onward s head start o' (with_nodes c n) (reader_tables places' assumed variables')

-- The nodes from offset o on, as far as they come without a fault.
pub record NodesRead (s : List ℕ) (o : ℕ) (c : Counts) (places variables : List ℕ) (r : Reached) (places' variables' : List ℕ) : Type 0 where
  pub passed : NodesPassed s o c places variables r.place r.nodes places' variables'
  pub stopped : node_size (sized_by (with_nodes c r.nodes)) (drop r.place s) ≡ None
  pub word : r.word ≡ eight (drop r.place s)

-- The input is no longer than an input may be, and the offset is in it.
pub record NodesAsked (s : List ℕ) (o : ℕ) : Type 0 where
  pub short : length s ≤ 65535
  pub inside : o ≤ length s
