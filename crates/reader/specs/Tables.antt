-- What the reader leaves in the tables that it is lent: for every input, refused or not, and whatever stood in them before. Definitions alone.
use Rattle.std.specs.Prelude.{ℕ, zero, suc, ◌+◌, Bool, cond, List, [], ◌∷◌, ◌++◌, length, get_or, set, drop, replicate, leb, Result, Ok, Err}
use Rattle.sets.specs.Bits.{inserted}
use Rattle.field.specs.Field.{Field, cut, whole, byte, front}
use Rattle.field.specs.Word.{eight}
use Rattle.problem.specs.Problem.{Problem}
use Rattle.problem.specs.Reader.{sizes, item, fault, add, good_head, headed}
use Rattle.says.specs.Told.{said_by}
use Rattle.problem.specs.Held.{kept_word}
use Rattle.problem.specs.Look.{form_in}
use Rattle.problem.specs.Told.{counts_of}
use Rattle.variables.specs.Variables.{variables_of}
use Rattle.problem.specs.declared.Counts.{Counts}
use Rattle.says.specs.declared.Said.{Said}
use Rattle.says.specs.declared.Said.TheVariants.{Node, Equation, Freshness, Assumption, Protection}
use Rattle.numbers.specs.declared.Reason.{Reason}

-- What is kept of nodes, equations and freshness fields; for each variable the set of atoms assumed fresh for it; for each node the set of its variables.
pub record ReaderTables : Type 0 where
  pub places : List ℕ
  pub assumed : List ℕ
  pub variables : List ℕ

abbrev pub reader_tables : List ℕ → List ℕ → List ℕ → ReaderTables
reader_tables places assumed variables = record { places = places; assumed = assumed; variables = variables }

-- What is kept of a node n at offset o whose first eight bytes are w, and the set of its variables, made of those of its parts.
abbrev pub node_noted : ℕ → ℕ → ℕ → ReaderTables → ReaderTables
node_noted n w o t =
    reader_tables (set t.places n (kept_word o w)) t.assumed (set t.variables n (variables_of t.variables (form_in w)))

-- What a field at offset o says, whose first eight bytes are w, is noted behind what was counted so far: the bytes behind those of its kind, or an atom in
-- the set of a variable.
abbrev pub noted : Result Said Reason → ℕ → ℕ → Counts → ReaderTables → ReaderTables
noted (Ok Node) w o c t = node_noted c.nodes w o t
noted (Ok Equation) w o c t = reader_tables (set t.places (512 + c.equations) w) t.assumed t.variables
noted (Ok Freshness) w o c t = reader_tables (set t.places (576 + c.freshness) w) t.assumed t.variables
noted (Ok (Assumption a X)) w o c t =
    reader_tables t.places (set t.assumed X.0 (inserted 32 (get_or t.assumed X.0 0) a.0)) t.variables
noted (Ok (Protection X)) w o c t = t
noted (Err r) w o c t = t

-- A fault leaves the tables as they are.
abbrev pub stopped : ℕ → ReaderTables → ReaderTables → ReaderTables
stopped zero t u = u
stopped (suc f) t u = t

-- One field at offset o, whose first eight bytes are w, and then, by `onward`, the fields after it, as the reader reads them.
abbrev pub one_noted : (ℕ → Bool) → Problem → ℕ → ReaderTables → (Problem → ℕ → List ℕ → ReaderTables → ReaderTables) → ℕ
    → Field → ReaderTables
one_noted known p o t onward w cut = t
one_noted known p o t onward w (whole tag s rest) =
    let u : ReaderTables = onward (add p o (item tag s)) (o + (3 + length s)) rest (noted (said_by 0 (item tag s)) w o (counts_of p) t) in
    stopped (fault known (sizes p) tag s) t u

unfoldable pub noted_from : (ℕ → Bool) → ℕ → Problem → ℕ → List ℕ → ReaderTables → ReaderTables
unfolding sizes
noted_from known zero p o s t = t
noted_from known (suc k) p o [] t = t
noted_from known (suc k) p o (b ∷ s) t = one_noted known p o t (λ q i r u. noted_from known k q i r u) (eight (b ∷ s)) (front (b ∷ s))

-- A good head clears the sets of the variables that there are, and no more.
unfoldable pub sets_cleared : ℕ → ReaderTables → ReaderTables
sets_cleared variables t = reader_tables t.places (replicate variables 0 ++ drop variables t.assumed) t.variables

unfoldable pub head_noted : (ℕ → Bool) → ReaderTables → Field → ReaderTables
head_noted known t cut = t
head_noted known t (whole tag s rest) =
    let u : ReaderTables = noted_from known (length rest) (headed s) (3 + length s) rest (sets_cleared (byte s 1) t) in cond (good_head tag s) u t

unfoldable pub noted_all : (ℕ → Bool) → List ℕ → ReaderTables → ReaderTables
noted_all known [] t = t
noted_all known (b ∷ s) t = head_noted known t (front (b ∷ s))

unfoldable pub left : (ℕ → Bool) → List ℕ → ReaderTables → ReaderTables
left known s t = let u : ReaderTables = noted_all known s t in cond (leb (length s) 65535) u t
