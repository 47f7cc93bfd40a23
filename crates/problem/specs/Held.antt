-- How a problem that was read is held by the code: the input itself, a lent table of the fields' first eight bytes, and sets. One named relation, which
-- the reader establishes and every look-up leans on. Definitions alone.
use Rattle.std.specs.Prelude.{ℕ, ◌+◌, ◌*◌, ◌/◌, ◌<◌, ◌≡◌, Bool, true, false, ◌&&◌, ◌||◌, cond, List, [], ◌∷◌, length, get_or, drop, eqb}
use Rattle.sets.specs.Bits.{member, among}
use Rattle.field.specs.Field.{front, whole}
use Rattle.field.specs.Word.{eight, tag_in}
use Rattle.problem.specs.Problem.{form_at, Equal, Fresh, Assumed, Problem}
use Rattle.problem.specs.Reader.{Item, node, equation, freshness, Reading, read, unreadable, reading, base_tags, length_fits, item}

-- At offset o of the input stands a whole field, of a known tag and a fitting length, that says the item.
pub record ItemStands (s : List ℕ) (o : ℕ) (i : Item) : Type 0 where
  pub tag : ℕ
  pub body : List ℕ
  pub rest : List ℕ
  pub stands : front (drop o s) ≡ whole tag body rest
  pub known : base_tags tag ≡ true
  pub fits : length_fits tag (length body) ≡ true
  pub says : item tag body ≡ i

-- What is kept of a field at offset o whose first eight bytes are w: just these; of a suspension, whose swaps are read from the input, the last two are its
-- offset.
abbrev pub with_place : ℕ → ℕ → ℕ
with_place o w = w / 65536 * 65536 + o

abbrev pub kept_word : ℕ → ℕ → ℕ
kept_word o w = cond (eqb (tag_in w) 0x15) (with_place o w) w

-- A field that says the item stands in the input, and this is kept of it.
pub record ItemKept (s : List ℕ) (kept : ℕ) (i : Item) : Type 0 where
  pub place : ℕ
  pub small : place < 65536
  pub stands : ItemStands s place i
  pub word : kept ≡ kept_word place (eight (drop place s))

-- Where the table has node n, equation k and freshness field k.
abbrev pub node_word : List ℕ → ℕ → ℕ
node_word places n = get_or places n 0

abbrev pub equation_word : List ℕ → ℕ → ℕ
equation_word places k = get_or places (512 + k) 0

abbrev pub freshness_word : List ℕ → ℕ → ℕ
freshness_word places k = get_or places (576 + k) 0

-- Whether an atom is assumed fresh for a variable.
abbrev pub assumes : List Assumed → ℕ → ℕ → Bool
assumes [] a X = false
assumes (d ∷ ds) a X = (eqb d.atom a && eqb d.variable X) || assumes ds a X

-- The atoms that are assumed fresh for a variable, as the reader leaves them: a set for each.
abbrev pub assumed_for : List ℕ → ℕ → ℕ
assumed_for assumed X = get_or assumed X 0

-- What is kept of nodes, equations and freshness fields in their order; for each variable the set of atoms assumed fresh for it; the set of protected
-- variables.
pub record Held (s places assumed : List ℕ) (protected : ℕ) (p : Problem) : Type 0 where
  pub nodes : (n : ℕ) → n < length p.nodes → ItemKept s (node_word places n) (node (form_at p.nodes n))
  pub equations : (k : ℕ) (e : Equal) → k < length p.equations → ItemKept s (equation_word places k) (equation (get_or p.equations k e))
  pub freshness : (k : ℕ) (d : Fresh) → k < length p.freshness
      → ItemKept s (freshness_word places k) (freshness (get_or p.freshness k d).atom (get_or p.freshness k d).node)
  pub assumptions : (a X : ℕ) → X < p.variables → member (assumed_for assumed X) a ≡ assumes p.assumptions a X
  pub protection : (X : ℕ) → member protected X ≡ among X p.protected

-- The problem that the input is, so that contracts can name it: where the reader refuses, the one with nothing in it.
abbrev pub problem_in : Reading → Problem
problem_in (read p) = p
problem_in (unreadable n o) =
    record { atoms = 0; variables = 0; limit = 0; nodes = []; equations = []; freshness = []; assumptions = []; protected = [] }

unfoldable pub problem_of : List ℕ → Problem
problem_of s = problem_in (reading base_tags s)
