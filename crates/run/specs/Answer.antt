-- Document 01: what is resolved when no equation is left, the answer in bytes, the solver and the judge, from bytes to number, place and the lent
-- output's final content. Definitions alone, in the document's order.
use Rattle.std.specs.Prelude.{ℕ, ◌-◌, Bool, true, false, ◌&&◌, ◌||◌, cond, List, [], ◌∷◌, ◌++◌, map, length, drop, eqb, leb}
use Rattle.std.proofs.Math.Option.{Option, none, some}
use Rattle.permutation.specs.Table.{upto}
use Rattle.nominal.specs.Tree.{Tree, variable, Substitution, substitute}
pub use Rattle.numbers.specs.Numbers.{Result, Judgement, NoSolution}
use Rattle.layout.specs.Parts as layout
use Rattle.layout.specs.Parts.{binding, fact, part_field}
use Rattle.problem.specs.Problem.{Node, Fresh, Assumed, Problem}
use Rattle.problem.specs.Reader.{Reading, read, reading, base_tags}
use Rattle.run.specs.Meaning.{tree, side_tree, Binding, meaning, Fact, both, fresh_for}
use Rattle.run.specs.Run.{Subject, of_variable, of_side, Demand, Refusal, clash, inside, protection, End, limit, refused, finished, run, run_of}
use Rattle.run.specs.Run.{equations_from}

-- What a demand asks: an atom is to be fresh for a tree.
abbrev pub Asked : Type 0
Asked = ℕ × Tree

abbrev pub subject_tree : List Node → Subject → Tree
subject_tree nodes (of_variable X) = variable X
subject_tree nodes (of_side s) = side_tree nodes s

-- "the demands of tags 21 and 22 and those raised"
abbrev pub asked_fresh : List Node → List Fresh → List Asked
asked_fresh nodes ds = map (λ d. (d.atom, tree nodes d.node)) ds

abbrev pub asked_assumed : List Assumed → List Asked
asked_assumed ds = map (λ d. (d.atom, variable d.variable)) ds

abbrev pub asked_raised : List Node → List Demand → List Asked
asked_raised nodes ds = map (λ d. (d.atom, subject_tree nodes d.subject)) ds

-- ".. are resolved under the bindings by 003's freshness rules". "A demand that ends at an atom fresh for itself gives 12": none.
unfoldable pub resolved_all : Substitution → List Asked → Option (List Fact)
resolved_all σ [] = some []
resolved_all σ (d ∷ ds) = both (fresh_for d.0 (substitute σ d.1)) (resolved_all σ ds)

abbrev pub has_fact : Fact → List Fact → Bool
has_fact f [] = false
has_fact f (g ∷ fs) = (eqb f.0 g.0 && eqb f.1 g.1) || has_fact f fs

-- "The rest are the facts of the answer: pairs of atom and unbound variable", "by variable, then atom, each once": of all pairs in that order, those
-- that are among the given ones.
abbrev pub facts_among : List Fact → List Fact → List Fact
facts_among given [] = []
facts_among given (f ∷ fs) = cond (has_fact f given) (f ∷ facts_among given fs) (facts_among given fs)

abbrev pub all_facts : ℕ → List ℕ → List Fact
all_facts atoms [] = []
all_facts atoms (X ∷ Xs) = map (λ a. (a, X)) (upto atoms) ++ all_facts atoms Xs

unfoldable pub facts : Problem → List Fact → List Fact
facts p given = facts_among given (all_facts p.atoms (upto p.variables))

-- "4E, steps (4 bytes). Then 40 for each binding in the order made: variable, node (2 bytes), image of each atom (A bytes). Then 41 for each fact:
-- atom, variable".
unfoldable pub binding_bytes : List Binding → List ℕ
binding_bytes [] = []
binding_bytes (b ∷ bs) = part_field (binding b.variable b.value.node b.value.images) ++ binding_bytes bs

unfoldable pub fact_bytes : List Fact → List ℕ
fact_bytes [] = []
fact_bytes (f ∷ fs) = part_field (fact f.0 f.1) ++ fact_bytes fs

unfoldable pub answer_bytes : ℕ → List Binding → List Fact → List ℕ
answer_bytes steps bs fs = part_field (layout.steps steps) ++ binding_bytes bs ++ fact_bytes fs

-- What the solver finds: an answer, or a refusal by number and place.
pub data Verdict : Type 0 where
  accepted : ℕ → List Binding → List Fact → Verdict
  refusal : ℕ → ℕ → Verdict

-- The table's numbers for the run's own refusals.
abbrev pub refusal_number : Refusal → ℕ
refusal_number clash = 9
refusal_number inside = 10
refusal_number protection = 11

abbrev pub concluded : Problem → ℕ → List Binding → Option (List Fact) → Verdict
concluded p k bs none = refusal 12 0
concluded p k bs (some fs) = accepted (p.limit - k) bs (facts p fs)

unfoldable pub verdict_of : Problem → End → Verdict
verdict_of p (limit n) = refusal 8 n
verdict_of p (refused r n) = refusal (refusal_number r) n
verdict_of p (finished k bs ds) =
    concluded p k bs (resolved_all (meaning p.nodes bs) (asked_fresh p.nodes p.freshness ++ asked_assumed p.assumptions ++ asked_raised p.nodes ds))

unfoldable pub verdict_read : Reading → Verdict
verdict_read (read p) = verdict_of p (run_of p)
verdict_read (Rattle.problem.specs.Reader.unreadable n o) = refusal n o

-- "13 is given only to an accepted problem whose answer is longer than the lent output. Every refusal leaves the output unchanged; an acceptance
-- leaves the bytes after the answer unchanged."
unfoldable pub written : List ℕ → List ℕ → Result
written answer output =
    cond (leb (length answer) (length output)) (record { number = 0; place = length answer; output = answer ++ drop (length answer) output })
    (record { number = 13; place = length answer; output = output })

unfoldable pub given : Verdict → List ℕ → Result
given (accepted steps bs fs) output = written (answer_bytes steps bs fs) output
given (refusal n o) output = record { number = n; place = o; output = output }

-- The solver: every list of bytes and every lent output.
unfoldable pub solve : List ℕ → List ℕ → Result
solve input output = given (verdict_read (reading base_tags input)) output

-- "It takes the run with all variables protected and without the assumption demands."
unfoldable pub judged_run : Problem → End
judged_run p = run (record { atoms = p.atoms; nodes = p.nodes; protected = λ X. true }) p.limit (equations_from p.atoms 0 p.equations) [] []

-- "Assumptions (22) are the facts": whether every fact of a list is assumed.
abbrev pub assumed_facts : List Assumed → List Fact
assumed_facts ds = map (λ d. (d.atom, d.variable)) ds

abbrev pub all_among : List Fact → List Fact → Bool
all_among given [] = true
all_among given (f ∷ fs) = has_fact f given && all_among given fs

abbrev pub holds_from : List Assumed → Option (List Fact) → Judgement
holds_from ds none = (14, 0)
holds_from ds (some fs) = cond (all_among (assumed_facts ds) fs) (0, 0) (14, 0)

-- "8 stays 8. 9, 11, 12, or a resulting fact that isn't assumed, gives 14; otherwise 0."
unfoldable pub judgement_of : Problem → End → Judgement
judgement_of p (limit n) = (8, n)
judgement_of p (refused r n) = (14, 0)
judgement_of p (finished k bs ds) =
    holds_from p.assumptions (resolved_all (meaning p.nodes bs) (asked_fresh p.nodes p.freshness ++ asked_raised p.nodes ds))

unfoldable pub judgement_read : Reading → Judgement
judgement_read (read p) = judgement_of p (judged_run p)
judgement_read (Rattle.problem.specs.Reader.unreadable n o) = (n, o)

-- The judge: every list of bytes. "The judge writes nothing."
unfoldable pub judge : List ℕ → Judgement
judge input = judgement_read (reading base_tags input)
