-- What a step is to do with two resolved sides, as the code tells it, and what that is as the definition's step (run, specs/Run.antt). Definitions alone;
-- that the two agree is shown in proofs/.
use Rattle.std.specs.Prelude.{ℕ, ◌≡◌, ◌⊎◌, ◌≢◌, Bool, false, cond, List, [], ◌∷◌, map, eqb}
use Rattle.names.specs.declared.Atom.{Atom as AtomName}
use Rattle.names.specs.declared.Variable.{Variable}
use Rattle.names.specs.declared.NodeId.{NodeId}
use Rattle.permutation.specs.Table.{Table, image, inverted, swapped_after, disagreement}
use Rattle.problem.specs.declared.Form.{Form}
use Rattle.problem.specs.declared.Form.TheVariants.{Unit, Atom, Abstraction, Pair, Application, Suspension}
use Rattle.permutation.specs.declared.Permutation.{Permutation}
use Rattle.sets.specs.Bits.{member}
use Rattle.run.specs.Meaning.{Side}
use Rattle.run.specs.Run.{of_variable, of_side, under, clash, inside, protection, Step, refuses, goes_on, done}
use Rattle.occurs.specs.Reached.{OccursAnswered}
use Rattle.side.specs.Side.{side_at, side_held, kind, Compound, is_bound}
use Rattle.side.specs.declared.Side.{Side as HeldSide}
use Rattle.rule.specs.declared.Act.{Act}
use Rattle.rule.specs.declared.Act.TheVariants.{Done, Clash, Inside, Protection, Part, Parts, Renamed, Same, BindLeft, BindRight}

-- ---- what an act is as a step

-- A part of a side: the same images at another node.
abbrev pub part_of : Side → NodeId → Side
part_of s n = record { images = s.images; node = n.0 }

-- P and Q are what the sides s and t suspend their variables under, if they are suspensions.
abbrev pub step_of : Table → Table → Side → Side → Act → Step
step_of P Q s t Done = done
step_of P Q s t Clash = refuses clash
step_of P Q s t Inside = refuses inside
step_of P Q s t Protection = refuses protection
step_of P Q s t (Part m n) = goes_on ((part_of s m, part_of t n) ∷ []) [] []
step_of P Q s t (Parts l m k n) = goes_on ((part_of s l, part_of t k) ∷ (part_of s m, part_of t n) ∷ []) [] []
step_of P Q s t (Renamed a m b n) =
    goes_on ((part_of s m, record { images = swapped_after a.0 b.0 t.images; node = n.0 }) ∷ []) [] ((a.0, of_side (part_of t n)) ∷ [])
step_of P Q s t (Same x) = goes_on [] [] (map (λ a. (a, of_variable x.0)) (disagreement P Q))
step_of P Q s t (BindLeft x) = goes_on [] ((x.0, under (inverted P) t) ∷ []) []
step_of P Q s t (BindRight x) = goes_on [] ((x.0, under (inverted Q) s) ∷ []) []

-- ---- two sides that are no suspensions

-- "different atoms .. : 9", "the same atom: done".
abbrev pub atoms_act : ℕ → ℕ → Act
atoms_act a b = cond (eqb a b) Done Clash

-- "with a equal to b, s against t; else s against t under the swap of a and b, and a is demanded fresh for t."
abbrev pub abstractions_act : ℕ → NodeId → ℕ → NodeId → Act
abstractions_act a m b n = cond (eqb a b) (Part m n) (Renamed (record { 0 = a }) m (record { 0 = b }) n)

-- "different symbols: 9", "Applications: the two arguments".
abbrev pub applications_act : ℕ → NodeId → ℕ → NodeId → Act
applications_act f m h n = cond (eqb f h) (Part m n) Clash

-- "Different forms .. : 9", "Two units .. : done", "Pairs: the left parts on top, then the right parts." P and Q are the sides' images.
pub data Compounds (P Q : Table) : Form → Form → Act → Type 0 where
  both_units : Compounds P Q Unit Unit Done
  both_atoms : {a b : AtomName} → Compounds P Q (Atom a) (Atom b) (atoms_act (image P a.0) (image Q b.0))
  both_abstractions : {a b : AtomName} {m n : NodeId}
      → Compounds P Q (Abstraction a m) (Abstraction b n) (abstractions_act (image P a.0) m (image Q b.0) n)
  both_pairs : {l m k n : NodeId} → Compounds P Q (Pair l m) (Pair k n) (Parts l m k n)
  both_applications : {f h : ℕ} {m n : NodeId} → Compounds P Q (Application f m) (Application h n) (applications_act f m h n)
  different : {v w : Form} → kind v ≢ kind w → Compounds P Q v w Clash

-- ---- a suspension

-- "if X occurs in the right side, looked at through all bindings, 10"; "Any other suspension: 11".
abbrev pub unless_inside : Bool → Act → Act
unless_inside i act = cond i Inside act

abbrev pub unless_protected : Bool → Bool → Act → Act
unless_protected p i act = cond p Protection (unless_inside i act)

-- "Suspensions of one variable X" come first. Of two variables the left one is bound if it is not protected, else the right one. i says whether Y occurs
-- in the left side, j whether X occurs in the right one.
abbrev pub either_act : (ℕ → Bool) → Variable → Variable → Bool → Bool → Act
either_act protected x y i j =
    cond (eqb x.0 y.0) (Same x) (cond (protected x.0) (unless_protected (protected y.0) i (BindRight y)) (unless_inside j (BindLeft x)))

-- ---- the rule that fits

-- By the forms of the sides s and t: two suspensions, one on the left, one on the right, or none. Given which variables are protected and which occur in
-- a side.
pub data RuleFits (protected : ℕ → Bool) (occurring : ℕ → Side → Bool) (s t : Side) : Form → Form → Act → Type 0 where
  both_suspended : {x y : Variable}
      → RuleFits protected occurring s t (Suspension x) (Suspension y) (either_act protected x y (occurring y.0 s) (occurring x.0 t))
  left_suspended : {x : Variable} {w : Form} → Compound w
      → RuleFits protected occurring s t (Suspension x) w (unless_protected (protected x.0) (occurring x.0 t) (BindLeft x))
  right_suspended : {v : Form} {y : Variable} → Compound v
      → RuleFits protected occurring s t v (Suspension y) (unless_protected (protected y.0) (occurring y.0 s) (BindRight y))
  none_suspended : {v w : Form} {act : Act} → Compound v → Compound w → Compounds s.images t.images v w act
      → RuleFits protected occurring s t v w act

-- ---- what is told

-- o is what the occurs check says of the variable X and the node n.
abbrev pub OccursTold : ℕ → List (List ℕ) → List ℕ → ℕ → ℕ → Bool → Type 0
OccursTold bound made variables_of_nodes n X o = (b : Bool) → OccursAnswered bound made variables_of_nodes n X b → b ≡ o

-- The variable that the form suspends, if it is a suspension, is not bound.
abbrev pub Free : ℕ → Form → Type 0
Free bound w = is_bound bound w ≡ false

-- What agrees with the occurs check on variables that are not bound, at the nodes of both sides.
abbrev pub Agrees : ℕ → ℕ → List (List ℕ) → List ℕ → HeldSide → HeldSide → (ℕ → Side → Bool) → Type 0
Agrees A bound made variables_of_nodes l r occurring =
    (X : ℕ) (n : NodeId) (p : Permutation) → member bound X ≡ false → (n ≡ l.node) ⊎ (n ≡ r.node)
    → OccursTold bound made variables_of_nodes n.0 X (occurring X (side_at A p n))

-- With whatever agrees with the occurs check, the rule that fits is told.
abbrev pub Decided : ℕ → (ℕ → Bool) → ℕ → List (List ℕ) → List ℕ → HeldSide → HeldSide → Act → Type 0
Decided A protected bound made variables_of_nodes l r act =
    (occurring : ℕ → Side → Bool) → Agrees A bound made variables_of_nodes l r occurring → Free bound l.form → Free bound r.form
    → RuleFits protected occurring (side_held A l) (side_held A r) l.form r.form act
