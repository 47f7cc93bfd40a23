-- Document 01, section "The run": 003's figure 3 with the order fixed. Definitions alone, in the document's order.
use Rattle.std.specs.Prelude.{ℕ, zero, suc, Bool, cond, List, [], ◌∷◌, ◌++◌, map, length, eqb}
use Rattle.std.proofs.Math.Option.{Option, none, some}
use Rattle.sets.specs.Bits.{among}
use Rattle.permutation.specs.Table.{Table, image, identity, after, inverted, of_swaps, swapped_after, disagreement}
use Rattle.nominal.specs.Tree.{substitute}
use Rattle.problem.specs.Problem.{Form, unit_form, atom_form, abstraction_form, pair_form, application_form, suspension_form, Node, form_at, Equal, Problem}
use Rattle.run.specs.Meaning.{Side, side_tree, Binding, meaning, occurs_in}
use Rattle.run.specs.Tops.{Tops, two_suspensions, left_suspension, right_suspension, two_units, two_atoms, two_abstractions, two_pairs}
use Rattle.run.specs.Tops.{two_applications, different_forms, tops}

-- "Equations wait in a stack". "What comes of an equation keeps its number."
pub record Equation : Type 0 where
  pub number : ℕ
  pub left : Side
  pub right : Side

-- What an atom is demanded fresh for: a variable, or a side.
pub data Subject : Type 0 where
  of_variable : ℕ → Subject
  of_side : Side → Subject

-- A demand that an equation raised.
pub record Demand : Type 0 where
  pub equation : ℕ
  pub atom : ℕ
  pub subject : Subject

-- Where the run takes place: the number of atoms, the nodes, and which variables are protected.
pub record Ground : Type 0 where
  pub atoms : ℕ
  pub nodes : List Node
  pub protected : ℕ → Bool

-- What a side is on top, "permutations already applied": its parts are sides, a suspension's own swaps are folded in.
abbrev pub permuted : ℕ → Table → Node → Form Table Side
permuted atoms P unit_form = unit_form
permuted atoms P (atom_form a) = atom_form (image P a)
permuted atoms P (abstraction_form a n) = abstraction_form (image P a) (record { images = P; node = n })
permuted atoms P (pair_form l r) = pair_form (record { images = P; node = l }) (record { images = P; node = r })
permuted atoms P (application_form f n) = application_form f (record { images = P; node = n })
permuted atoms P (suspension_form π X) = suspension_form (after P (of_swaps atoms π)) X

unfoldable pub top : Ground → Side → Form Table Side
top g s = permuted g.atoms s.images (form_at g.nodes s.node)

-- The value of a bound variable.
abbrev pub value_of : List Binding → ℕ → Option Side
value_of [] X = none
value_of (b ∷ bs) X = cond (eqb X b.variable) (some b.value) (value_of bs X)

-- "A side that is a suspension of a bound variable is first replaced by its value under the permutations, as often as needed": each variable at
-- most once, so as often as there are bindings is enough.
abbrev pub under : Table → Side → Side
under P s = record { images = after P s.images; node = s.node }

abbrev pub replacement : Option Side → Side → Table → (Side → Side) → Side
replacement none s P onward = s
replacement (some v) s P onward = onward (under P v)

abbrev pub replaced : List Binding → Side → Form Table Side → (Side → Side) → Side
replaced bs s unit_form onward = s
replaced bs s (atom_form a) onward = s
replaced bs s (abstraction_form a t) onward = s
replaced bs s (pair_form t u) onward = s
replaced bs s (application_form f t) onward = s
replaced bs s (suspension_form P X) onward = replacement (value_of bs X) s P onward

unfoldable pub resolved_in : ℕ → Ground → List Binding → Side → Side
resolved_in zero g bs s = s
resolved_in (suc k) g bs s = replaced bs s (top g s) (λ t. resolved_in k g bs t)

unfoldable pub resolved : Ground → List Binding → Side → Side
resolved g bs s = resolved_in (length bs) g bs s

-- The refusals of a step: 9, 10 and 11.
pub data Refusal : Type 0 where
  clash : Refusal
  inside : Refusal
  protection : Refusal

-- What a step does: it refuses; or it goes on with new equations, from the top down, perhaps a binding, and demands.
pub data Step : Type 0 where
  refuses : Refusal → Step
  goes_on : List (Side × Side) → List (ℕ × Side) → List (ℕ × Subject) → Step

abbrev pub done : Step
done = goes_on [] [] []

-- "if X occurs in the right side, looked at through all bindings, 10; else X becomes the inverse of P applied to the right side", whose "own swaps
-- aren't folded in".
unfoldable pub bound : Ground → List Binding → Table → ℕ → Side → Step
bound g bs P X t =
    cond (occurs_in X (substitute (meaning g.nodes bs) (side_tree g.nodes t))) (refuses inside) (goes_on [] ((X, under (inverted P) t) ∷ []) [])

-- "Left is an unprotected X under P" .. "Any other suspension: 11."
unfoldable pub one_variable : Ground → List Binding → Table → ℕ → Side → Step
one_variable g bs P X t = cond (g.protected X) (refuses protection) (bound g bs P X t)

-- "Suspensions of one variable X: each atom of the disagreement set is demanded fresh for X". Of two variables the left one is bound if it is
-- not protected, else the right one.
unfoldable pub two_variables : Ground → List Binding → Table → ℕ → Side → Table → ℕ → Side → Step
two_variables g bs P X s Q Y t =
    cond (eqb X Y) (goes_on [] [] (map (λ a. (a, of_variable X)) (disagreement P Q)))
    (cond (g.protected X) (one_variable g bs Q Y s) (bound g bs P X t))

-- "with a equal to b, s against t; else s against t under the swap of a and b, and a is demanded fresh for t."
unfoldable pub abstractions : ℕ → Side → ℕ → Side → Step
abstractions a s b t =
    cond (eqb a b) (goes_on ((s, t) ∷ []) [] [])
    (goes_on ((s, record { images = swapped_after a b t.images; node = t.node }) ∷ []) [] ((a, of_side t) ∷ []))

-- "Then one step, the first that fits": by the tops of the resolved sides s and t. "Different forms, different atoms, different symbols: 9." "Two units
-- or the same atom: done. Applications: the two arguments. Pairs: the left parts on top, then the right parts."
abbrev pub fitting : Ground → List Binding → Side → Side → Tops Table Side → Step
fitting g bs s t (two_suspensions P X Q Y) = two_variables g bs P X s Q Y t
fitting g bs s t (left_suspension P X) = one_variable g bs P X t
fitting g bs s t (right_suspension Q Y) = one_variable g bs Q Y s
fitting g bs s t two_units = done
fitting g bs s t (two_atoms a b) = cond (eqb a b) done (refuses clash)
fitting g bs s t (two_abstractions a u b v) = abstractions a u b v
fitting g bs s t (two_pairs l r v w) = goes_on ((l, v) ∷ (r, w) ∷ []) [] []
fitting g bs s t (two_applications f u h v) = cond (eqb f h) (goes_on ((u, v) ∷ []) [] []) (refuses clash)
fitting g bs s t different_forms = refuses clash

abbrev pub rule : Ground → List Binding → Side → Side → Form Table Side → Form Table Side → Step
rule g bs s t v w = fitting g bs s t (tops v w)

unfoldable pub step : Ground → List Binding → Side → Side → Step
step g bs l r =
    let s : Side = resolved g bs l in
    let t : Side = resolved g bs r in
    rule g bs s t (top g s) (top g t)

-- How a run ends: "with L taken and an equation left, 8", a refusing step, both with the number of the equation; or no equation is left, and there
-- are the steps that were not used, the bindings in the order made and the demands raised.
pub data End : Type 0 where
  limit : ℕ → End
  refused : Refusal → ℕ → End
  finished : ℕ → List Binding → List Demand → End

abbrev pub pending : ℕ → List (Side × Side) → List Equation
pending n [] = []
pending n (q ∷ qs) = record { number = n; left = q.0; right = q.1 } ∷ pending n qs

abbrev pub bindings : ℕ → List (ℕ × Side) → List Binding
bindings n [] = []
bindings n (b ∷ bs) = record { variable = b.0; value = b.1; equation = n } ∷ bindings n bs

abbrev pub demands : ℕ → List (ℕ × Subject) → List Demand
demands n [] = []
demands n (d ∷ ds) = record { equation = n; atom = d.0; subject = d.1 } ∷ demands n ds

-- What comes after a step of equation number n above the equations es.
abbrev pub next : (List Equation → List Binding → List Demand → End) → ℕ → List Equation → List Binding → List Demand → Step → End
next onward n es bs ds (refuses r) = refused r n
next onward n es bs ds (goes_on qs b d) = onward (pending n qs ++ es) (bs ++ bindings n b) (ds ++ demands n d)

-- "Take the top, if fewer than L steps have been taken": the first number is how many may still be taken.
unfoldable pub run : Ground → ℕ → List Equation → List Binding → List Demand → End
run g zero [] bs ds = finished zero bs ds
run g zero (e ∷ es) bs ds = limit e.number
run g (suc k) [] bs ds = finished (suc k) bs ds
run g (suc k) (e ∷ es) bs ds = next (λ es' bs' ds'. run g k es' bs' ds') e.number es bs ds (step g bs e.left e.right)

-- "the file's first on top": the problem's equations, numbered from i.
abbrev pub equations_from : ℕ → ℕ → List Equal → List Equation
equations_from atoms i [] = []
equations_from atoms i (e ∷ es) =
    record { number = i; left = record { images = identity atoms; node = e.left }; right = record { images = identity atoms; node = e.right } }
    ∷ equations_from atoms (suc i) es

abbrev pub ground_of : Problem → Ground
ground_of p = record { atoms = p.atoms; nodes = p.nodes; protected = λ X. among X p.protected }

unfoldable pub run_of : Problem → End
run_of p = run (ground_of p) p.limit (equations_from p.atoms 0 p.equations) [] []
