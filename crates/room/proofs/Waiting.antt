-- Why the room is enough: the pairs whose right parts wait, from the top of the stack down, are nodes each lower than the next, so distinct; below
-- them are no more equations than there were at the start.
use Prim.Native.Nat.{ℕ, ◌+◌, ◌≤◌, ◌<◌}
use native.Mathlib.Omega.{arith}
use mathlib.Core.Path.{◌≡◌, ap}
use mathlib.Core.Option.{some}
use mathlib.Core.List.{List, [], ◌∷◌, ◌++◌, Memᴰ}
use lib.ListN.{length}
use Rattle.permutation.specs.Table.{Table}
use Rattle.problem.specs.Problem.{Form, Node}
use Rattle.run.specs.Meaning.{Side, Binding}
use Rattle.run.specs.Run.{Ground, Equation, value_of, Step, refuses, goes_on, pending}
use Rattle.run.proofs.Did.{Did, two_units, same_atoms, same_abstractions, other_abstractions, two_pairs, same_symbols, from_one_variable, left_bound}
use Rattle.run.proofs.Did.{right_bound}
use Rattle.run.proofs.Did.{left_inside, right_inside, left_protected, right_protected, both_protected, different_forms, different_atoms, different_symbols}
use Rattle.room.proofs.Distinct.{Distinct, distinct_few}
use Rattle.room.proofs.Weights.{weight, Respects, Lower, Heavier}

-- The node is lower than the first of the list.
abbrev pub Under : List Node → List Binding → ℕ → List ℕ → Type 0
Under nodes bs n [] = Unit {0}
Under nodes bs n (c ∷ cs) = Lower nodes bs n c

-- How the equations wait, from the top down: above each pair node of the list, whose right part waits, stands an equation with a lower left node; when
-- the list ends, at most m are left.
abbrev pub Waiting : List Node → List Binding → ℕ → List Equation → List ℕ → Type 0
Waiting nodes bs m es [] = length es ≤ m
Waiting nodes bs m [] (c ∷ cs) = ⊥
Waiting nodes bs m (e ∷ es) (c ∷ cs) = Lower nodes bs e.left.node c × (c < length nodes) × Under nodes bs c cs × Waiting nodes bs m es cs

-- ---- how many they are

module _ (nodes : List Node) (bs : List Binding) (m : ℕ) where
  waiting_length : (es : List Equation) (cs : List ℕ) → Waiting nodes bs m es cs → length es ≤ length cs + m
  waiting_length [] [] k = omega arith
  waiting_length (e ∷ es) [] k = omega arith
  waiting_length [] (c ∷ cs) k = absurd k
  waiting_length (e ∷ es) (c ∷ cs) k = omega (arith, waiting_length es cs k.3)

  waiting_there : (es : List Equation) (cs : List ℕ) → Waiting nodes bs m es cs → (c : ℕ) → Memᴰ c cs → c < length nodes
  waiting_there [] [] k c i = elim i [ ]
  waiting_there (e ∷ es) [] k c i = elim i [ ]
  waiting_there [] (d ∷ cs) k c i = absurd k
  waiting_there (e ∷ es) (d ∷ cs) k c (Memᴰ.head p) = rw p k.1
  waiting_there (e ∷ es) (d ∷ cs) k c (Memᴰ.tail i) = waiting_there es cs k.3 c i

  module _ (w : ℕ → ℕ) (respects : Respects nodes bs w) where
    -- A node that is lighter than the first is lighter than all.
    lighter : (n : ℕ) (es : List Equation) (cs : List ℕ) → Waiting nodes bs m es cs → Under nodes bs n cs → (c : ℕ) → Memᴰ c cs
        → weight nodes w n < weight nodes w c
    lighter n [] [] k u c i = elim i [ ]
    lighter n (e ∷ es) [] k u c i = elim i [ ]
    lighter n [] (d ∷ cs) k u c i = absurd k
    lighter n (e ∷ es) (d ∷ cs) k u c (Memᴰ.head p) = rw p (u w respects)
    lighter n (e ∷ es) (d ∷ cs) k u c (Memᴰ.tail i) = let a = u w respects in let b = lighter d es cs k.3 k.2 c i in omega arith

    waiting_distinct : (es : List Equation) (cs : List ℕ) → Waiting nodes bs m es cs → Distinct cs
    waiting_distinct es [] k = tt
    waiting_distinct [] (c ∷ cs) k = absurd k
    waiting_distinct (e ∷ es) (c ∷ cs) k =
        (λ d i p. let l = lighter c es cs k.3 k.2 d i in omega (arith, ap (weight nodes w) p), waiting_distinct es cs k.3)

    pub waiting_few : (es : List Equation) (cs : List ℕ) → Waiting nodes bs m es cs → length es ≤ length nodes + m
    waiting_few es cs k =
        omega (arith, waiting_length es cs k, distinct_few (length nodes) cs (waiting_distinct es cs k) (waiting_there es cs k))

-- ---- bindings that are added change nothing

module _ (nodes : List Node) (m : ℕ) (bs cs : List Binding) (kept : (X : ℕ) (v : Side) → value_of bs X ≡ some v → value_of cs X ≡ some v) where
  lower_more : (i j : ℕ) → Lower nodes bs i j → Lower nodes cs i j
  lower_more i j l w r = l w (λ X v e. r X v (kept X v e))

  under_more : (n : ℕ) (ns : List ℕ) → Under nodes bs n ns → Under nodes cs n ns
  under_more n [] u = tt
  under_more n (c ∷ ns) u = lower_more n c u

  pub waiting_more : (es : List Equation) (ns : List ℕ) → Waiting nodes bs m es ns → Waiting nodes cs m es ns
  waiting_more es [] k = k
  waiting_more [] (c ∷ ns) k = k
  waiting_more (e ∷ es) (c ∷ ns) k = (lower_more e.left.node c k.0, k.1, under_more c ns k.2, waiting_more es ns k.3)

-- ---- what a step puts on the stack

module _ (g : Ground) (bs : List Binding) (m : ℕ) (e : Equation) (es : List Equation) (s t : Side)
    (level : (w : ℕ → ℕ) → Respects g.nodes bs w → weight g.nodes w s.node ≡ weight g.nodes w e.left.node) where
  -- After a step that goes on they still wait so.
  abbrev pub Waits : Step → Type 0
  Waits (refuses r) = Unit {0}
  Waits (goes_on qs b d) = (cs : List ℕ) × Waiting g.nodes bs m (pending e.number qs ++ es) cs

  taken : (cs : List ℕ) → Waiting g.nodes bs m (e ∷ es) cs → (ds : List ℕ) × Waiting g.nodes bs m es ds
  taken [] k = ([], omega arith)
  taken (c ∷ cs) k = (cs, k.3)

  one_part : (cs : List ℕ) → Waiting g.nodes bs m (e ∷ es) cs → (n : ℕ) (u v : Side)
      → ((w : ℕ → ℕ) → weight g.nodes w u.node < weight g.nodes w s.node)
      → (ds : List ℕ) × Waiting g.nodes bs m (record { number = n; left = u; right = v } ∷ es) ds
  one_part [] k n u v l = ([], k)
  one_part (c ∷ cs) k n u v l = (c ∷ cs, (λ w r. let a = l w in let b = level w r in let d = k.0 w r in omega arith, k.1, k.2, k.3))

  two_parts : (cs : List ℕ) → Waiting g.nodes bs m (e ∷ es) cs → (n : ℕ) (u v x y : Side) → s.node < length g.nodes
      → ((w : ℕ → ℕ) → weight g.nodes w u.node < weight g.nodes w s.node)
      → ((w : ℕ → ℕ) → weight g.nodes w x.node < weight g.nodes w s.node)
      → (ds : List ℕ) × Waiting g.nodes bs m (record { number = n; left = u; right = v } ∷ record { number = n; left = x; right = y } ∷ es) ds
  two_parts [] k n u v x y h l q = (s.node ∷ [], (λ w r. l w, h, tt, k))
  two_parts (c ∷ cs) k n u v x y h l q = (
    s.node ∷ c ∷ cs,
    (
      λ w r. l w,
      h,
      λ w r. let b = level w r in let d = k.0 w r in omega arith,
      (λ w r. let a = q w in let b = level w r in let d = k.0 w r in omega arith, k.1, k.2, k.3),
    ),
  )

  pub did_waits : (cs : List ℕ) → Waiting g.nodes bs m (e ∷ es) cs → (v w : Form Table Side) → Heavier g.nodes s.node v → (x : Step)
      → Did g bs s t v w x → Waits x
  did_waits cs k v w h x two_units = taken cs k
  did_waits cs k v w h x same_atoms = taken cs k
  did_waits cs k v w h x same_abstractions = one_part cs k e.number _ _ h
  did_waits cs k v w h x (other_abstractions n) = one_part cs k e.number _ _ h
  did_waits cs k v w h x two_pairs = two_parts cs k e.number _ _ _ _ h.0 h.1 h.2
  did_waits cs k v w h x same_symbols = one_part cs k e.number _ _ h
  did_waits cs k v w h x from_one_variable = taken cs k
  did_waits cs k v w h x (left_bound n p o) = taken cs k
  did_waits cs k v w h x (right_bound n q p o) = taken cs k
  did_waits cs k v w h x (left_inside n p o) = tt
  did_waits cs k v w h x (right_inside n q p o) = tt
  did_waits cs k v w h x (left_protected n p) = tt
  did_waits cs k v w h x (right_protected n p) = tt
  did_waits cs k v w h x (both_protected n p q) = tt
  did_waits cs k v w h x (different_forms n q d) = tt
  did_waits cs k v w h x (different_atoms n) = tt
  did_waits cs k v w h x (different_symbols n) = tt
