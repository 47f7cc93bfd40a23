-- What holds all through a run, from any state of which it holds: sides and demands have their names there, and the bindings have a meaning.
use Prim.Native.Nat.{ℕ, zero, suc, ◌<◌}
use mathlib.Core.Path.{◌≡◌, refl, sym, ◌∙◌, ap}
use mathlib.Core.Bool.{Bool, true, false, true≢false}
use mathlib.Core.List.{List, [], ◌∷◌, ◌++◌, map, append-nil, Memᴰ}
use mathlib.Core.Option.{none}
use lib.ListN.{length}
use Rattle.permutation.specs.Table.{Table, inverted, disagreement}
use Rattle.permutation.proofs.Table.{mem_disagreement}
use Rattle.nominal.specs.Tree.{variable, substitute}
use Rattle.nominal.specs.Solutions.{Every}
use Rattle.nominal.proofs.Solutions.{every_append}
use Rattle.nominal.proofs.Tree.{occurs_permute, substitute_permute}
use Rattle.problem.specs.Problem.{Form, Node, form_at, Equal, Problem}
use Rattle.problem.specs.Readable.{Named, Readable}
use Rattle.run.specs.Meaning.{Side, side_tree, Binding, meaning_after, meaning}
use Rattle.run.specs.Run.{Equation, Subject, of_variable, of_side, Demand, Ground, top, value_of, under, resolved, Step, refuses, goes_on, step, End}
use Rattle.run.specs.Run.{limit, refused, finished, pending, bindings, demands, next, run, equations_from}
use Rattle.run.specs.Circle.{Circleless}
use Rattle.run.proofs.Same.{same_occurs, same_substitute}
use Rattle.run.proofs.Trees.{Permuting, Fits, permuting_inverted, fits_under, fits_under_swap, fits_plain, tree_under_inverted, TopFits, top_fits}
use Rattle.run.proofs.Did.{Did, step_did, occurs_side, two_units, same_atoms, same_abstractions, other_abstractions, two_pairs, same_symbols}
use Rattle.run.proofs.Did.{from_one_variable, left_bound, right_bound, left_inside, right_inside, left_protected, right_protected, both_protected}
use Rattle.run.proofs.Did.{different_forms, different_atoms, different_symbols}
use Rattle.run.proofs.Questions.{occurs_in_false}
use Rattle.run.proofs.Bindings.{value_of_other, Settled, Meant, Sound, top_under, resolved_fits, meant_more, meaning_more}
use Rattle.run.proofs.Circleless.{meant_circleless, circleless_none}

module _ (g : Ground) (variables : ℕ) where
  -- What an atom is demanded fresh for is there.
  abbrev pub SubjectFits : Subject → Type 0
  SubjectFits (of_variable X) = X < variables
  SubjectFits (of_side s) = Fits g.atoms g.nodes s

  abbrev pub BothFit : Side × Side → Type 0
  BothFit q = Fits g.atoms g.nodes q.0 × Fits g.atoms g.nodes q.1

  abbrev pub DemandFits : ℕ × Subject → Type 0
  DemandFits d = (d.0 < g.atoms) × SubjectFits d.1

module _ (g : Ground) (variables : ℕ) (named : (n : ℕ) → Named g.atoms variables n (form_at g.nodes n)) where
  -- A step makes at most one binding, of an unprotected variable, and it is sound.
  abbrev pub SoundNew : List Binding → List (ℕ × Side) → Type 0
  SoundNew bs [] = Unit {0}
  SoundNew bs (b ∷ []) = Sound g variables named bs (meaning g.nodes bs) b.0 b.1 × (g.protected b.0 ≡ false)
  SoundNew bs (b ∷ c ∷ l) = ⊥

  -- What a step keeps.
  abbrev pub Keeps : List Binding → Step → Type 0
  Keeps bs (refuses r) = Unit {0}
  Keeps bs (goes_on qs b d) = Every (BothFit g variables) qs × SoundNew bs b × Every (DemandFits g variables) d

  module _ {bs : List Binding} (m : Meant g variables bs (meaning g.nodes bs)) where
    -- X becomes the inverse of P applied to the resolved side t.
    bound_sound : (P : Table) (X : ℕ) (t : Side) → Permuting g.atoms P → X < variables → value_of bs X ≡ none → Fits g.atoms g.nodes t
        → Settled bs (top g t)
        → occurs_side g bs X t ≡ false → Sound g variables named bs (meaning g.nodes bs) X (under (inverted P) t)
    bound_sound P X t p l free f s o = record {
      unbound = free;
      small = l;
      fits = fits_under (permuting_inverted p) f;
      absent = λ k. occurs_in_false X (substitute (meaning g.nodes bs) (side_tree g.nodes t)) o
          (rw (substitute_permute, occurs_permute) at (rw (same_occurs X (same_substitute (meaning g.nodes bs) (tree_under_inverted g.nodes p f))) at k));
      settled = λ Q Z e. let k = top_under g (inverted P) t Q Z e in s k.0 Z k.1;
    }

    did_keeps : (s t : Side) → Fits g.atoms g.nodes s → Fits g.atoms g.nodes t → Settled bs (top g s) → Settled bs (top g t)
        → {v w : Form Table Side} {x : Step}
        → Did g bs s t v w x → TopFits g.atoms variables g.nodes s.node v → TopFits g.atoms variables g.nodes t.node w → Settled bs v
        → Settled bs w → Keeps bs x
    did_keeps s t f h p q two_units i j a b = (tt, tt, tt)
    did_keeps s t f h p q same_atoms i j a b = (tt, tt, tt)
    did_keeps s t f h p q same_abstractions i j a b = (((i.1, j.1), tt), tt, tt)
    did_keeps s t f h p q (other_abstractions {a = c} {b = d} n) i j a b = (((i.1, fits_under_swap c d i.0 j.0 j.1), tt), tt, ((i.0, j.1), tt))
    did_keeps s t f h p q two_pairs i j a b = (((i.0.0, j.0.0), ((i.1.0, j.1.0), tt)), tt, tt)
    did_keeps s t f h p q same_symbols i j a b = (((i.0, j.0), tt), tt, tt)
    did_keeps s t f h p q (from_one_variable {P = P} {Q = Q} {X = X}) i j a b =
        (tt, tt, raised (disagreement P Q) (λ c k. let l = ((mem_disagreement P Q c).0 k).0 in rw i.0.long at l))
      where
        raised : (l : List ℕ) → ((c : ℕ) → Memᴰ c l → c < g.atoms) → Every (DemandFits g variables) (map (λ c. (c, of_variable X)) l)
        raised [] k = tt
        raised (c ∷ l) k = ((k c (Memᴰ.head refl), i.1), raised l (λ d n. k d (Memᴰ.tail n)))
    did_keeps s t f h p q (left_bound {P = P} {X = X} n u o) i j a b = (tt, (bound_sound P X t i.0 i.1 (a P X refl) h q o, u), tt)
    did_keeps s t f h p q (right_bound {Q = Q} {Y = Y} n k u o) i j a b = (tt, (bound_sound Q Y s j.0 j.1 (b Q Y refl) f p o, u), tt)
    did_keeps s t f h p q (left_inside n u o) i j a b = tt
    did_keeps s t f h p q (right_inside n k u o) i j a b = tt
    did_keeps s t f h p q (left_protected n u) i j a b = tt
    did_keeps s t f h p q (right_protected n u) i j a b = tt
    did_keeps s t f h p q (both_protected n u k) i j a b = tt
    did_keeps s t f h p q (different_forms n k l) i j a b = tt
    did_keeps s t f h p q (different_atoms n) i j a b = tt
    did_keeps s t f h p q (different_symbols n) i j a b = tt

    pub step_keeps : (l r : Side) → Fits g.atoms g.nodes l → Fits g.atoms g.nodes r → Keeps bs (step g bs l r)
    step_keeps l r f h =
        let s : Side = resolved g bs l in
        let t : Side = resolved g bs r in
        let i : Fits g.atoms g.nodes s = resolved_fits g variables named m l f in
        let j : Fits g.atoms g.nodes t = resolved_fits g variables named m r h in
        did_keeps s t i j (m.settles l) (m.settles r) (step_did g bs l r) (top_fits g variables named s i) (top_fits g variables named t j) (m.settles l)
        (m.settles r)

  -- A state of the run of which all this holds.
  pub record State (es : List Equation) (bs : List Binding) (ds : List Demand) : Type 1 where
    pub waiting : Every (λ e. BothFit g variables (e.left, e.right)) es
    pub meant : Meant g variables bs (meaning g.nodes bs)
    pub raised : Every (λ d. DemandFits g variables (d.atom, d.subject)) ds

  pending_fits : (n : ℕ) (qs : List (Side × Side)) → Every (BothFit g variables) qs → Every (λ e. BothFit g variables (e.left, e.right)) (pending n qs)
  pending_fits n [] h = tt
  pending_fits n (q ∷ qs) h = (h.0, pending_fits n qs h.1)

  demands_fit : (n : ℕ) (d : List (ℕ × Subject)) → Every (DemandFits g variables) d → Every (λ e. DemandFits g variables (e.atom, e.subject)) (demands n d)
  demands_fit n [] h = tt
  demands_fit n (e ∷ d) h = (h.0, demands_fit n d h.1)

  pub meant_next : (n : ℕ) (bs : List Binding) (b : List (ℕ × Side)) → Meant g variables bs (meaning g.nodes bs) → SoundNew bs b
      → Meant g variables (bs ++ bindings n b) (meaning g.nodes (bs ++ bindings n b))
  meant_next n bs [] m s = rw append-nil m
  meant_next n bs (b ∷ []) m s =
      rw (meaning_more g.nodes bs (record { variable = b.0; value = b.1; equation = n }))
      (meant_more g variables named m (record { variable = b.0; value = b.1; equation = n }) s.0)
  meant_next n bs (b ∷ c ∷ l) m s = absurd s

  -- The next state.
  pub state_next : (e : Equation) (es : List Equation) (bs : List Binding) (ds : List Demand) (qs : List (Side × Side)) (b : List (ℕ × Side))
      (d : List (ℕ × Subject))
      → State (e ∷ es) bs ds → step g bs e.left e.right ≡ goes_on qs b d
      → State (pending e.number qs ++ es) (bs ++ bindings e.number b) (ds ++ demands e.number d)
  state_next e es bs ds qs b d s q =
      let k : Keeps bs (goes_on qs b d) = rw q at (step_keeps s.meant e.left e.right s.waiting.0.0 s.waiting.0.1) in record {
        waiting =
            (every_append (λ e. BothFit g variables (e.left, e.right)) (pending e.number qs) es).1 (pending_fits e.number qs k.0, s.waiting.1);
        meant = meant_next e.number bs b s.meant k.1;
        raised = (every_append (λ d. DemandFits g variables (d.atom, d.subject)) ds (demands e.number d)).1 (s.raised, demands_fit e.number d k.2);
      }

  -- Protected variables that are unbound stay unbound.
  pub unbound_next : (n : ℕ) (bs : List Binding) (b : List (ℕ × Side)) → SoundNew bs b → (X : ℕ) → g.protected X ≡ true → value_of bs X ≡ none
      → value_of (bs ++ bindings n b) X ≡ none
  unbound_next n bs [] s X p e = rw append-nil e
  unbound_next n bs (b ∷ []) s X p e =
      value_of_other bs (record { variable = b.0; value = b.1; equation = n }) X (λ q. true≢false (sym p ∙ ap g.protected q ∙ s.1)) ∙ e
  unbound_next n bs (b ∷ c ∷ l) s X p e = absurd s

-- What holds of a state and of each next one holds of the state in which a run is finished.
abbrev pub AtEnd : (List Equation → List Binding → List Demand → Type 1) → End → Type 1
AtEnd R (limit n) = Unit {1}
AtEnd R (refused r n) = Unit {1}
AtEnd R (finished k bs ds) = R [] bs ds

module _ (g : Ground) (R : List Equation → List Binding → List Demand → Type 1)
    (once : (e : Equation) (es : List Equation) (bs : List Binding) (ds : List Demand) (qs : List (Side × Side)) (b : List (ℕ × Side)) (d : List (ℕ × Subject))
    → R (e ∷ es) bs ds → step g bs e.left e.right ≡ goes_on qs b d
    → R (pending e.number qs ++ es) (bs ++ bindings e.number b) (ds ++ demands e.number d)) where
  next_end : (onward : List Equation → List Binding → List Demand → End)
      → ((es : List Equation) (bs : List Binding) (ds : List Demand) → R es bs ds → AtEnd R (onward es bs ds))
      → (e : Equation) (es : List Equation) (bs : List Binding) (ds : List Demand) → R (e ∷ es) bs ds → (x : Step) → step g bs e.left e.right ≡ x
      → AtEnd R (next onward e.number es bs ds x)
  next_end onward ih e es bs ds r (refuses n) q = tt
  next_end onward ih e es bs ds r (goes_on qs b d) q =
      ih (pending e.number qs ++ es) (bs ++ bindings e.number b) (ds ++ demands e.number d) (once e es bs ds qs b d r q)

  pub run_end : (k : ℕ) (es : List Equation) (bs : List Binding) (ds : List Demand) → R es bs ds → AtEnd R (run g k es bs ds)
  unfolding run
  run_end zero [] bs ds r = r
  run_end zero (e ∷ es) bs ds r = tt
  run_end (suc k) [] bs ds r = r
  run_end (suc k) (e ∷ es) bs ds r =
      next_end (λ es' bs' ds'. run g k es' bs' ds') (λ es' bs' ds' q. run_end k es' bs' ds' q) e es bs ds r (step g bs e.left e.right) refl

-- Where a run of a readable problem starts, whichever variables are protected.
abbrev pub ground_with : Problem → (ℕ → Bool) → Ground
ground_with p is_protected = record { atoms = p.atoms; nodes = p.nodes; protected = is_protected }

equations_fit : (g : Ground) (variables i : ℕ) (es : List Equal)
    → ((e : Equal) → Memᴰ e es → (e.left < length g.nodes) × (e.right < length g.nodes))
    → Every (λ e. BothFit g variables (e.left, e.right)) (equations_from g.atoms i es)
equations_fit g variables i [] h = tt
equations_fit g variables i (e ∷ es) h =
    let k = h e (Memᴰ.head refl) in
    ((fits_plain e.left k.0, fits_plain e.right k.1), equations_fit g variables (suc i) es (λ f m. h f (Memᴰ.tail m)))

pub meaning_none : (nodes : List Node) → meaning nodes [] ≡ variable
unfolding meaning meaning_after
meaning_none nodes = refl

-- The equations of the problem wait, under any bindings from which a run can start.
pub start_from : (p : Problem) (r : Readable p) (is_protected : ℕ → Bool) {bs : List Binding} → Circleless p.atoms p.variables p.nodes bs
    → State (ground_with p is_protected) p.variables r.named_nodes (equations_from p.atoms 0 p.equations) bs []
start_from p r is_protected c = record {
  waiting = equations_fit (ground_with p is_protected) p.variables 0 p.equations r.named_equations;
  meant = meant_circleless (ground_with p is_protected) p.variables r.named_nodes c;
  raised = tt;
}

pub start : (p : Problem) (r : Readable p) (is_protected : ℕ → Bool)
    → State (ground_with p is_protected) p.variables r.named_nodes (equations_from p.atoms 0 p.equations) [] []
start p r is_protected = start_from p r is_protected (circleless_none p.atoms p.variables p.nodes)
