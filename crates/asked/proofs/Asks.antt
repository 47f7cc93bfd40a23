-- What the table of sets asks for: exactly the demands raised, then those and the file's.
use Prim.Native.Nat.{ℕ, ◌<◌}
use native.Mathlib.Omega.{arith}
use mathlib.Core.Path.{◌≡◌, refl, sym, ◌∙◌, ap, ap₂}
use mathlib.Core.Logic.{◌⊎◌, inl, inr, ⊎_elim}
use mathlib.Core.Bool.{Bool, true, false, ◌&&◌, ◌||◌, cond, true≢false}
use mathlib.Core.List.{List, [], ◌∷◌, ◌++◌, Memᴰ}
use mathlib.Core.Option.{Option, none, some}
use lib.ListN.{length, get_or}
use lib.Dec.{eqb}
use borrow.Author.Tests.{eq-eqb, eqb-true}
use Rattle.permutation.specs.Table.{image, inverted}
use Rattle.nominal.specs.Tree.{variable}
use Rattle.nominal.specs.Solutions.{Every}
use Rattle.nominal.proofs.Solutions.{every_at}
use Rattle.sets.specs.Bits.{member}
use Rattle.sets.proofs.Bits.{by_test, or_true, member_within}
use Rattle.problem.specs.Problem.{Fresh, Assumed, Problem}
use Rattle.problem.specs.Readable.{Readable}
use Rattle.problem.specs.Held.{assumes}
use Rattle.run.specs.Meaning.{tree}
use Rattle.run.specs.Run.{Subject, of_variable, of_side, Demand}
use Rattle.run.specs.Answer.{Asked, subject_tree, asked_fresh, asked_assumed, asked_raised}
use Rattle.run.proofs.States.{DemandFits, ground_with}
use Rattle.visit.specs.Pairs.{Pair, of_node, of_variable as pair_of_variable}
use Rattle.fresh.specs.Resolved.{AskedAs, Asks}
use Rattle.fresh.specs.Marks.{Demanded, atom_of}
use Rattle.fresh.proofs.Asked.{asked_node, asked_variable, asked_side, asks_append, asks_same, asks_map}
use Rattle.demands.specs.Demands.{Sheet, asked_of_nodes, asked_of_variables, atoms_at, is_of_node, is_of_variable, first_raised, PlaceTells, Raised}
use Rattle.demands.proofs.Laws.{inverted_lt}
use Rattle.asked.specs.Added.{asks_fresh, FreshnessAdded, AssumptionsAdded, Words}

-- ---- tests and what they find

never : {R : Type 0} → ◌≡◌ {A = Bool} false true → R
never e = absurd (true≢false (sym e))

both : (x y : Bool) → (x && y) ≡ true → (x ≡ true) × (y ≡ true)
both true y e = (refl, e)
both false y e = never e

either : (x y : Bool) → (x || y) ≡ true → (x ≡ true) ⊎ (y ≡ true)
either true y e = inl refl
either false y e = inr e

-- A demand that passes a test is found, and what is found passes it.
found : (f : ℕ → Subject → Bool) (ds : List Demand) (x : Demand) → Memᴰ x ds → f x.atom x.subject ≡ true → (e : ℕ) × (first_raised f ds ≡ some e)
found f [] x m t = elim m [ ]
found f (d ∷ ds) x (Memᴰ.head e) t = (d.equation, rw (sym (ap (λ (y : Demand). f y.atom y.subject) e) ∙ t))
found f (d ∷ ds) x (Memᴰ.tail m) t =
    let (e, q) = found f ds x m t in
    by_test (f d.atom d.subject) (λ y. (d.equation, rw y)) (λ n. (e, rw n q))

find : (f : ℕ → Subject → Bool) (ds : List Demand) (e : ℕ) → first_raised f ds ≡ some e → (x : Demand) × Memᴰ x ds × (f x.atom x.subject ≡ true)
find f [] e q = absurd (let z : ◌≡◌ {A = ℕ} 0 1 = cc in omega arith)
find f (d ∷ ds) e q = further (find f ds e) (f d.atom d.subject) refl q
  where
    further : (first_raised f ds ≡ some e → (x : Demand) × Memᴰ x ds × (f x.atom x.subject ≡ true)) → (c : Bool) → f d.atom d.subject ≡ c
        → cond c (some d.equation) (first_raised f ds) ≡ some e → (x : Demand) × Memᴰ x (d ∷ ds) × (f x.atom x.subject ≡ true)
    further r true y q = (d, Memᴰ.head refl, y)
    further r false y q = let (x, m, t) = r q in (x, Memᴰ.tail m, t)

told_true : (o : Option ℕ) (m : Bool) (k e : ℕ) → PlaceTells o m k → o ≡ some e → m ≡ true
told_true o m k e t q = (rw q at t).0

told_some : (o : Option ℕ) (m : Bool) (k : ℕ) → PlaceTells o m k → m ≡ true → (e : ℕ) × (o ≡ some e)
told_some none m k t h = never (sym t ∙ h)
told_some (some e) m k t h = (e, refl)

-- ---- the demands raised

-- A demand as a pair: one on a side is one on its node.
abbrev subject_pair : ℕ → Subject → Pair
subject_pair a (of_variable X) = pair_of_variable a X
subject_pair a (of_side s) = of_node (image (inverted s.images) a) s.node

abbrev raised_pair : Demand → Pair
raised_pair d = subject_pair d.atom d.subject

node_pair : (n b a : ℕ) (s : Subject) → is_of_node n b a s ≡ true → of_node b n ≡ subject_pair a s
node_pair n b a (of_variable X) t = never t
node_pair n b a (of_side s) t =
    let (x, y) = both (eqb n s.node) (eqb b (image (inverted s.images) a)) t in
    ap₂ of_node (eqb-true b (image (inverted s.images) a) y) (eqb-true n s.node x)

variable_pair : (X b a : ℕ) (s : Subject) → is_of_variable X b a s ≡ true → pair_of_variable b X ≡ subject_pair a s
variable_pair X b a (of_side s) t = never t
variable_pair X b a (of_variable Y) t = let (x, y) = both (eqb X Y) (eqb b a) t in ap₂ pair_of_variable (eqb-true b a y) (eqb-true X Y x)

module _ (p : Problem) (r : Readable p) (is_protected : ℕ → Bool) where
  -- A demand on a side or a variable that is there.
  abbrev Fitting : Demand → Type 0
  Fitting d = DemandFits (ground_with p is_protected) p.variables (d.atom, d.subject)

  as_pair : (a : ℕ) (s : Subject) → DemandFits (ground_with p is_protected) p.variables (a, s)
      → AskedAs p.nodes (a, subject_tree p.nodes s) (subject_pair a s)
  as_pair a (of_variable X) f = asked_variable p.nodes a X
  as_pair a (of_side s) f = asked_side p.nodes a s f.1.images

  as_pairs : (l : List Demand) → Every Fitting l → Every (λ d. AskedAs p.nodes (d.atom, subject_tree p.nodes d.subject) (raised_pair d)) l
  as_pairs [] h = tt
  as_pairs (d ∷ l) h = (as_pair d.atom d.subject h.0, as_pairs l h.1)

  subject_small : (a : ℕ) (s : Subject) → DemandFits (ground_with p is_protected) p.variables (a, s) → atom_of (subject_pair a s) < p.atoms
  subject_small a (of_variable X) f = f.0
  subject_small a (of_side s) f =
      let long = f.1.images.long in
      let within : a < length s.images = omega (arith, f.0, long) in
      omega (arith, inverted_lt s.images a within, long)

  module _ (ds : List Demand) (fits : Every Fitting ds) (t : Sheet) (h : Raised (length p.nodes) p.variables ds t) where
    -- What was raised is in the table.
    into : (k a : ℕ) (s : Subject) → Memᴰ (record { equation = k; atom = a; subject = s }) ds
        → DemandFits (ground_with p is_protected) p.variables (a, s) → Demanded p t.asked (subject_pair a s)
    into k a (of_variable X) m f =
        let small : a < 32 = omega (arith, f.0, r.few_atoms) in
        let (e, q) = found (is_of_variable X a) ds (record { equation = k; atom = a; subject = of_variable X }) m (rw (eq-eqb X X refl, eq-eqb a a refl)) in
        (f.1, told_true (first_raised (is_of_variable X a) ds) (member (atoms_at t 1 X) a) _ e (h.variables_told X a f.1 small) q)
    into k a (of_side s) m f =
        let b : ℕ = image (inverted s.images) a in
        let n : ℕ = s.node in
        let small : b < 32 = omega (arith, subject_small a (of_side s) f, r.few_atoms) in
        let (e, q) = found (is_of_node n b) ds (record { equation = k; atom = a; subject = of_side s }) m (rw (eq-eqb n n refl, eq-eqb b b refl)) in
        (f.1.there, told_true (first_raised (is_of_node n b) ds) (member (atoms_at t 0 n) b) _ e (h.nodes_told n b f.1.there small) q)

    module _ (words_nodes : Words (asked_of_nodes t.asked)) (words_variables : Words (asked_of_variables t.asked)) where
      -- What is in the table was raised.
      back : (w : Pair) → Demanded p t.asked w → (x : Demand) × Memᴰ x ds × (w ≡ raised_pair x)
      back (of_node b n) (l, m) =
          let told = h.nodes_told n b l (member_within 32 (atoms_at t 0 n) b (words_nodes n) m) in
          let (e, q) = told_some (first_raised (is_of_node n b) ds) (member (atoms_at t 0 n) b) _ told m in
          let (x, i, y) = find (is_of_node n b) ds e q in (x, i, node_pair n b x.atom x.subject y)
      back (pair_of_variable b X) (l, m) =
          let told = h.variables_told X b l (member_within 32 (atoms_at t 1 X) b (words_variables X) m) in
          let (e, q) = told_some (first_raised (is_of_variable X b) ds) (member (atoms_at t 1 X) b) _ told m in
          let (x, i, y) = find (is_of_variable X b) ds e q in (x, i, variable_pair X b x.atom x.subject y)

      -- When the run is over, the table asks for what it raised.
      pub raised_asks : Asks p.nodes (asked_raised p.nodes ds) (Demanded p t.asked)
      raised_asks =
          asks_same p.nodes
          (λ w. (λ (d, m, e). rw e (into d.equation d.atom d.subject m (every_at Fitting m fits)), back w))
          (asks_map p.nodes (λ d. (d.atom, subject_tree p.nodes d.subject)) raised_pair ds (as_pairs ds fits))

      -- Only atoms that are there are asked for.
      pub raised_small : (w : Pair) → Demanded p t.asked w → atom_of w < p.atoms
      raised_small w k =
          let (d, m, e) = back w k in
          rw e (subject_small d.atom d.subject (every_at Fitting m fits))

-- ---- the file's demands

abbrev demanded_pair : Fresh → Pair
demanded_pair d = of_node d.atom d.node

abbrev assumed_pair : Assumed → Pair
assumed_pair d = pair_of_variable d.atom d.variable

-- A field asks for the pair.
abbrev FreshIn : List Fresh → Pair → Type 0
FreshIn ds w = (d : Fresh) × Memᴰ d ds × (w ≡ demanded_pair d)

abbrev AssumedIn : List Assumed → Pair → Type 0
AssumedIn ds w = (d : Assumed) × Memᴰ d ds × (w ≡ assumed_pair d)

fresh_in : (ds : List Fresh) (d : Fresh) → Memᴰ d ds → asks_fresh ds d.atom d.node ≡ true
fresh_in [] d m = elim m [ ]
fresh_in (e ∷ ds) d (Memᴰ.head q) = rw (← q, eq-eqb d.node d.node refl, eq-eqb d.atom d.atom refl)
fresh_in (e ∷ ds) d (Memᴰ.tail m) = rw (fresh_in ds d m) (or_true (eqb e.node d.node && eqb e.atom d.atom))

fresh_found : (ds : List Fresh) (a n : ℕ) → asks_fresh ds a n ≡ true → FreshIn ds (of_node a n)
fresh_found [] a n t = never t
fresh_found (e ∷ ds) a n t = go (fresh_found ds a n) (either (eqb e.node n && eqb e.atom a) (asks_fresh ds a n) t)
  where
    go : (asks_fresh ds a n ≡ true → FreshIn ds (of_node a n)) → ((eqb e.node n && eqb e.atom a) ≡ true) ⊎ (asks_fresh ds a n ≡ true)
        → FreshIn (e ∷ ds) (of_node a n)
    go r (inl q) =
        let (same_node, same_atom) = both (eqb e.node n) (eqb e.atom a) q in
        (e, Memᴰ.head refl, ap₂ of_node (sym (eqb-true e.atom a same_atom)) (sym (eqb-true e.node n same_node)))
    go r (inr q) = let (d, m, x) = r q in (d, Memᴰ.tail m, x)

assumed_in : (ds : List Assumed) (d : Assumed) → Memᴰ d ds → assumes ds d.atom d.variable ≡ true
assumed_in [] d m = elim m [ ]
assumed_in (e ∷ ds) d (Memᴰ.head q) = rw (← q, eq-eqb d.atom d.atom refl, eq-eqb d.variable d.variable refl)
assumed_in (e ∷ ds) d (Memᴰ.tail m) = rw (assumed_in ds d m) (or_true (eqb e.atom d.atom && eqb e.variable d.variable))

assumed_found : (ds : List Assumed) (a X : ℕ) → assumes ds a X ≡ true → AssumedIn ds (pair_of_variable a X)
assumed_found [] a X t = never t
assumed_found (e ∷ ds) a X t = go (assumed_found ds a X) (either (eqb e.atom a && eqb e.variable X) (assumes ds a X) t)
  where
    go : (assumes ds a X ≡ true → AssumedIn ds (pair_of_variable a X)) → ((eqb e.atom a && eqb e.variable X) ≡ true) ⊎ (assumes ds a X ≡ true)
        → AssumedIn (e ∷ ds) (pair_of_variable a X)
    go r (inl q) =
        let (same_atom, same_variable) = both (eqb e.atom a) (eqb e.variable X) q in
        (e, Memᴰ.head refl, ap₂ pair_of_variable (sym (eqb-true e.atom a same_atom)) (sym (eqb-true e.variable X same_variable)))
    go r (inr q) = let (d, m, x) = r q in (d, Memᴰ.tail m, x)

module _ (p : Problem) where
  fresh_each : (l : List Fresh) → Every (λ d. AskedAs p.nodes (d.atom, tree p.nodes d.node) (demanded_pair d)) l
  fresh_each [] = tt
  fresh_each (d ∷ l) = (asked_node p.nodes d.atom d.node, fresh_each l)

  fresh_asks : Asks p.nodes (asked_fresh p.nodes p.freshness) (FreshIn p.freshness)
  fresh_asks = asks_map p.nodes (λ d. (d.atom, tree p.nodes d.node)) demanded_pair p.freshness (fresh_each p.freshness)

  assumed_each : (l : List Assumed) → Every (λ d. AskedAs p.nodes (d.atom, variable d.variable) (assumed_pair d)) l
  assumed_each [] = tt
  assumed_each (d ∷ l) = (asked_variable p.nodes d.atom d.variable, assumed_each l)

  assumed_asks : Asks p.nodes (asked_assumed p.assumptions) (AssumedIn p.assumptions)
  assumed_asks = asks_map p.nodes (λ d. (d.atom, variable d.variable)) assumed_pair p.assumptions (assumed_each p.assumptions)

-- ---- the freshness fields added

module _ (p : Problem) (r : Readable p) (before after : List (List ℕ)) (f : FreshnessAdded p.freshness before after) where
  -- A pair of the table is a field's or was there; and both are in it.
  fresh_back : (w : Pair) → Demanded p after w → FreshIn p.freshness w ⊎ Demanded p before w
  fresh_back (pair_of_variable a X) k = inr (rw f.others at k)
  fresh_back (of_node a n) (l, m) = go (either (asks_fresh p.freshness a n) (member (get_or (asked_of_nodes before) n 0) a) (sym (f.marks n a) ∙ m))
    where
      go : (asks_fresh p.freshness a n ≡ true) ⊎ (member (get_or (asked_of_nodes before) n 0) a ≡ true)
          → FreshIn p.freshness (of_node a n) ⊎ Demanded p before (of_node a n)
      go (inl q) = inl (fresh_found p.freshness a n q)
      go (inr q) = inr (l, q)

  fresh_kept : (w : Pair) → Demanded p before w → Demanded p after w
  fresh_kept (pair_of_variable a X) k = rw f.others k
  fresh_kept (of_node a n) (l, m) = (l, f.marks n a ∙ rw m (or_true (asks_fresh p.freshness a n)))

  fresh_marked : (w : Pair) → FreshIn p.freshness w → Demanded p after w
  fresh_marked w (d, m, e) = rw e ((r.named_freshness d m).1, f.marks d.node d.atom ∙ rw (fresh_in p.freshness d m))

  -- "the demands of tags 21 .. and those" that the table asked for
  pub freshness_asks : {asked : List Asked} → Asks p.nodes asked (Demanded p before)
      → Asks p.nodes (asked_fresh p.nodes p.freshness ++ asked) (Demanded p after)
  freshness_asks a = asks_same p.nodes (λ w. (⊎_elim (fresh_marked w) (fresh_kept w), fresh_back w)) (asks_append p.nodes (fresh_asks p) a)

  pub fresh_small : ((w : Pair) → Demanded p before w → atom_of w < p.atoms) → (w : Pair) → Demanded p after w → atom_of w < p.atoms
  fresh_small h w k = ⊎_elim (λ q. rw q.2 (r.named_freshness q.0 q.1).0) (h w) (fresh_back w k)

-- ---- the assumptions added

module _ (p : Problem) (r : Readable p) (assumed : List ℕ) (before after : List (List ℕ))
    (held : (a X : ℕ) → X < p.variables → member (get_or assumed X 0) a ≡ assumes p.assumptions a X)
    (f : AssumptionsAdded p.variables assumed before after) where
  -- The same of an assumption.
  assumed_back : (w : Pair) → Demanded p after w → AssumedIn p.assumptions w ⊎ Demanded p before w
  assumed_back (of_node a n) k = inr (rw f.others at k)
  assumed_back (pair_of_variable a X) (l, m) =
      go (either (member (get_or assumed X 0) a) (member (get_or (asked_of_variables before) X 0) a) (sym (f.marks X a l) ∙ m))
    where
      go : (member (get_or assumed X 0) a ≡ true) ⊎ (member (get_or (asked_of_variables before) X 0) a ≡ true)
          → AssumedIn p.assumptions (pair_of_variable a X) ⊎ Demanded p before (pair_of_variable a X)
      go (inl q) = inl (assumed_found p.assumptions a X (sym (held a X l) ∙ q))
      go (inr q) = inr (l, q)

  assumed_kept : (w : Pair) → Demanded p before w → Demanded p after w
  assumed_kept (of_node a n) k = rw f.others k
  assumed_kept (pair_of_variable a X) (l, m) = (l, f.marks X a l ∙ rw m (or_true (member (get_or assumed X 0) a)))

  assumed_marked : (w : Pair) → AssumedIn p.assumptions w → Demanded p after w
  assumed_marked w (d, m, e) =
      let l : d.variable < p.variables = (r.named_assumptions d m).1 in
      rw e (l, f.marks d.variable d.atom l ∙ rw (held d.atom d.variable l ∙ assumed_in p.assumptions d m))

  -- ".. and 22"
  pub assumptions_asks : {asked : List Asked} → Asks p.nodes asked (Demanded p before)
      → Asks p.nodes (asked_assumed p.assumptions ++ asked) (Demanded p after)
  assumptions_asks a =
      asks_same p.nodes (λ w. (⊎_elim (assumed_marked w) (assumed_kept w), assumed_back w)) (asks_append p.nodes (assumed_asks p) a)

  pub assumed_small : ((w : Pair) → Demanded p before w → atom_of w < p.atoms) → (w : Pair) → Demanded p after w → atom_of w < p.atoms
  assumed_small h w k = ⊎_elim (λ q. rw q.2 (r.named_assumptions q.0 q.1).0) (h w) (assumed_back w k)
