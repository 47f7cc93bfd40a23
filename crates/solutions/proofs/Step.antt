-- The step lemma: for every environment and every substitution that takes the bindings for equations and leaves alone what is protected and unbound,
-- an equation is derivable exactly if all that comes of its step is; a refusing step leaves nothing. Over any bindings that have a meaning.
use Prim.Native.Nat.{ℕ, ◌<◌}
use native.Mathlib.Omega.{arith}
use mathlib.Core.Path.{◌≡◌, refl, sym, ◌∙◌, ap}
use mathlib.Core.Logic.Iff
use mathlib.Core.Logic.{◌≢◌, ◌↔◌}
use mathlib.Core.Bool.{true}
use mathlib.Core.List.{List, [], ◌∷◌, map, Memᴰ}
use mathlib.Core.Option.{none}
use lib.ListN.{length}
use Rattle.names.proofs.Equal.{by_lt}
use Rattle.permutation.specs.Swaps.{Swaps, act, inverse, Disagree}
use Rattle.permutation.specs.Table.{Table, image, inverted, disagreement, swaps_of}
use Rattle.permutation.proofs.Table.{image_out, mem_disagreement}
use Rattle.nominal.specs.Tree.{Tree, suspension, variable, permute, Occurs, Substitution, substitute}
use Rattle.nominal.specs.Form.{form}
use Rattle.nominal.specs.Figure2.{Environment, ≈-unit, ≈-atom}
use Rattle.nominal.specs.Solutions.{Every, Meets, Equates, Satisfies}
use Rattle.nominal.proofs.Laws.{equal_symmetric, equal_transitive}
use Rattle.nominal.proofs.Solutions.{satisfies_tree}
use Rattle.nominal.proofs.Steps.{form_substitute, step_pair, step_application, step_abstraction_same, step_abstraction_other, step_suspension, step_variable}
use Rattle.nominal.proofs.Steps.{occurs_refused, forms_refused, atoms_refused, symbols_refused, protected_refused, two_protected_refused}
use Rattle.problem.specs.Problem.{Form, unit_form, atom_form, abstraction_form, pair_form, application_form, suspension_form, Node, form_at}
use Rattle.problem.specs.Readable.{Named}
use Rattle.run.specs.Meaning.{Side, side_tree, Binding, meaning}
use Rattle.run.specs.Run.{Ground, Subject, of_variable, value_of, under, resolved, Step, refuses, goes_on, step}
use Rattle.run.specs.Answer.{subject_tree}
use Rattle.nominal.specs.Same.{Same}
use Rattle.run.proofs.Same.{same_symmetric, same_transitive, same_permute, same_substitute, same_equal, alike_inverse}
use Rattle.run.proofs.Trees.{Permuting, Fits, act_permuting, tree_under_inverted, tree_under_swap, Shows, TopFits, top_shows, top_fits}
use Rattle.run.proofs.Tops.{kind}
use Rattle.run.proofs.Did.{Did, step_did, Root, suspended, otherwise, root, NotOf, two_units, same_atoms, same_abstractions, other_abstractions}
use Rattle.run.proofs.Did.{two_pairs, same_symbols, from_one_variable, left_bound, right_bound, left_inside, right_inside, left_protected, right_protected}
use Rattle.run.proofs.Did.{both_protected, different_forms, different_atoms, different_symbols}
use Rattle.run.proofs.Questions.{occurs_in_true}
use Rattle.run.proofs.Bindings.{Settled, Meant, resolved_fits, resolved_equal}

-- What the parts of a step ask of a pair.
module _ (nodes : List Node) (∇ : Environment) (τ : Substitution) where
  abbrev pub SidesEqual : Side × Side → Type 0
  SidesEqual q = Equates ∇ τ (side_tree nodes q.0, side_tree nodes q.1)

  abbrev pub ValueEqual : ℕ × Side → Type 0
  ValueEqual b = Equates ∇ τ (variable b.0, side_tree nodes b.1)

  abbrev pub SubjectMeets : ℕ × Subject → Type 0
  SubjectMeets d = Meets ∇ τ (d.0, subject_tree nodes d.1)

  -- All that comes of a step; of a refusing one, nothing that any pair could meet.
  abbrev pub Comes : Step → Type 0
  Comes (refuses r) = ⊥
  Comes (goes_on qs b d) = Every SidesEqual qs × Every ValueEqual b × Every SubjectMeets d

-- Trees that are the same may stand for one another.
module _ {∇ : Environment} (τ : Substitution) where
  pub equates_same : {s s' t t' : Tree} → Same s s' → Same t t' → Equates ∇ τ (s, t) → Equates ∇ τ (s', t')
  equates_same p q e = equal_transitive (equal_symmetric (same_equal (same_substitute τ p))) (equal_transitive e (same_equal (same_substitute τ q)))

  pub equates_right : (s : Tree) {t t' : Tree} → Same t t' → Equates ∇ τ (s, t) ↔ Equates ∇ τ (s, t')
  equates_right s q = (λ e. equal_transitive e (same_equal (same_substitute τ q)), λ e. equal_transitive e (equal_symmetric (same_equal (same_substitute τ q))))

-- A top has its tree's form.
pub shows_form : (nodes : List Node) (t : Tree) (w : Form Table Side) → Shows nodes t w → form t ≡ kind w
shows_form nodes t unit_form e = ap form e
shows_form nodes t (atom_form a) e = ap form e
shows_form nodes t (abstraction_form a s) e = ap form e
shows_form nodes t (pair_form l r) e = ap form e
shows_form nodes t (application_form f s) e = ap form e
shows_form nodes t (suspension_form P X) e = ap form e.1

module _ (g : Ground) (variables : ℕ) (named : (n : ℕ) → Named g.atoms variables n (form_at g.nodes n)) {bs : List Binding}
    (m : Meant g variables bs (meaning g.nodes bs)) where
  abbrev σ : Substitution
  σ = meaning g.nodes bs

  -- Under the bindings a settled side does not become a suspension of X, unless it is one.
  not_root : (t : Tree) (X : ℕ) {w : Form Table Side} → Root w → Shows g.nodes t w → Settled bs w → NotOf X w → (κ : Swaps) → substitute σ t ≢ suspension κ X
  not_root t X (suspended Q Y) e s n κ q =
      let k : permute e.0 (variable Y) ≡ suspension κ X = rw (e.1, m.free Y (s Q Y refl)) at q in
      n Q (let y : Y ≡ X = cc in ap (suspension_form Q) y)
  not_root t X {w} (otherwise d) e s n κ q =
      let f : form t ≡ kind w = shows_form g.nodes t w e in d (sym f ∙ (sym (form_substitute σ t (λ z. d (sym f ∙ z))) ∙ ap form q))

  module _ (∇ : Environment) (τ : Substitution) (left : (X : ℕ) → g.protected X ≡ true → value_of bs X ≡ none → τ X ≡ variable X) (h : Satisfies ∇ τ σ) where
    abbrev Says : Step → Type 0
    Says = Comes g.nodes ∇ τ

    -- 10: a variable inside its own value.
    inside_refused : (ρ : Swaps) (X : ℕ) (t : Tree) → Occurs X (substitute σ t) → ((κ : Swaps) → substitute σ t ≢ suspension κ X)
        → Equates ∇ τ (suspension ρ X, t) → ⊥
    inside_refused ρ X t o n e = occurs_refused τ ρ X (substitute σ t) o n (equal_transitive e (satisfies_tree τ σ h t))

    -- "X becomes the inverse of P applied to the right side."
    bound_equal : (ρ : Swaps) (P : Table) (X : ℕ) (t : Side) → Permuting g.atoms P → ((a : ℕ) → act ρ a ≡ image P a) → Fits g.atoms g.nodes t
        → Equates ∇ τ (suspension ρ X, side_tree g.nodes t) ↔ ValueEqual g.nodes ∇ τ (X, under (inverted P) t)
    bound_equal ρ P X t p a f =
        Iff.trans (step_variable τ ρ X (side_tree g.nodes t))
        (equates_right τ (variable X) (same_transitive
        (same_permute (inverse ρ) (inverse (swaps_of P)) (alike_inverse ρ (swaps_of P) (λ c. a c ∙ sym (act_permuting p c))) (side_tree g.nodes t))
        (same_symmetric (tree_under_inverted g.nodes p f))))

    -- "each atom of the disagreement set is demanded fresh for X"
    raised_of : (P Q : Table) (X : ℕ) → ((a : ℕ) → image P a ≢ image Q a → Meets ∇ τ (a, variable X))
        → (l : List ℕ) → ((a : ℕ) → Memᴰ a l → image P a ≢ image Q a) → Every (SubjectMeets g.nodes ∇ τ) (map (λ a. (a, of_variable X)) l)
    raised_of P Q X k [] i = tt
    raised_of P Q X k (a ∷ l) i = (k a (i a (Memᴰ.head refl)), raised_of P Q X k l (λ b n. i b (Memᴰ.tail n)))

    raised_at : (X : ℕ) (l : List ℕ) → Every (SubjectMeets g.nodes ∇ τ) (map (λ a. (a, of_variable X)) l) → (a : ℕ) → Memᴰ a l
        → Meets ∇ τ (a, variable X)
    raised_at X [] k a n = elim n [ ]
    raised_at X (b ∷ l) k a (Memᴰ.head e) = rw e k.0
    raised_at X (b ∷ l) k a (Memᴰ.tail n) = raised_at X l k.1 a n

    variable_equal : (π ρ : Swaps) (P Q : Table) (X : ℕ) → Permuting g.atoms P → Permuting g.atoms Q → ((a : ℕ) → act π a ≡ image P a)
        → ((a : ℕ) → act ρ a ≡ image Q a)
        → Equates ∇ τ (suspension π X, suspension ρ X) ↔ Every (SubjectMeets g.nodes ∇ τ) (map (λ a. (a, of_variable X)) (disagreement P Q))
    variable_equal π ρ P Q X p q a b = (
      λ e. raised_of P Q X (λ c n. (step_suspension τ π ρ X).0 e c (λ k. n (sym (a c) ∙ k ∙ b c))) (disagreement P Q) (λ c n. ((mem_disagreement P Q c).0 n).1),
      λ k. (step_suspension τ π ρ X).1 (λ c n. raised_at X (disagreement P Q) k c ((mem_disagreement P Q c).1 (inside c n, λ e. n (a c ∙ e ∙ sym (b c))))),
    )
      where
        inside : (c : ℕ) → Disagree π ρ c → c < length P
        inside c n =
            by_lt c (length P) (λ l. l) λ l.
            absurd (n (a c ∙ (image_out P c l ∙ sym (b c ∙ image_out Q c (let i = p.long in let j = q.long in omega arith)))))

    did_comes : (s t : Side) → Fits g.atoms g.nodes s → Fits g.atoms g.nodes t → {v w : Form Table Side} {x : Step} → Did g bs s t v w x
        → Shows g.nodes (side_tree g.nodes s) v → Shows g.nodes (side_tree g.nodes t) w → TopFits g.atoms variables g.nodes s.node v
        → TopFits g.atoms variables g.nodes t.node w
        → Settled bs v → Settled bs w → SidesEqual g.nodes ∇ τ (s, t) ↔ Says x
    did_comes s t f k two_units p q i j a b = (λ e. (tt, tt, tt), λ c. rw (p, q) ≈-unit)
    did_comes s t f k same_atoms p q i j a b = (λ e. (tt, tt, tt), λ c. rw (p, q) ≈-atom)
    did_comes s t f k (same_abstractions {a = c} {u = u} {v = v}) p q i j a b =
        let x = step_abstraction_same τ c (side_tree g.nodes u) (side_tree g.nodes v) in rw (p, q) (λ e. ((x.0 e, tt), tt, tt), λ y. x.1 y.0.0)
    did_comes s t f k (other_abstractions {a = c} {b = d} {u = u} {v = v} n) p q i j a b =
        let x = step_abstraction_other τ c d (side_tree g.nodes u) (side_tree g.nodes v) n in
        let y = equates_right τ (side_tree g.nodes u) (same_symmetric (tree_under_swap g.nodes c d i.0 j.0 j.1)) in
        rw (p, q) (λ e. let z = x.0 e in ((y.0 z.0, tt), tt, (z.1, tt)), λ z. x.1 (y.1 z.0.0, z.2.0))
    did_comes s t f k (two_pairs {l = l} {r = r} {v = v} {w = w}) p q i j a b =
        let x = step_pair τ (side_tree g.nodes l) (side_tree g.nodes r) (side_tree g.nodes v) (side_tree g.nodes w) in
        rw (p, q) (λ e. let z = x.0 e in ((z.0, (z.1, tt)), tt, tt), λ z. x.1 (z.0.0, z.0.1.0))
    did_comes s t f k (same_symbols {f = c} {u = u} {v = v}) p q i j a b =
        let x = step_application τ c (side_tree g.nodes u) (side_tree g.nodes v) in rw (p, q) (λ e. ((x.0 e, tt), tt, tt), λ y. x.1 y.0.0)
    did_comes s t f k (from_one_variable {P = P} {Q = Q} {X = X}) p q i j a b =
        let x = variable_equal p.0 q.0 P Q X i.0 j.0 p.2 q.2 in
        rw (p.1, q.1) (λ e. (tt, tt, x.0 e), λ y. x.1 y.2)
    did_comes s t f k (left_bound {P = P} {X = X} n u o) p q i j a b =
        let x = bound_equal p.0 P X t i.0 p.2 k in rw p.1 (λ e. (tt, (x.0 e, tt), tt), λ y. x.1 y.1.0)
    did_comes s t f k (right_bound {Q = Q} {Y = Y} n l u o) p q i j a b =
        let x = bound_equal q.0 Q Y s j.0 q.2 f in rw q.1 (λ e. (tt, (x.0 (equal_symmetric e), tt), tt), λ y. equal_symmetric (x.1 y.1.0))
    did_comes s t f k (left_inside {X = X} {w = w} n u o) p q i j a b =
        rw p.1 (
          inside_refused p.0 X (side_tree g.nodes t) (occurs_in_true X (substitute σ (side_tree g.nodes t)) o)
              (not_root (side_tree g.nodes t) X (root w) q b n),
          λ c. absurd c,
        )
    did_comes s t f k (right_inside {v = v} {Y = Y} n l u o) p q i j a b =
        rw q.1 (
          λ e. inside_refused q.0 Y (side_tree g.nodes s) (occurs_in_true Y (substitute σ (side_tree g.nodes s)) o)
              (not_root (side_tree g.nodes s) Y (root v) p a n) (equal_symmetric e),
          λ c. absurd c,
        )
    did_comes s t f k (left_protected {P = P} {X = X} {w = w} n u) p q i j a b =
        rw p.1 (
          protected_refused τ p.0 X (side_tree g.nodes t) (left X u (a P X refl))
              (λ e. n (sym (shows_form g.nodes (side_tree g.nodes t) w q) ∙ e)),
          λ c. absurd c,
        )
    did_comes s t f k (right_protected {v = v} {Q = Q} {Y = Y} n u) p q i j a b =
        rw q.1 (
          λ e. protected_refused τ q.0 Y (side_tree g.nodes s) (left Y u (b Q Y refl))
              (λ e. n (sym (shows_form g.nodes (side_tree g.nodes s) v p) ∙ e)) (equal_symmetric e),
          λ c. absurd c,
        )
    did_comes s t f k (both_protected {P = P} {Q = Q} {X = X} {Y = Y} n u l) p q i j a b =
        rw (p.1, q.1) (two_protected_refused τ p.0 q.0 X Y (left X u (a P X refl)) (left Y l (b Q Y refl)) n, λ c. absurd c)
    did_comes s t f k (different_forms {v = v} {w = w} n l d) p q i j a b =
        let x = shows_form g.nodes (side_tree g.nodes s) v p in
        let y = shows_form g.nodes (side_tree g.nodes t) w q in
        (forms_refused τ (side_tree g.nodes s) (side_tree g.nodes t) (λ e. n (sym x ∙ e)) (λ e. l (sym y ∙ e)) (λ e. d (sym x ∙ e ∙ y)), λ c. absurd c)
    did_comes s t f k (different_atoms {a = c} {b = d} n) p q i j a b = rw (p, q) (atoms_refused τ c d n, λ c. absurd c)
    did_comes s t f k (different_symbols {f = c} {h = d} {u = u} {v = v} n) p q i j a b =
        rw (p, q) (symbols_refused τ c d (side_tree g.nodes u) (side_tree g.nodes v) n, λ c. absurd c)

    pub step_comes : (l r : Side) → Fits g.atoms g.nodes l → Fits g.atoms g.nodes r → SidesEqual g.nodes ∇ τ (l, r) ↔ Says (step g bs l r)
    step_comes l r f k =
        let s : Side = resolved g bs l in
        let t : Side = resolved g bs r in
        let i : Fits g.atoms g.nodes s = resolved_fits g variables named m l f in
        let j : Fits g.atoms g.nodes t = resolved_fits g variables named m r k in
        let a = resolved_equal g variables named m τ h l f in
        let b = resolved_equal g variables named m τ h r k in
        let x = did_comes s t i j (step_did g bs l r) (top_shows g variables named s i.images) (top_shows g variables named t j.images)
        (top_fits g variables named s i) (top_fits g variables named t j) (m.settles l) (m.settles r) in
        (λ e. x.0 (equal_transitive (equal_symmetric a) (equal_transitive e b)), λ c. equal_transitive a (equal_transitive (x.1 c) (equal_symmetric b)))
