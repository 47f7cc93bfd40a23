-- What is reached through bindings is what occurs under their meaning: for an unbound variable the answer over sets is the definition's.
use Prim.Native.Nat.{ℕ, ◌<◌}
use mathlib.Core.Path.{◌≡◌, refl, sym, ◌∙◌}
use mathlib.Core.Bool.{Bool, true}
use mathlib.Core.List.{List, [], ◌∷◌, Memᴰ}
use mathlib.Core.Option.{none}
use lib.ListN.{length, get_or}
use Rattle.names.proofs.Equal.{by_eq}
use Rattle.sets.specs.Bits.{member}
use Rattle.sets.proofs.Bits.{by_test, by_member}
use Rattle.nominal.specs.Tree.{Tree, variable, Occurs, Substitution, substitute, composed, replacing}
use Rattle.nominal.proofs.Tree.{occurs_permute, occurs_substitute, occurs_substituted}
use Rattle.nominal.proofs.Replacing.{replacing_same, replacing_other}
use Rattle.problem.specs.Problem.{Node}
use Rattle.run.specs.Meaning.{tree, Side, side_tree, Binding, meaning_after, meaning, occurs_in}
use Rattle.run.specs.Run.{Ground, value_of}
use Rattle.run.proofs.Questions.{occurs_in_true, occurs_in_false}
use Rattle.run.proofs.Bindings.{Meant}
use Rattle.occurs.specs.Reached.{FilledBelow, VariableReached, inside, through, OccursAnswered, Rooted}
use Rattle.occurs.proofs.Sets.{apart}

-- ---- a set that is closed under bindings keeps its variables' meanings

module _ (nodes : List Node) (C : ℕ → Type 0) where
  abbrev Kept : Substitution → Type 0
  Kept σ = (Y Z : ℕ) → C Y → Occurs Z (σ Y) → C Z

  abbrev ClosedAt : Binding → Type 0
  ClosedAt b = (U : ℕ) → C b.variable → Occurs U (side_tree nodes b.value) → C U

  -- What a binding's value stands for, with what the bindings before it stand for.
  abbrev worth : Substitution → Binding → Tree
  worth σ b = substitute σ (side_tree nodes b.value)

  abbrev further : Substitution → Binding → Substitution
  further σ b = composed (replacing b.variable (worth σ b)) σ

  kept_one : (σ : Substitution) (b : Binding) → Kept σ → ClosedAt b → Kept (further σ b)
  kept_one σ b k h Y Z y o =
      let (W, i, j) = occurs_substitute (replacing b.variable (worth σ b)) Z (σ Y) o in
      by_eq W b.variable
      (λ q.
      let n : Occurs Z (worth σ b) = rw (q, replacing_same) at j in
      let (U, u, v) = occurs_substitute σ Z (side_tree nodes b.value) n in
      k U Z (h U (rw q at (k Y W y i)) u) v)
      (λ d. let n : Z ≡ W = rw (replacing_other b.variable (worth σ b) W d) at j in rw n (k Y W y i))

  kept_after : (σ : Substitution) (bs : List Binding) → Kept σ → ((b : Binding) → Memᴰ b bs → ClosedAt b) → Kept (meaning_after nodes σ bs)
  unfolding meaning_after
  kept_after σ [] k h = k
  kept_after σ (b ∷ bs) k h = kept_after (further σ b) bs (kept_one σ b k (h b (Memᴰ.head refl))) (λ c m. h c (Memᴰ.tail m))

  -- No order and no end of the bindings is asked for.
  closed_keeps : (bs : List Binding) → ((b : Binding) → Memᴰ b bs → ClosedAt b) → (t : Tree) → ((Y : ℕ) → Occurs Y t → C Y)
      → (Z : ℕ) → Occurs Z (substitute (meaning nodes bs) t) → C Z
  unfolding meaning
  closed_keeps bs h t i Z o =
      let (Y, y, z) = occurs_substitute (meaning_after nodes variable bs) Z t o in
      kept_after variable bs (λ Y Z c e. rw e c) h Y Z (i Y y) z

-- ---- sets of nodes are what occurs in sides

module _ (nodes : List Node) (variables_of_nodes : List ℕ) (filled : FilledBelow nodes variables_of_nodes (length nodes)) where
  set_occurs : (s : Side) → s.node < length nodes → (X : ℕ) → member (get_or variables_of_nodes s.node 0) X ≡ true → Occurs X (side_tree nodes s)
  unfolding side_tree
  set_occurs s h X m = rw occurs_permute (occurs_in_true X (tree nodes s.node) (sym (filled s.node h X) ∙ m))

  occurs_set : (s : Side) → s.node < length nodes → (X : ℕ) → Occurs X (side_tree nodes s) → member (get_or variables_of_nodes s.node 0) X ≡ true
  unfolding side_tree
  occurs_set s h X o =
      by_member (get_or variables_of_nodes s.node 0) X (λ m. m)
      (λ m. absurd (occurs_in_false X (tree nodes s.node) (sym (filled s.node h X) ∙ m) (rw occurs_permute at o)))

-- ---- the answer

module _ {g : Ground} {variables : ℕ} {bs : List Binding} (m : Meant g variables bs (meaning g.nodes bs)) {bound : ℕ} {made : List (List ℕ)}
    (variables_of_nodes : List ℕ) (rooted : Rooted bs bound made) (filled : FilledBelow g.nodes variables_of_nodes (length g.nodes))
    (t : Side) (there : t.node < length g.nodes) where
  -- What the bindings mean, and the side looked at through all of them.
  abbrev σ : Substitution
  σ = meaning g.nodes bs

  abbrev whole : Tree
  whole = substitute σ (side_tree g.nodes t)

  -- What a reached variable means is part of what the side means.
  reached_meaning : (Y : ℕ) → VariableReached bound made variables_of_nodes (get_or variables_of_nodes t.node 0) Y → (Z : ℕ) → Occurs Z (σ Y) → Occurs Z whole
  reached_meaning Y (inside o) Z z = occurs_substituted σ Z Y (side_tree g.nodes t) (set_occurs g.nodes variables_of_nodes filled t there Y o) z
  reached_meaning Y (through {Y = W} r b o) Z z =
      let (v, e, q) = rooted.valued W b in
      let i : Occurs Y (side_tree g.nodes v) = set_occurs g.nodes variables_of_nodes filled v (m.fits W v e).there Y (rw q at o) in
      reached_meaning W r Z (rw (m.worth W v e) (occurs_substituted σ Z Y (side_tree g.nodes v) i z))

  module _ (X : ℕ) (r : Bool) (a : OccursAnswered bound made variables_of_nodes t.node X r) where
    -- The set of the reached ones is closed under each binding.
    closed_binding : (b : Binding) → Memᴰ b bs → ClosedAt g.nodes (λ Y. member a.set Y ≡ true) b
    closed_binding b i U y o =
        let (known, at) = rooted.each b i in
        let (v, e, q) = rooted.valued b.variable known in
        let n : b.value.node ≡ v.node = sym at ∙ q in
        let l : b.value.node < length g.nodes = rw n (m.fits b.variable v e).there in
        a.closure.closed U b.variable y known (rw at (occurs_set g.nodes variables_of_nodes filled b.value l U o))

    -- So what occurs in the side is among them.
    occurs_reached : Occurs X whole → member a.set X ≡ true
    occurs_reached =
        closed_keeps g.nodes (λ Y. member a.set Y ≡ true) bs closed_binding (side_tree g.nodes t)
        (λ Y y. a.closure.holds Y (occurs_set g.nodes variables_of_nodes filled t there Y y)) X

    -- And a variable that is not bound occurs where it is reached.
    reached_occurs : value_of bs X ≡ none → member a.set X ≡ true → Occurs X whole
    reached_occurs free p = reached_meaning X (a.closure.reached X p) X (rw (m.free X free) refl)

  -- "if X occurs in the right side, looked at through all bindings"
  pub occurs_meaning : (X : ℕ) → value_of bs X ≡ none → (r : Bool) → OccursAnswered bound made variables_of_nodes t.node X r → r ≡ occurs_in X whole
  occurs_meaning X free r a =
      a.answer
      ∙ by_member a.set X
      (λ p. p ∙ sym (by_test (occurs_in X whole) (λ e. e) (λ e. absurd (occurs_in_false X whole e (reached_occurs X r a free p)))))
      (λ p. p ∙ sym (by_test (occurs_in X whole) (λ e. apart (occurs_reached X r a (occurs_in_true X whole e)) p) (λ e. e)))
