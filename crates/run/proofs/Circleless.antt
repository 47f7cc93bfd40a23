-- Bindings in any order without a circle have a meaning, and it is the definition's: a binding's value under the bindings before it is put for its
-- variable in all of their values, which needs only that the variable does not stand in the value so looked at.
use Prim.Native.Nat.{ℕ}
use native.Mathlib.Omega.{arith}
use mathlib.Core.Path.{◌≡◌, refl, sym, ◌∙◌, ap}
use mathlib.Core.Logic.{inl, inr}
use mathlib.Core.List.{List, [], ◌∷◌, ◌++◌, append-nil, append_assoc}
use mathlib.Core.Option.{none}
use borrow.Author.Tests.{ne_eqb}
use Rattle.names.proofs.Equal.{by_eq}
use Rattle.nominal.specs.Tree.{variable, Occurs, Substitution, substitute, composed, replacing}
use Rattle.nominal.proofs.Tree.{occurs_substitute}
use Rattle.nominal.proofs.Replacing.{replacing_same, replacing_other}
use Rattle.problem.specs.Problem.{Node, form_at}
use Rattle.problem.specs.Readable.{Named}
use Rattle.run.specs.Meaning.{side_tree, Binding, meaning_after, meaning}
use Rattle.run.specs.Run.{Ground, value_of}
use Rattle.run.specs.Circle.{Leads, Path, last, onward, BoundOnce, Circleless}
use Rattle.run.proofs.Bindings.{value_of_kept, value_of_new, value_of_unbound, Meant, meant_none, meant_new}
use Rattle.run.proofs.Paths.{Star, path_map, star_map, path_star, star_path}
use Rattle.run.proofs.Resolving.{settles_any}

-- ---- the first of the bindings

-- More bindings lead as far.
leads_kept : (nodes : List Node) (bs cs : List Binding) (X Y : ℕ) → Leads nodes bs X Y → Leads nodes (bs ++ cs) X Y
leads_kept nodes bs cs X Y l = (l.0, value_of_kept bs cs X l.0 l.1, l.2)

once_before : (bs cs : List Binding) → BoundOnce (bs ++ cs) → BoundOnce bs
once_before [] cs h = tt
once_before (b ∷ bs) cs h = (value_of_unbound bs cs b.variable h.0, once_before bs cs h.1)

-- The last one's variable is not bound before.
once_last : (bs : List Binding) (b : Binding) → BoundOnce (bs ++ (b ∷ [])) → value_of bs b.variable ≡ none
once_last [] b h = refl
once_last (c ∷ bs) b h =
    by_eq b.variable c.variable
    (λ e.
    let later : value_of (bs ++ (b ∷ [])) b.variable ≡ none = ap (value_of (bs ++ (b ∷ []))) e ∙ h.0 in
    absurd (let z : ◌≡◌ {A = ℕ} 0 1 = cc (value_of_new bs b (value_of_unbound bs (b ∷ []) b.variable later)) in omega arith))
    (λ n. rw (ne_eqb b.variable c.variable n) (once_last bs b h.1))

circleless_before : {atoms variables : ℕ} {nodes : List Node} (bs cs : List Binding) → Circleless atoms variables nodes (bs ++ cs)
    → Circleless atoms variables nodes bs
circleless_before {nodes = nodes} bs cs c = record {
  once = once_before bs cs c.once;
  few = λ X v e. c.few X v (value_of_kept bs cs X v e);
  fits = λ X v e. c.fits X v (value_of_kept bs cs X v e);
  no_circle = λ X p. c.no_circle X (path_map (leads_kept nodes bs cs) p);
}

-- ---- what is met

-- What stands in a variable's meaning is met from it.
abbrev Reach : List Node → List Binding → Substitution → Type 0
Reach nodes bs σ = (X Y : ℕ) → Occurs Y (σ X) → Star (Leads nodes bs) X Y

module _ (nodes : List Node) (bs : List Binding) (σ : Substitution) (reach : Reach nodes bs σ) (b : Binding) (unbound : value_of bs b.variable ≡ none) where
  up : {X Y : ℕ} → Star (Leads nodes bs) X Y → Star (Leads nodes (bs ++ (b ∷ []))) X Y
  up = star_map (leads_kept nodes bs (b ∷ []))

  new_path : (Y : ℕ) → Occurs Y (substitute σ (side_tree nodes b.value)) → Path (Leads nodes (bs ++ (b ∷ []))) b.variable Y
  new_path Y o =
      let (W, w, y) = occurs_substitute σ Y (side_tree nodes b.value) o in
      path_star (last (b.value, value_of_new bs b unbound, w)) (up (reach W Y y))

  reach_more : Reach nodes (bs ++ (b ∷ [])) (composed (replacing b.variable (substitute σ (side_tree nodes b.value))) σ)
  reach_more X Y o =
      let t = substitute σ (side_tree nodes b.value) in
      let (W, k, j) = occurs_substitute (replacing b.variable t) Y (σ X) o in
      by_eq W b.variable
      (λ q. inr (star_path (up (reach X b.variable (rw q at k))) (new_path Y (rw (q, replacing_same) at j))))
      (λ n. let i : Y ≡ W = rw (replacing_other b.variable t W n) at j in rw i (up (reach X W k)))

-- ---- the meaning

module _ (g : Ground) (variables : ℕ) (named : (n : ℕ) → Named g.atoms variables n (form_at g.nodes n)) where
  -- Of the first bindings the meaning is known, the others come one by one.
  meant_after : (bs cs : List Binding) (σ : Substitution) → Circleless g.atoms variables g.nodes (bs ++ cs) → Meant g variables bs σ
      → Reach g.nodes bs σ → Meant g variables (bs ++ cs) (meaning_after g.nodes σ cs)
  unfolding meaning_after
  meant_after bs [] σ c m r = rw append-nil m
  meant_after bs (b ∷ cs) σ c m r =
      let more : List Binding = bs ++ (b ∷ []) in
      let moved : more ++ cs ≡ bs ++ (b ∷ cs) = append_assoc bs (b ∷ []) cs in
      let whole : Circleless g.atoms variables g.nodes (more ++ cs) = rw moved c in
      let first : Circleless g.atoms variables g.nodes more = circleless_before more cs whole in
      let unbound = once_last bs b first.once in
      let is_new = value_of_new bs b unbound in
      rw (← moved)
      (meant_after more cs (composed (replacing b.variable (substitute σ (side_tree g.nodes b.value))) σ) whole
      (meant_new g variables named m b
      (record {
        unbound = unbound;
        small = first.few b.variable b.value is_new;
        fits = first.fits b.variable b.value is_new;
        absent = λ o. first.no_circle b.variable (new_path g.nodes bs σ r b unbound b.variable o);
      })
      (settles_any g variables named more first.fits first.no_circle))
      (reach_more g.nodes bs σ r b unbound))

  pub meant_circleless : {bs : List Binding} → Circleless g.atoms variables g.nodes bs → Meant g variables bs (meaning g.nodes bs)
  unfolding meaning
  meant_circleless {bs} c = meant_after [] bs variable c (meant_none g variables named) (λ X Y o. inl (sym o))

-- No bindings have none.
pub circleless_none : (atoms variables : ℕ) (nodes : List Node) → Circleless atoms variables nodes []
circleless_none atoms variables nodes = record {
  once = tt;
  few = λ X v e. absurd (let z : ◌≡◌ {A = ℕ} 0 1 = cc in omega arith);
  fits = λ X v e. absurd (let z : ◌≡◌ {A = ℕ} 0 1 = cc in omega arith);
  no_circle = λ X p. leads_nowhere p;
}
  where
    leads_nowhere : {X Y : ℕ} → Path (Leads nodes []) X Y → ⊥
    leads_nowhere (last l) = let e = l.1 in let z : ◌≡◌ {A = ℕ} 0 1 = cc in omega arith
    leads_nowhere (onward l p) = let e = l.1 in let z : ◌≡◌ {A = ℕ} 0 1 = cc in omega arith
