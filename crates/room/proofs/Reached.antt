-- What holds of every state that a run reaches, from a start of which it holds: the equations wait as `Waiting` says, so they are few; and each
-- variable is bound once, so bindings are few.
use Prim.Native.Nat.{ℕ, ◌+◌, ◌≤◌, ◌<◌}
use native.Mathlib.Omega.{arith}
use mathlib.Core.Path.{◌≡◌, refl, sym, ◌∙◌, ap}
use mathlib.Core.Logic.{◌≢◌, ◌⊎◌, inl, inr}
use mathlib.Core.Option.{none}
use mathlib.Core.List.Memᴰ
use mathlib.Core.List.{List, [], ◌∷◌, ◌++◌, map, append-nil, map-append, Memᴰ}
use lib.ListN.{length, length-map}
use borrow.Author.Tests.{eq-eqb, ne_eqb}
use Rattle.names.proofs.Equal.{by_eq}
use Rattle.nominal.specs.Tree.{Substitution}
use Rattle.nominal.specs.Solutions.{Every}
use Rattle.nominal.proofs.Solutions.{every_append}
use Rattle.problem.specs.Problem.{form_at}
use Rattle.problem.specs.Readable.{Named}
use Rattle.run.specs.Meaning.{Side, side_tree, Binding, meaning}
use Rattle.run.specs.Run.{Equation, Demand, Ground, Subject, top, value_of, resolved, goes_on, step, pending, bindings, demands}
use Rattle.run.proofs.Trees.{Fits}
use Rattle.run.proofs.Did.{step_did}
use Rattle.run.proofs.Bindings.{Meant, value_of_kept}
use Rattle.run.proofs.States.{Keeps, SoundNew, step_keeps, State, state_next}
use Rattle.room.specs.Stacks.{Reaches, at_start, after_step}
use Rattle.room.proofs.Distinct.{Distinct, distinct_few}
use Rattle.room.proofs.Weights.{weigh, weigh_substitute, weigh_side, Respects, top_heavier, resolved_weight}
use Rattle.room.proofs.Waiting.{Waiting, Waits, waiting_few, waiting_more, did_waits}

-- Bindings that have a meaning have a weighing that respects them.
meant_respects : {g : Ground} {variables : ℕ} {bs : List Binding} (σ : Substitution) → Meant g variables bs σ
    → Respects g.nodes bs (λ X. weigh (λ Y. 1) (σ X))
meant_respects {g} σ m X v e =
    ap (weigh (λ Y. 1)) (m.worth X v e) ∙ weigh_substitute (λ Y. 1) σ (side_tree g.nodes v) ∙ weigh_side g.nodes (λ Y. weigh (λ Z. 1) (σ Y)) v

-- The variables that bindings bind, in the order made.
abbrev pub bound_by : List Binding → List ℕ
bound_by bs = map (λ b. b.variable) bs

unbound_apart : (bs : List Binding) (X : ℕ) → value_of bs X ≡ none → (Y : ℕ) → Memᴰ Y (bound_by bs) → Y ≢ X
unbound_apart [] X e Y i q = elim i [ ]
unbound_apart (b ∷ bs) X e Y (Memᴰ.head p) q =
    let z : ◌≡◌ {A = ℕ} 0 1 = cc (rw (eq-eqb X b.variable (sym q ∙ p)) at e) in omega arith
unbound_apart (b ∷ bs) X e Y (Memᴰ.tail i) q =
    by_eq X b.variable (λ p. let z : ◌≡◌ {A = ℕ} 0 1 = cc (rw (eq-eqb X b.variable p) at e) in omega arith) λ n.
    unbound_apart bs X (rw (ne_eqb X b.variable n) at e) Y i q

distinct_more : (l : List ℕ) (x : ℕ) → Distinct l → ((y : ℕ) → Memᴰ y l → y ≢ x) → Distinct (l ++ (x ∷ []))
distinct_more [] x d n = (λ k i. absurd (elim i [ ]), tt)
distinct_more (y ∷ l) x d n = (λ k i. apart k (Memᴰ.append_cases l i), distinct_more l x d.1 (λ z i. n z (Memᴰ.tail i)))
  where
    apart : (k : ℕ) → Memᴰ k l ⊎ Memᴰ k (x ∷ []) → y ≢ k
    apart k (inl i) = d.0 k i
    apart k (inr i) = λ q. n y (Memᴰ.head refl) (q ∙ Memᴰ.eq_of_singleton i)

-- What holds of the start and of each next state holds of every state that is reached.
module _ {g : Ground} {es₀ : List Equation} {bs₀ : List Binding} {ds₀ : List Demand} (R : List Equation → List Binding → List Demand → Type 1)
    (once : (e : Equation) (es : List Equation) (bs : List Binding) (ds : List Demand) (qs : List (Side × Side)) (b : List (ℕ × Side)) (d : List (ℕ × Subject))
    → R (e ∷ es) bs ds → step g bs e.left e.right ≡ goes_on qs b d
    → R (pending e.number qs ++ es) (bs ++ bindings e.number b) (ds ++ demands e.number d)) where
  pub reached_all : R es₀ bs₀ ds₀ → {es : List Equation} {bs : List Binding} {ds : List Demand} → Reaches g es₀ bs₀ ds₀ es bs ds → R es bs ds
  reached_all k at_start = k
  reached_all k (after_step {e} {es} {bs} {ds} {qs} {b} {d} r s) = once e es bs ds qs b d (reached_all k r) s

module _ (g : Ground) (variables : ℕ) (named : (n : ℕ) → Named g.atoms variables n (form_at g.nodes n)) where
  -- ---- equations are few

  -- A state in which at most m equations wait below the parts of pairs.
  pub record Good (m : ℕ) (es : List Equation) (bs : List Binding) (ds : List Demand) : Type 1 where
    pub state : State g variables named es bs ds
    pub pairs : List ℕ
    pub waits : Waiting g.nodes bs m es pairs

  pub good_few : {m : ℕ} {es : List Equation} {bs : List Binding} {ds : List Demand} → Good m es bs ds → length es ≤ length g.nodes + m
  good_few {m} {es} {bs} k =
      waiting_few g.nodes bs m (λ X. weigh (λ Y. 1) (meaning g.nodes bs X)) (meant_respects (meaning g.nodes bs) k.state.meant) es k.pairs
      k.waits

  module _ (m : ℕ) (e : Equation) (es : List Equation) (bs : List Binding) (ds : List Demand) where
    step_waits : Good m (e ∷ es) bs ds
        → Waits g bs m e es (resolved g bs e.left) (resolved g bs e.right) (λ w r. resolved_weight g variables named bs w r e.left)
        (step g bs e.left e.right)
    step_waits k =
        did_waits g bs m e es (resolved g bs e.left) (resolved g bs e.right) (λ w r. resolved_weight g variables named bs w r e.left) k.pairs
        k.waits
        (top g (resolved g bs e.left)) (top g (resolved g bs e.right)) (top_heavier g variables named (resolved g bs e.left))
        (step g bs e.left e.right) (step_did g bs e.left e.right)

    pub good_next : (qs : List (Side × Side)) (b : List (ℕ × Side)) (d : List (ℕ × Subject)) → Good m (e ∷ es) bs ds
        → step g bs e.left e.right ≡ goes_on qs b d
        → Good m (pending e.number qs ++ es) (bs ++ bindings e.number b) (ds ++ demands e.number d)
    good_next qs b d k s =
        let (cs, w) = rw s at (step_waits k) in record {
          state = state_next g variables named e es bs ds qs b d k.state s;
          pairs = cs;
          waits =
              waiting_more g.nodes m bs (bs ++ bindings e.number b) (λ X v. value_of_kept bs (bindings e.number b) X v) (pending e.number qs ++ es)
              cs w;
        }

  -- "within the limits a chain of parts never meets the same compound node twice": from any start no stack holds over as many equations as there are
  -- nodes, and those of the start.
  pub reached_few : {es₀ es : List Equation} {bs₀ bs : List Binding} {ds₀ ds : List Demand} → State g variables named es₀ bs₀ ds₀
      → Reaches g es₀ bs₀ ds₀ es bs ds
      → length es ≤ length g.nodes + length es₀
  reached_few {es₀} k r = good_few (reached_all (Good (length es₀)) (good_next (length es₀)) (record { state = k; pairs = []; waits = omega arith }) r)

  -- ---- bindings are few

  -- A binding's variable is there, and its value is a side.
  abbrev pub Listed : Binding → Type 0
  Listed b = (b.variable < variables) × Fits g.atoms g.nodes b.value

  -- A state in which each variable is bound once.
  pub record Once (es : List Equation) (bs : List Binding) (ds : List Demand) : Type 1 where
    pub state : State g variables named es bs ds
    pub distinct : Distinct (bound_by bs)
    pub listed : Every Listed bs

  once_more : (n : ℕ) (bs : List Binding) (b : List (ℕ × Side)) → SoundNew g variables named bs b → Distinct (bound_by bs) → Every Listed bs
      → Distinct (bound_by (bs ++ bindings n b)) × Every Listed (bs ++ bindings n b)
  once_more n bs [] k d l = rw append-nil (d, l)
  once_more n bs (c ∷ []) k d l = (
    rw map-append (distinct_more (bound_by bs) c.0 d (unbound_apart bs c.0 k.0.unbound)),
    (every_append Listed bs (bindings n (c ∷ []))).1 (l, ((k.0.small, k.0.fits), tt)),
  )
  once_more n bs (c ∷ e ∷ b) k d l = absurd k

  pub once_next : (e : Equation) (es : List Equation) (bs : List Binding) (ds : List Demand) (qs : List (Side × Side)) (b : List (ℕ × Side))
      (d : List (ℕ × Subject))
      → Once (e ∷ es) bs ds → step g bs e.left e.right ≡ goes_on qs b d
      → Once (pending e.number qs ++ es) (bs ++ bindings e.number b) (ds ++ demands e.number d)
  once_next e es bs ds qs b d k s =
      let kept : Keeps g variables named bs (goes_on qs b d) =
      rw s at (step_keeps g variables named k.state.meant e.left e.right k.state.waiting.0.0 k.state.waiting.0.1) in
      let (u, l) = once_more e.number bs b kept.1 k.distinct k.listed in
      record { state = state_next g variables named e es bs ds qs b d k.state s; distinct = u; listed = l }

  pub once_few : {es : List Equation} {bs : List Binding} {ds : List Demand} → Once es bs ds → length bs ≤ variables
  once_few {bs = bs} k = omega (arith, length-map bs (λ b. b.variable), distinct_few variables (bound_by bs) k.distinct (there bs k.listed))
    where
      there : (bs : List Binding) → Every Listed bs → (X : ℕ) → Memᴰ X (bound_by bs) → X < variables
      there [] l X i = elim i [ ]
      there (b ∷ bs) l X (Memᴰ.head e) = rw e l.0.0
      there (b ∷ bs) l X (Memᴰ.tail i) = there bs l.1 X i
