-- Asking the atoms seen at suspensions of their variables: of one, of none, and of some after others.
use Prim.Native.Nat.{ℕ, ◌<◌, ◌^◌}
use mathlib.Core.Path.{◌≡◌, refl, sym, ◌∙◌, ap, subst}
use mathlib.Core.Logic.{◌⊎◌, inl, inr, ⊎_elim}
use mathlib.Core.Bool.{true}
use mathlib.Core.List.{List}
use lib.ListN.{length, get_or}
use Rattle.sets.specs.Bits.{member}
use Rattle.sets.proofs.Bits.{member_within}
use Rattle.permutation.specs.Swaps.{Swaps, act, inverse, Within}
use Rattle.permutation.proofs.Swaps.{act_inverse, inverse_act, within, within_inverse}
use Rattle.problem.specs.Problem.{Node, unit_form, atom_form, abstraction_form, pair_form, application_form, suspension_form, form_at, Problem}
use Rattle.visit.specs.Pairs.{Pair, of_node, of_variable}
use Rattle.visit.specs.Visited.{Marked, added, sent_into}
use Rattle.visit.specs.Parts.{Sent, sent, SwapsAsked}
use Rattle.visit.proofs.Rows.{row_kept, row_new, row_cases}
use Rattle.visit.proofs.Sent.{sent_member, member_is_sent}

-- ---- of one suspension

-- The atoms seen at suspension n were sent through its swaps and asked of its variable.
pub record AtomsAsked (p : Problem) (seen : List ℕ) (n X : ℕ) (π : Swaps) (variables variables₁ : List ℕ) : Type 0 where
  pub form : form_at p.nodes n ≡ suspension_form π X
  pub few : n < length p.nodes
  pub small : get_or seen n 0 < 2 ^ 32
  pub names : Within 32 π
  pub few_variables : X < p.variables
  pub in_variables : X < length variables
  pub is_variables : variables₁ ≡ added variables X (sent_into 32 (act π) (get_or seen n 0))

module _ {p : Problem} {seen : List ℕ} {n X : ℕ} {π : Swaps} {variables variables₁ : List ℕ}
    (t : AtomsAsked p seen n X π variables variables₁) where
  abbrev atoms : ℕ
  atoms = sent_into 32 (act π) (get_or seen n 0)

  -- The atom that π sends to one that was seen is among those sent.
  sent_back : (a : ℕ) → member (get_or seen n 0) a ≡ true → member atoms (act (inverse π) a) ≡ true
  sent_back a h =
      member_is_sent 32 (act π) (get_or seen n 0) _ a
      (within 32 (inverse π) a (within_inverse 32 π t.names) (member_within 32 (get_or seen n 0) a t.small h))
      (act_inverse π a) h

  asked_here : (a : ℕ) → member (get_or seen n 0) a ≡ true → Marked p seen variables₁ (of_variable (act (inverse π) a) X)
  asked_here a h = (t.few_variables, rw t.is_variables (row_new variables X atoms _ t.in_variables (sent_back a h)))

  -- A sent atom came from one that was seen.
  came : (a : ℕ) → member atoms a ≡ true → Sent p seen (λ m. m ≡ n) (of_variable a X)
  came a q =
      let r : Sent p seen (λ m. m ≡ n) (of_variable (act (inverse π) (act π a)) X) =
      sent (act π a) n refl (t.few, (sent_member 32 (act π) (get_or seen n 0) a q).1) t.form in
      rw inverse_act at r

  -- The variable of a suspension, whatever it is called.
  abbrev Asked : ℕ → Node → Type 0
  Asked a unit_form = ⊥
  Asked a (atom_form b) = ⊥
  Asked a (abstraction_form b m) = ⊥
  Asked a (pair_form l r) = ⊥
  Asked a (application_form f m) = ⊥
  Asked a (suspension_form ρ Y) = Marked p seen variables₁ (of_variable (act (inverse ρ) a) Y)

  kept : (w : Pair) → Marked p seen variables w → Marked p seen variables₁ w
  kept (of_node a m) h = h
  kept (of_variable a Y) h = (h.0, rw t.is_variables (row_kept variables X atoms Y a t.in_variables h.1))

  new : (w : Pair) → Marked p seen variables₁ w → Marked p seen variables w ⊎ Sent p seen (λ m. m ≡ n) w
  new (of_node a m) h = inl h
  new (of_variable a Y) h =
      ⊎_elim (λ q. inl (h.0, q)) (λ q. inr (rw q.0 (came a q.1)))
      (row_cases variables X atoms Y a t.in_variables (rw t.is_variables at h.1))

  all : (w : Pair) → Sent p seen (λ m. m ≡ n) w → Marked p seen variables₁ w
  all w (sent a m q h e) =
      subst (Asked a) (sym t.form ∙ ap (form_at p.nodes) (sym q) ∙ e) (asked_here a (ap (λ (k : ℕ). member (get_or seen k 0) a) (sym q) ∙ h.1))

  pub asked_one : SwapsAsked p seen (λ m. m ≡ n) variables variables₁
  asked_one = record { kept = kept; new = new; all = all }

-- ---- of none, and of some after others

module _ {p : Problem} {seen : List ℕ} where
  pub asked_none : {Which : ℕ → Type 0} {variables : List ℕ} → ((n : ℕ) → Which n → ⊥) → SwapsAsked p seen Which variables variables
  asked_none {Which} {variables} none = record { kept = λ w k. k; new = λ w k. inl k; all = all_none }
    where
      all_none : (w : Pair) → Sent p seen Which w → Marked p seen variables w
      all_none w (sent a n k h e) = absurd (none n k)

  sent_wider : {A B : ℕ → Type 0} → ((n : ℕ) → A n → B n) → (w : Pair) → Sent p seen A w → Sent p seen B w
  sent_wider wider w (sent a n k h e) = sent a n (wider n k) h e

  pub asked_more : {A B Which : ℕ → Type 0} {variables variables₁ variables₂ : List ℕ}
      → ((n : ℕ) → A n → Which n) → ((n : ℕ) → B n → Which n) → ((n : ℕ) → Which n → A n ⊎ B n)
      → SwapsAsked p seen A variables variables₁ → SwapsAsked p seen B variables₁ variables₂
      → SwapsAsked p seen Which variables variables₂
  asked_more {A} {B} {Which} {variables} {variables₁} {variables₂} first second either g h = record {
    kept = λ w k. h.kept w (g.kept w k);
    new = λ w k. ⊎_elim (λ b. ⊎_elim (λ q. inl q) (λ q. inr (sent_wider first w q)) (g.new w b)) (λ q. inr (sent_wider second w q)) (h.new w k);
    all = all_both;
  }
    where
      all_both : (w : Pair) → Sent p seen Which w → Marked p seen variables₂ w
      all_both w (sent a n k m e) = ⊎_elim (λ q. h.kept w (g.all w (sent a n q m e))) (λ q. h.all w (sent a n q m e)) (either n k)

  pub asked_alike : {A B : ℕ → Type 0} {variables variables₁ : List ℕ} → ((n : ℕ) → A n → B n) → ((n : ℕ) → B n → A n)
      → SwapsAsked p seen A variables variables₁ → SwapsAsked p seen B variables variables₁
  asked_alike to back g = record {
    kept = g.kept;
    new = λ w k. ⊎_elim (λ q. inl q) (λ q. inr (sent_wider to w q)) (g.new w k);
    all = λ w k. g.all w (sent_wider back w k);
  }
