-- The deciding functions are sound and complete for figure 2's families.
use Prim.Native.Nat.{ℕ}
use mathlib.Core.Path.{◌≡◌, refl, ◌∙◌, ap, subst}
use mathlib.Core.Logic.{◌↔◌, ◌⊎◌, inl, inr}
use mathlib.Core.Bool.{Bool, true, false, cond, not, ◌&&◌, ◌||◌}
use mathlib.Core.List.{List, [], ◌∷◌, ◌++◌, Memᴰ}
use lib.Dec.{T, eqb, eqb→eq, eqb_refl}
use borrow.Author.Tests.{eq-eqb, ne_eqb}
use Rattle.permutation.specs.Swaps.{Swaps, act, atoms}
use Rattle.names.proofs.Equal.{by_eq}
use Rattle.permutation.proofs.Swaps.{disagree_among}
use Rattle.nominal.specs.Tree.{Tree, unit, atom, abstraction, pair, application, suspension, permute}
use Rattle.nominal.specs.Form.{form, name, swaps_at, first, second}
use Rattle.nominal.specs.Figure2.{◌⊢◌#◌, #-unit, #-pair, #-function_symbol, #-abstraction_1, #-abstraction_2, #-atom, #-suspension, ◌⊢◌≈◌, ≈-unit, ≈-pair}
use Rattle.nominal.specs.Figure2.{≈-function_symbol, ≈-abstraction_1, ≈-abstraction_2, ≈-atom, ≈-suspension}
use Rattle.nominal.specs.Solutions.{Facts, environment_of}
use Rattle.nominal.specs.Decide.{Test, tested, is_given, pass_all, is_fresh, is_equal}
use Rattle.nominal.proofs.Figure2.{fresh_abstraction}
use Rattle.nominal.proofs.Laws.{fresh_weaken, equal_weaken}

pub and_both : (a b : Bool) → T (a && b) ↔ (T a × T b)
and_both true b = (λ h. (tt, h), λ h. h.1)
and_both false b = (λ h. absurd h, λ h. h.0)

pub or_either : (a b : Bool) → T (a || b) ↔ (T a ⊎ T b)
or_either true b = (λ h. inl tt, λ h. tt)
or_either false b = (inr, λ h. elim h [ inl k ↦ absurd k | inr k ↦ k ])

pass_at : (p : ℕ → Bool) {a : ℕ} {l : List ℕ} → Memᴰ a l → T (pass_all p l) → T (p a)
pass_at p (Memᴰ.head {x = x} {xs = xs} e) h = rw e ((and_both (p x) (pass_all p xs)).0 h).0
pass_at p (Memᴰ.tail {x = x} {xs = xs} k) h = pass_at p k ((and_both (p x) (pass_all p xs)).0 h).1

pass_of : (p : ℕ → Bool) (l : List ℕ) → ((a : ℕ) → T (p a)) → T (pass_all p l)
pass_of p [] h = tt
pass_of p (a ∷ l) h = (and_both (p a) (pass_all p l)).1 (h a, pass_of p l h)

-- A tree is made of its form and its parts.
rebuilt : ℕ → ℕ → Swaps → Tree → Tree → Tree
rebuilt k n π s t =
    cond (eqb k 0) unit
    (cond (eqb k 1) (atom n) (cond (eqb k 2) (abstraction n s) (cond (eqb k 3) (pair s t) (cond (eqb k 4) (application n s) (suspension π n)))))

from_parts : (u : Tree) → u ≡ rebuilt (form u) (name u) (swaps_at u) (first u) (second u)
unfolding rebuilt
from_parts unit = refl
from_parts (atom a) = refl
from_parts (abstraction a t) = refl
from_parts (pair s t) = refl
from_parts (application f t) = refl
from_parts (suspension π X) = refl

of_form : (u : Tree) (k : ℕ) → T (eqb (form u) k) → u ≡ rebuilt k (name u) (swaps_at u) (first u) (second u)
of_form u k h = from_parts u ∙ ap (λ (j : ℕ). rebuilt j (name u) (swaps_at u) (first u) (second u)) (eqb→eq (form u) k h)

module _ (m : Test) where
  pub fresh_sound : (a : ℕ) (t : Tree) → T (is_fresh m a t) → tested m ⊢ a # t
  fresh_sound a unit h = #-unit
  fresh_sound a (atom b) h = #-atom (λ p. subst (λ (x : Bool). T (not x)) (eq-eqb a b p) h)
  fresh_sound a (abstraction b t) h = fresh_abstraction.1 (λ n. fresh_sound a t (rw (ne_eqb a b n) at h))
  fresh_sound a (pair s t) h = let k = (and_both (is_fresh m a s) (is_fresh m a t)).0 h in #-pair (fresh_sound a s k.0) (fresh_sound a t k.1)
  fresh_sound a (application f t) h = #-function_symbol (fresh_sound a t h)
  fresh_sound a (suspension π X) h = #-suspension h

  pub fresh_complete : {a : ℕ} {t : Tree} → tested m ⊢ a # t → T (is_fresh m a t)
  fresh_complete #-unit = tt
  fresh_complete {a} (#-pair {t₁ = s} {t₂ = t} h k) = (and_both (is_fresh m a s) (is_fresh m a t)).1 (fresh_complete h, fresh_complete k)
  fresh_complete (#-function_symbol h) = fresh_complete h
  fresh_complete {a} #-abstraction_1 = rw (eq-eqb a a refl) tt
  fresh_complete {a} (#-abstraction_2 {b = b} n h) = rw (ne_eqb a b n) (fresh_complete h)
  fresh_complete {a} (#-atom {b = b} n) = rw (ne_eqb a b n) tt
  fresh_complete (#-suspension h) = h

  pub equal_sound : (s u : Tree) → T (is_equal m s u) → tested m ⊢ s ≈ u
  unfolding rebuilt
  equal_sound unit u h = rw (of_form u 0 h) ≈-unit
  equal_sound (atom a) u h = let k = (and_both (eqb (form u) 1) (eqb a (name u))).0 h in rw (of_form u 1 k.0, ← eqb→eq a (name u) k.1) ≈-atom
  equal_sound (abstraction a s) u h =
      let k =
      (and_both (eqb (form u) 2)
      (cond (eqb a (name u)) (is_equal m s (first u)) (is_fresh m a (first u) && is_equal m s (permute ((a, name u) ∷ []) (first u))))).0 h in
      rw (of_form u 2 k.0)
      (by_eq a (name u) (λ p. rw (← p) (≈-abstraction_1 (equal_sound s (first u) (rw (eq-eqb a (name u) p) at k.1))))
      (λ n. let j = (and_both (is_fresh m a (first u)) (is_equal m s (permute ((a, name u) ∷ []) (first u)))).0 (rw (ne_eqb a (name u) n) at k.1) in
      ≈-abstraction_2 n (equal_sound s (permute ((a, name u) ∷ []) (first u)) j.1) (fresh_sound a (first u) j.0)))
  equal_sound (pair s₁ s₂) u h =
      let k = (and_both (eqb (form u) 3) (is_equal m s₁ (first u) && is_equal m s₂ (second u))).0 h in
      let j = (and_both (is_equal m s₁ (first u)) (is_equal m s₂ (second u))).0 k.1 in
      rw (of_form u 3 k.0) (≈-pair (equal_sound s₁ (first u) j.0) (equal_sound s₂ (second u) j.1))
  equal_sound (application f s) u h =
      let k = (and_both (eqb (form u) 4) (eqb f (name u) && is_equal m s (first u))).0 h in
      let j = (and_both (eqb f (name u)) (is_equal m s (first u))).0 k.1 in
      rw (of_form u 4 k.0, ← eqb→eq f (name u) j.0) (≈-function_symbol (equal_sound s (first u) j.1))
  equal_sound (suspension π X) u h =
      let ρ = swaps_at u in
      let p : ℕ → Bool = λ c. eqb (act π c) (act ρ c) || m c X in
      let k = (and_both (eqb (form u) 5) (eqb X (name u) && pass_all p (atoms π ++ atoms ρ))).0 h in
      let j = (and_both (eqb X (name u)) (pass_all p (atoms π ++ atoms ρ))).0 k.1 in
      rw (of_form u 5 k.0, ← eqb→eq X (name u) j.0)
      (≈-suspension {π = π} {ρ = ρ} (λ a n. rw (ne_eqb (act π a) (act ρ a) n) at (pass_at p (disagree_among π ρ a n) j.1)))

  pub equal_complete : {s t : Tree} → tested m ⊢ s ≈ t → T (is_equal m s t)
  equal_complete ≈-unit = tt
  equal_complete (≈-pair {s₁ = s₁} {s₂ = s₂} {t₁ = t₁} {t₂ = t₂} e k) = (and_both (is_equal m s₁ t₁) (is_equal m s₂ t₂)).1 (equal_complete e, equal_complete k)
  equal_complete (≈-function_symbol {f = f} {s = s} {t = t} e) = (and_both (eqb f f) (is_equal m s t)).1 (eqb_refl f, equal_complete e)
  equal_complete (≈-abstraction_1 {a = a} e) = rw (eq-eqb a a refl) (equal_complete e)
  equal_complete (≈-abstraction_2 {a = a} {b = b} {s = s} {t = t} n e h) =
      rw (ne_eqb a b n) ((and_both (is_fresh m a t) (is_equal m s (permute ((a, b) ∷ []) t))).1 (fresh_complete h, equal_complete e))
  equal_complete (≈-atom {a = a}) = eqb_refl a
  equal_complete (≈-suspension {π = π} {ρ = ρ} {X = X} k) =
      let p : ℕ → Bool = λ c. eqb (act π c) (act ρ c) || m c X in
      (and_both (eqb X X) (pass_all p (atoms π ++ atoms ρ))).1 (
        eqb_refl X,
        pass_of p (atoms π ++ atoms ρ)
            (λ c. by_eq (act π c) (act ρ c) (λ q. rw (eq-eqb (act π c) (act ρ c) q) tt) (λ n. rw (ne_eqb (act π c) (act ρ c) n) (k c n))),
      )

-- The test of a finite set of facts is membership.
pub given_sound : (F : Facts) (a X : ℕ) → T (is_given F a X) → environment_of F a X
given_sound [] a X h = absurd h
given_sound (f ∷ F) a X h = go (given_sound F a X) ((or_either (eqb a f.0 && eqb X f.1) (is_given F a X)).0 h)
  where
    go : (T (is_given F a X) → environment_of F a X) → T (eqb a f.0 && eqb X f.1) ⊎ T (is_given F a X) → environment_of (f ∷ F) a X
    go rest (inl k) =
        let j = (and_both (eqb a f.0) (eqb X f.1)).0 k in Memᴰ.head {x = f} {xs = F} (rw (eqb→eq a f.0 j.0, eqb→eq X f.1 j.1))
    go rest (inr k) = Memᴰ.tail (rest k)

pub given_complete : (F : Facts) (a X : ℕ) → environment_of F a X → T (is_given F a X)
given_complete F a X = go
  where
    go : {F : Facts} → environment_of F a X → T (is_given F a X)
    go (Memᴰ.head {x = f} {xs = G} e) =
        (or_either (eqb a f.0 && eqb X f.1) (is_given G a X)).1 (inl (rw (← e) ((and_both (eqb a a) (eqb X X)).1 (eqb_refl a, eqb_refl X))))
    go (Memᴰ.tail {x = f} {xs = G} k) = (or_either (eqb a f.0 && eqb X f.1) (is_given G a X)).1 (inr (go k))

-- Freshness and equality from a finite set of facts are decided.
pub fresh_decided : (F : Facts) (a : ℕ) (t : Tree) → (environment_of F ⊢ a # t) ↔ T (is_fresh (is_given F) a t)
fresh_decided F a t = (λ h. fresh_complete (is_given F) (fresh_weaken (given_complete F) h), λ h. fresh_weaken (given_sound F) (fresh_sound (is_given F) a t h))

pub equal_decided : (F : Facts) (s t : Tree) → (environment_of F ⊢ s ≈ t) ↔ T (is_equal (is_given F) s t)
equal_decided F s t = (λ e. equal_complete (is_given F) (equal_weaken (given_complete F) e), λ h. equal_weaken (given_sound F) (equal_sound (is_given F) s t h))
