-- The tops of two sides, looked at together: "two suspensions", one, the same form twice, or "different forms" (document 01, "The run"). What a step
-- does, and every proof about two tops, goes by these nine cases. Definitions alone; that they are all there are is shown in proofs/.
use Rattle.std.specs.Prelude.{ℕ}
use Rattle.problem.specs.Problem.{Form, unit_form, atom_form, abstraction_form, pair_form, application_form, suspension_form}

-- Parts of the left top come first.
pub data Tops (Permutation Part : Type 0) : Type 0 where
  two_suspensions : Permutation → ℕ → Permutation → ℕ → Tops Permutation Part
  left_suspension : Permutation → ℕ → Tops Permutation Part
  right_suspension : Permutation → ℕ → Tops Permutation Part
  two_units : Tops Permutation Part
  two_atoms : ℕ → ℕ → Tops Permutation Part
  two_abstractions : ℕ → Part → ℕ → Part → Tops Permutation Part
  two_pairs : Part → Part → Part → Part → Tops Permutation Part
  two_applications : ℕ → Part → ℕ → Part → Tops Permutation Part
  different_forms : Tops Permutation Part

-- What is said of a form: of unit, of an atom, of an abstraction, of a pair, of an application, of a suspension.
abbrev pub by_form : {P N A : Type 0} → A → (ℕ → A) → (ℕ → N → A) → (N → N → A) → (ℕ → N → A) → (P → ℕ → A) → Form P N → A
by_form u a b p f s unit_form = u
by_form u a b p f s (atom_form c) = a c
by_form u a b p f s (abstraction_form c n) = b c n
by_form u a b p f s (pair_form m n) = p m n
by_form u a b p f s (application_form h n) = f h n
by_form u a b p f s (suspension_form P X) = s P X

abbrev pub tops : {P N : Type 0} → Form P N → Form P N → Tops P N
tops unit_form w =
    by_form two_units (λ b. different_forms) (λ b v. different_forms) (λ v w. different_forms) (λ h v. different_forms) (λ Q Y. right_suspension Q Y) w
tops (atom_form a) w =
    by_form different_forms (λ b. two_atoms a b) (λ b v. different_forms) (λ v w. different_forms) (λ h v. different_forms) (λ Q Y. right_suspension Q Y) w
tops (abstraction_form a u) w =
    by_form different_forms (λ b. different_forms) (λ b v. two_abstractions a u b v) (λ v w. different_forms) (λ h v. different_forms)
    (λ Q Y. right_suspension Q Y) w
tops (pair_form l r) w =
    by_form different_forms (λ b. different_forms) (λ b v. different_forms) (λ v w. two_pairs l r v w) (λ h v. different_forms) (λ Q Y. right_suspension Q Y) w
tops (application_form f u) w =
    by_form different_forms (λ b. different_forms) (λ b v. different_forms) (λ v w. different_forms) (λ h v. two_applications f u h v)
    (λ Q Y. right_suspension Q Y) w
tops (suspension_form P X) w =
    by_form (left_suspension P X) (λ b. left_suspension P X) (λ b v. left_suspension P X) (λ v w. left_suspension P X) (λ h v. left_suspension P X)
    (λ Q Y. two_suspensions P X Q Y) w
