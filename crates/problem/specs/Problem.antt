-- A problem of document 01, as it stands once its bytes are read. Definitions alone.
use Rattle.std.specs.Prelude.{ℕ, List, get_or}
use Rattle.permutation.specs.Swaps.{Swaps}

-- A node's form, over what its parts are and how its suspensions are permuted: in a problem the parts are node numbers and a suspension has its
-- list of swaps.
pub data Form (Permutation Part : Type 0) : Type 0 where
  unit_form : Form Permutation Part
  atom_form : ℕ → Form Permutation Part
  abstraction_form : ℕ → Part → Form Permutation Part
  pair_form : Part → Part → Form Permutation Part
  application_form : ℕ → Part → Form Permutation Part
  suspension_form : Permutation → ℕ → Form Permutation Part

abbrev pub Node : Type 0
Node = Form Swaps ℕ

-- Tag 20.
pub record Equal : Type 0 where
  pub left : ℕ
  pub right : ℕ

-- Tag 21, with the offset of its field.
pub record Fresh : Type 0 where
  pub atom : ℕ
  pub node : ℕ
  pub offset : ℕ

-- Tag 22, with the offset of its field.
pub record Assumed : Type 0 where
  pub atom : ℕ
  pub variable : ℕ
  pub offset : ℕ

-- "Nodes get numbers 0, 1, .. in the order of their fields." Every list is in the order of the fields.
pub record Problem : Type 0 where
  pub atoms : ℕ
  pub variables : ℕ
  pub limit : ℕ
  pub nodes : List Node
  pub equations : List Equal
  pub freshness : List Fresh
  pub assumptions : List Assumed
  pub protected : List ℕ

-- A node that is not there counts as a unit, so that every number has a form.
abbrev pub form_at : List Node → ℕ → Node
form_at nodes n = get_or nodes n unit_form
