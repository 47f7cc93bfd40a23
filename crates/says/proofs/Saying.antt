-- What a field says, as the code finds it out: the atoms of swaps, a tag that is none of those known, and the fault.
use Prim.Native.Nat.{ℕ, ◌%◌}
use native.Mathlib.Omega.{arith}
use mathlib.Core.Path.{◌≡◌, refl, ap}
use mathlib.Core.Bool.{Bool, true, false, not, ◌&&◌, cond}
use mathlib.Core.List.{List, [], ◌∷◌}
use lib.ListN.{length, drop}
use lib.Dec.{ltb}
use borrow.Author.Tests.{ne_eqb}
use Rattle.permutation.specs.Swaps.{swaps_in}
use Rattle.problem.specs.Reader.{Item, node, equation, freshness, assumption, protection, Sizes, base_tags, swaps_there, length_fits, item, room, there, fault}
use Rattle.says.specs.Told.{below, said_by, said_of, fault_by}

-- In pairs or one by one: the atoms of swaps are there if every byte is below the number of atoms.
swaps_below : (atoms : ℕ) (s : List ℕ) → length s % 2 ≡ 0 → swaps_there atoms (swaps_in s) ≡ below atoms s
swaps_below atoms [] e = refl
swaps_below atoms (a ∷ []) e = absurd (omega arith)
swaps_below atoms (a ∷ b ∷ s) e = ap (λ t. ltb a atoms && (ltb b atoms && t)) (swaps_below atoms s (omega arith))

pub suspended : (atoms : ℕ) (s : List ℕ) → length s % 2 ≡ 1 → swaps_there atoms (swaps_in (drop 1 s)) ≡ below atoms (drop 1 s)
suspended atoms [] e = refl
suspended atoms (X ∷ s) e = swaps_below atoms s (omega arith)

-- A tag that is none of a node's six, and one that is none of the ten, which is unknown.
pub record NoNode (tag : ℕ) : Type 0 where
  pub no_unit : tag ≡ 0x10 → ⊥
  pub no_atom : tag ≡ 0x11 → ⊥
  pub no_abstraction : tag ≡ 0x12 → ⊥
  pub no_pair : tag ≡ 0x13 → ⊥
  pub no_application : tag ≡ 0x14 → ⊥
  pub no_suspension : tag ≡ 0x15 → ⊥

pub record NoTag (tag : ℕ) : Type 0 where
  pub no_node : NoNode tag
  pub no_equation : tag ≡ 0x20 → ⊥
  pub no_freshness : tag ≡ 0x21 → ⊥
  pub no_assumption : tag ≡ 0x22 → ⊥
  pub no_protection : tag ≡ 0x30 → ⊥

pub no_base_tag : (tag : ℕ) → NoTag tag → base_tags tag ≡ false
unfolding base_tags
no_base_tag tag n =
    rw (
      ne_eqb tag 0x10 n.no_node.no_unit,
      ne_eqb tag 0x11 n.no_node.no_atom,
      ne_eqb tag 0x12 n.no_node.no_abstraction,
      ne_eqb tag 0x13 n.no_node.no_pair,
      ne_eqb tag 0x14 n.no_node.no_application,
      ne_eqb tag 0x15 n.no_node.no_suspension,
      ne_eqb tag 0x20 n.no_equation,
      ne_eqb tag 0x21 n.no_freshness,
      ne_eqb tag 0x22 n.no_assumption,
      ne_eqb tag 0x30 n.no_protection,
    )

-- The number of the first test that fails.
abbrev pub first_fault : Bool → Bool → Bool → Bool → ℕ
first_fault known fits roomy named = cond (not known) 4 (cond (not fits) 5 (cond (not roomy) 6 (cond (not named) 7 0)))

-- What is said is at fault as the field is: a fault is 4, 5, 6 or 7, or there is none.
said_none : (i : Item) → fault_by (said_by 0 i) ≡ 0
said_none (node f) = refl
said_none (equation e) = refl
said_none (freshness a n) = refl
said_none (assumption a X) = refl
said_none (protection X) = refl

said_fault : (known fits roomy named : Bool) (i : Item) → fault_by (said_by (first_fault known fits roomy named) i) ≡ first_fault known fits roomy named
said_fault false fits roomy named i = refl
said_fault true false roomy named i = refl
said_fault true true false named i = refl
said_fault true true true false i = refl
said_fault true true true true i = said_none i

pub fault_said : (z : Sizes) (tag : ℕ) (s : List ℕ) → fault_by (said_of z tag s) ≡ fault base_tags z tag s
unfolding said_of fault
fault_said z tag s = said_fault (base_tags tag) (length_fits tag (length s)) (room z (item tag s)) (there z (item tag s)) (item tag s)
