-- What a problem's demands name, those of the file and those raised, is there.
use Prim.Native.Nat.{ℕ, ◌<◌}
use mathlib.Core.Path.{refl}
use mathlib.Core.Bool.{Bool}
use mathlib.Core.List.{List, [], ◌∷◌, ◌++◌, Memᴰ}
use lib.ListN.{length}
use Rattle.nominal.specs.Solutions.{Every}
use Rattle.nominal.proofs.Solutions.{every_append}
use Rattle.problem.specs.Problem.{Fresh, Assumed, Problem}
use Rattle.problem.specs.Readable.{Readable}
use Rattle.run.specs.Run.{Subject, of_variable, of_side, Demand}
use Rattle.run.specs.Answer.{Asked, subject_tree, asked_fresh, asked_assumed, asked_raised}
use Rattle.run.proofs.Trees.{NamedTree, named_node, named_side}
use Rattle.run.proofs.States.{SubjectFits, DemandFits, ground_with}
use Rattle.solutions.specs.Promises.{asked}

-- A demand's names are there.
abbrev pub NamedAsked : Problem → Asked → Type 0
NamedAsked p d = (d.0 < p.atoms) × NamedTree p.atoms p.variables d.1

module _ (p : Problem) (r : Readable p) where
  fresh_named : (ds : List Fresh) → ((d : Fresh) → Memᴰ d ds → (d.atom < p.atoms) × (d.node < length p.nodes))
      → Every (NamedAsked p) (asked_fresh p.nodes ds)
  fresh_named [] h = tt
  fresh_named (d ∷ ds) h = (
    ((h d (Memᴰ.head refl)).0, named_node p.atoms p.variables p.nodes r.named_nodes d.node),
    fresh_named ds
        (λ e m. h e (Memᴰ.tail m)),
  )

  assumed_named : (ds : List Assumed) → ((d : Assumed) → Memᴰ d ds → (d.atom < p.atoms) × (d.variable < p.variables))
      → Every (NamedAsked p) (asked_assumed ds)
  assumed_named [] h = tt
  assumed_named (d ∷ ds) h = let k = h d (Memᴰ.head refl) in ((k.0, (k.1, tt)), assumed_named ds (λ e m. h e (Memᴰ.tail m)))

  module _ (is_protected : ℕ → Bool) where
    subject_named : (s : Subject) → SubjectFits (ground_with p is_protected) p.variables s → NamedTree p.atoms p.variables (subject_tree p.nodes s)
    subject_named (of_variable X) f = (f, tt)
    subject_named (of_side s) f = named_side p.atoms p.variables p.nodes r.named_nodes s f.images

    raised_named : (ds : List Demand) → Every (λ d. DemandFits (ground_with p is_protected) p.variables (d.atom, d.subject)) ds
        → Every (NamedAsked p) (asked_raised p.nodes ds)
    raised_named [] h = tt
    raised_named (d ∷ ds) h = ((h.0.0, subject_named d.subject h.0.1), raised_named ds h.1)

    pub asks_named : (ds : List Demand) → Every (λ d. DemandFits (ground_with p is_protected) p.variables (d.atom, d.subject)) ds
        → Every (NamedAsked p) ((asked p).demands ++ asked_raised p.nodes ds)
    asks_named ds h =
        (every_append (NamedAsked p) (asked p).demands (asked_raised p.nodes ds)).1 (
          (every_append (NamedAsked p) (asked_fresh p.nodes p.freshness) (asked_assumed p.assumptions)).1
              (fresh_named p.freshness r.named_freshness, assumed_named p.assumptions r.named_assumptions),
          raised_named ds h,
        )
