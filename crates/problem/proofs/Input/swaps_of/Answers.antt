-- The suspension stands at the offset that the table has.
use Rattle.std.proofs.Common.{arith, ◌≡◌, ℕ, List, ◌+◌, ◌-◌, ◌%◌, take, drop}
use mathlib.Core.Path.{◌∙◌, ap}
use Rattle.permutation.specs.Swaps.{swaps_in}
use Rattle.field.specs.Field.{Bytes}
use Rattle.field.specs.Word.{length_in}
use Rattle.problem.specs.Problem.{Node}
use Rattle.problem.specs.Reader.{node}
use Rattle.problem.specs.Held.{ItemKept, node_word}
use Rattle.problem.specs.Look.{Suspended}
use Rattle.problem.proofs.Kept.{SwapsStand, swaps_kept}
use Rattle.problem.proofs.Input.swaps_of.Goals as goal

-- The length is given beside what is kept of the node, as it was read off it, and the place in the table beside the node's number.
here : {s : List ℕ} (places : List ℕ) (i k : ℕ) {n : ℕ} {f : Node} → n ≡ length_in (node_word places i) → i ≡ k → Bytes s
    → ItemKept s (node_word places k) (node f) → Suspended f → SwapsStand s (node_word places i % 65536) n f
here places i k e w b h suspended = rw (e, w) (swaps_kept b h suspended)

pub slice_bounds-result-count : goal.slice_bounds-result-count
slice_bounds-result-count c =
    let h = here c.args.self.now.places.now c.from.result _ c.length.ensures.0 c.from.ensures c.args.self.now.are_bytes c.requires.0.kept c.requires.1 in
    omega arith

pub slice_bounds-result-start : goal.slice_bounds-result-start
slice_bounds-result-start c =
    let h = here c.args.self.now.places.now c.from.result _ c.length.ensures.0 c.from.ensures c.args.self.now.are_bytes c.requires.0.kept c.requires.1 in
    omega arith

pub slice_bounds-result-end : goal.slice_bounds-result-end
slice_bounds-result-end c =
    let h = here c.args.self.now.places.now c.from.result _ c.length.ensures.0 c.from.ensures c.args.self.now.are_bytes c.requires.0.kept c.requires.1 in
    omega arith

pub returns : goal.returns
returns c =
    let o : ℕ = node_word c.args.self.now.places.now c.from.result % 65536 in
    let n : ℕ = c.length.result in
    let h = here c.args.self.now.places.now c.from.result _ c.length.ensures.0 c.from.ensures c.args.self.now.are_bytes c.requires.0.kept c.requires.1 in
    let m : o + 3 + n - (o + 4) ≡ n - 1 = omega arith in
    ap (λ k. swaps_in (take k (drop (o + 4) c.args.self.now.bytes.now))) m ∙ h.swaps
