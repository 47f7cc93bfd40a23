-- Which pairs the demands are asked as: those of tags 21 and 22 and those raised, each list by itself, and lists put together.
use Prim.Native.Nat.{ℕ}
use mathlib.Core.Path.{◌≡◌, refl, sym, ap}
use mathlib.Core.Logic.{◌↔◌, ◌⊎◌, inl, inr}
use mathlib.Core.List.Memᴰ
use mathlib.Core.List.{List, [], ◌∷◌, ◌++◌, map, Memᴰ}
use Rattle.permutation.specs.Table.{image, inverted, swaps_of}
use Rattle.nominal.specs.Tree.{variable}
use Rattle.nominal.specs.Solutions.{Every}
use Rattle.nominal.proofs.Tree.{permute_nil}
use Rattle.nominal.proofs.Solutions.{every_at}
use Rattle.problem.specs.Problem.{Node}
use Rattle.run.specs.Meaning.{Side, tree, side_tree}
use Rattle.run.specs.Answer.{Asked}
use Rattle.run.proofs.Trees.{Permuting}
use Rattle.visit.specs.Pairs.{Pair, of_node, of_variable}
use Rattle.fresh.specs.Resolved.{AskedAs, Asks}
use Rattle.fresh.proofs.Right.{act_back}

module _ (nodes : List Node) where
  pub asked_node : (a n : ℕ) → AskedAs nodes (a, tree nodes n) (of_node a n)
  asked_node a n = ([], sym (permute_nil (tree nodes n)), refl)

  pub asked_variable : (a X : ℕ) → AskedAs nodes (a, variable X) (of_variable a X)
  asked_variable a X = (refl, refl)

  -- "a is demanded fresh for t": of the side's node the atom that its images send to a.
  pub asked_side : {atoms : ℕ} (a : ℕ) (s : Side) → Permuting atoms s.images
      → AskedAs nodes (a, side_tree nodes s) (of_node (image (inverted s.images) a) s.node)
  unfolding side_tree
  asked_side a s p = (swaps_of s.images, refl, sym (act_back p a))

  pub asks_append : {ds es : List Asked} {S T : Pair → Type 0} → Asks nodes ds S → Asks nodes es T → Asks nodes (ds ++ es) (λ w. S w ⊎ T w)
  asks_append {ds} {es} {S} {T} s t = record {
    all = λ d i. either d (Memᴰ.append_cases ds i);
    only = back;
  }
    where
      either : (d : Asked) → Memᴰ d ds ⊎ Memᴰ d es → (w : Pair) × (S w ⊎ T w) × AskedAs nodes d w
      either d (inl i) = let (w, k, q) = s.all d i in (w, inl k, q)
      either d (inr i) = let (w, k, q) = t.all d i in (w, inr k, q)

      back : (w : Pair) → S w ⊎ T w → (d : Asked) × Memᴰ d (ds ++ es) × AskedAs nodes d w
      back w (inl k) = let (d, i, q) = s.only w k in (d, Memᴰ.append_left es i, q)
      back w (inr k) = let (d, i, q) = t.only w k in (d, Memᴰ.append_right ds i, q)

  pub asks_same : {ds : List Asked} {S T : Pair → Type 0} → ((w : Pair) → S w ↔ T w) → Asks nodes ds S → Asks nodes ds T
  asks_same h s = record {
    all = λ d i. let (w, k, q) = s.all d i in (w, (h w).0 k, q);
    only = λ w k. s.only w ((h w).1 k);
  }

  -- A list of demands, each asked as the pair that a function gives.
  module _ {A : Type 0} (demand : A → Asked) (pair : A → Pair) where
    mem_mapped : (x : A) (l : List A) → Memᴰ x l → Memᴰ (demand x) (map demand l)
    mem_mapped x [] i = elim i [ ]
    mem_mapped x (y ∷ l) (Memᴰ.head e) = Memᴰ.head (ap demand e)
    mem_mapped x (y ∷ l) (Memᴰ.tail i) = Memᴰ.tail (mem_mapped x l i)

    mapped_mem : (d : Asked) (l : List A) → Memᴰ d (map demand l) → (x : A) × Memᴰ x l × (d ≡ demand x)
    mapped_mem d [] i = absurd (elim i [ ])
    mapped_mem d (y ∷ l) (Memᴰ.head e) = (y, Memᴰ.head refl, e)
    mapped_mem d (y ∷ l) (Memᴰ.tail i) = let (x, j, e) = mapped_mem d l i in (x, Memᴰ.tail j, e)

    pub asks_map : (l : List A) → Every (λ x. AskedAs nodes (demand x) (pair x)) l → Asks nodes (map demand l) (λ w. (x : A) × Memᴰ x l × (w ≡ pair x))
    asks_map l h = record {
      all = λ d i. found d (mapped_mem d l i);
      only = λ w k. (demand k.0, mem_mapped k.0 l k.1, rw k.2 (every_at (λ y. AskedAs nodes (demand y) (pair y)) k.1 h));
    }
      where
        found : (d : Asked) → (x : A) × Memᴰ x l × (d ≡ demand x) → (w : Pair) × ((x : A) × Memᴰ x l × (w ≡ pair x)) × AskedAs nodes d w
        found d (x, j, e) = (pair x, (x, j, refl), rw e (every_at (λ y. AskedAs nodes (demand y) (pair y)) j h))
