-- Judgements that 003 itself works out, and some that it rejects, as two tables under one theorem each, by the deciding functions. Its symbols
-- fn, vr and app are 0, 1 and 2.
use Prim.Native.Nat.{ℕ}
use mathlib.Core.Path.{◌≡◌, refl}
use mathlib.Core.Logic.{◌↔◌}
use mathlib.Core.Bool.{Bool, true, not, ◌&&◌}
use mathlib.Core.List.{List, [], ◌∷◌}
use lib.Dec.{T, T_not}
use Rattle.permutation.specs.Swaps.{swapped}
use Rattle.nominal.specs.Tree.{Tree, atom, abstraction, pair, application, suspension, variable, substitute, replacing}
use Rattle.nominal.specs.Figure2.{◌⊢◌#◌, ◌⊢◌≈◌}
use Rattle.nominal.specs.Solutions.{Every, Facts, environment_of}
use Rattle.nominal.specs.Decide.{is_given, is_fresh, is_equal}
use Rattle.nominal.proofs.Decide.{and_both, fresh_decided, equal_decided}

-- A judgement, what it says, and what the deciding functions say of it.
pub data Judgement : Type 0 where
  equality : Facts → Tree → Tree → Judgement
  freshness : Facts → ℕ → Tree → Judgement

abbrev pub Derivable : Judgement → Type 0
Derivable (equality F s t) = environment_of F ⊢ s ≈ t
Derivable (freshness F a t) = environment_of F ⊢ a # t

abbrev decided : Judgement → Bool
decided (equality F s t) = is_equal (is_given F) s t
decided (freshness F a t) = is_fresh (is_given F) a t

right : (j : Judgement) → Derivable j ↔ T (decided j)
right (equality F s t) = equal_decided F s t
right (freshness F a t) = fresh_decided F a t

abbrev all_decided : List Judgement → Bool
all_decided [] = true
all_decided (j ∷ l) = decided j && all_decided l

abbrev none_decided : List Judgement → Bool
none_decided [] = true
none_decided (j ∷ l) = not (decided j) && none_decided l

all_derivable : (l : List Judgement) → T (all_decided l) → Every Derivable l
all_derivable [] h = tt
all_derivable (j ∷ l) h = let k = (and_both (decided j) (all_decided l)).0 h in ((right j).1 k.0, all_derivable l k.1)

none_derivable : (l : List Judgement) → T (none_decided l) → Every (λ j. Derivable j → ⊥) l
none_derivable [] h = tt
none_derivable (j ∷ l) h = let k = (and_both (not (decided j)) (none_decided l)).0 h in (λ d. T_not (decided j) k.0 ((right j).0 d), none_derivable l k.1)

abbrev pub a : ℕ
a = 0

abbrev pub b : ℕ
b = 1

abbrev pub c : ℕ
c = 2

abbrev pub X : ℕ
X = 0

abbrev pub Y : ℕ
Y = 1

abbrev pub fn : ℕ → Tree → Tree
fn x t = application 0 (abstraction x t)

abbrev pub vr : ℕ → Tree
vr x = application 1 (atom x)

abbrev pub app : Tree → Tree → Tree
app s t = application 2 (pair s t)

abbrev pub published : List Judgement
published =
    -- (7)
    equality ((a, X) ∷ (b, X) ∷ []) (fn a (variable X)) (fn b (variable X))
    -- (8)
    ∷ freshness ((a, X) ∷ []) a (fn b (variable X))
    ∷ freshness [] a (fn a (variable X))
    -- introduction: fn a.X is fn b.(a b)·X "provided b is fresh for X"
    ∷ equality ((b, X) ∷ []) (fn a (variable X)) (fn b (suspension ((a, b) ∷ []) X))
    -- .. and (a b)·X is X "if we knew that a # X holds as well as b # X"
    ∷ equality ((a, X) ∷ (b, X) ∷ []) (suspension ((a, b) ∷ []) X) (variable X)
    -- introduction: fn a.b and fn c.b are equal, and stay so under the swap of a and b
    ∷ equality [] (fn a (vr b)) (fn c (vr b))
    ∷ equality [] (fn b (vr a)) (fn c (vr a))
    -- after definition 2.5: the disagreement set of (a c)(a b) and (b c) is {a, c}
    ∷ equality ((a, X) ∷ (c, X) ∷ []) (suspension ((a, c) ∷ (a, b) ∷ []) X) (suspension ((b, c) ∷ []) X)
    -- example 3.8: the second, third and fourth problem of the quiz, their solutions put in
    ∷ equality [] (fn a (fn b (app (vr b) (vr b)))) (fn b (fn a (app (vr a) (vr a))))
    ∷ equality [] (fn a (fn b (app (vr b) (suspension ((a, b) ∷ []) X)))) (fn b (fn a (app (vr a) (variable X))))
    ∷ equality ((b, X) ∷ []) (fn a (fn b (app (vr b) (suspension ((b, a) ∷ []) X)))) (fn a (fn a (app (vr a) (variable X))))
    ∷ []

abbrev pub rejected : List Judgement
rejected =
    -- (7) needs both of its facts; end of section 2: "∅ ⊢ a.X ≈ b.X is not provable"
    equality ((a, X) ∷ []) (fn a (variable X)) (fn b (variable X))
    ∷ equality ((b, X) ∷ []) (fn a (variable X)) (fn b (variable X))
    ∷ equality [] (fn a (variable X)) (fn b (variable X))
    -- .. "provided b is fresh for X"
    ∷ equality [] (fn a (variable X)) (fn b (suspension ((a, b) ∷ []) X))
    -- introduction: b renamed to a in fn a.b and fn c.b
    ∷ equality [] (fn a (vr a)) (fn c (vr a))
    -- the leftmost swap first would ask for a and b
    ∷ equality ((a, X) ∷ (b, X) ∷ []) (suspension ((a, c) ∷ (a, b) ∷ []) X) (suspension ((b, c) ∷ []) X)
    -- example 3.8, the first problem with X := b, where the run ends, and the fourth without its fact
    ∷ equality [] (fn a (fn b (app (vr b) (vr b)))) (fn b (fn a (app (vr a) (vr b))))
    ∷ equality [] (fn a (fn b (app (vr b) (suspension ((b, a) ∷ []) X)))) (fn a (fn a (app (vr a) (variable X))))
    ∷ []

pub published_derivable : Every Derivable published
unfolding swapped
published_derivable = all_derivable published tt

pub rejected_not_derivable : Every (λ j. Derivable j → ⊥) rejected
unfolding swapped
rejected_not_derivable = none_derivable rejected tt

-- After definition 2.13: σ = [X := ⟨b, Y⟩] and t = a.(a b)·X give a.⟨a, (a b)·Y⟩, which captures.
pub capturing_example : substitute (replacing X (pair (atom b) (variable Y))) (abstraction a (suspension ((a, b) ∷ []) X))
    ≡ abstraction a (pair (atom a) (suspension ((a, b) ∷ []) Y))
unfolding replacing swapped
capturing_example = refl
