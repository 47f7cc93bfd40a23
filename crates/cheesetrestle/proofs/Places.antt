-- Every place that the solver or the judge gives back is at most 65,535, so number and place fit one word: an offset lies in an input of at most
-- 65,535 bytes, an equation is one of 64, and no answer is over 16,384 bytes.
use Prim.Native.Nat.{ℕ, zero, suc, ◌+◌, ◌<◌, ◌≤◌}
use native.Mathlib.Omega.{arith}
use mathlib.Core.Path.{◌≡◌, refl}
use mathlib.Core.Bool.{Bool, true, false, cond}
use mathlib.Core.Option.{Option, none, some}
use mathlib.Core.List.{List, [], ◌∷◌, ◌++◌}
use lib.ListN.{length, drop}
use lib.Dec.{leb}
use borrow.Author.Tests.{leb-true, leb-false}
use Rattle.nominal.specs.Solutions.{Every}
use Rattle.nominal.proofs.Solutions.{every_append}
use Rattle.field.specs.Field.{Bytes}
use Rattle.problem.specs.Problem.{Equal, Problem}
use Rattle.problem.specs.Readable.{Readable}
use Rattle.problem.specs.Reader.{Reading, read, unreadable, reading, base_tags}
use Rattle.problem.proofs.Readable.{readable}
use Rattle.problem.proofs.Refusals.{one_first, numbers_right}
use Rattle.run.specs.Meaning.{Side, Binding, Fact, meaning}
use Rattle.run.specs.Run as run
use Rattle.run.specs.Run.{Equation, Demand, Ground, Step, refuses, goes_on, step, pending, bindings, demands, next, End, limit, finished}
use Rattle.run.specs.Run.{equations_from, ground_of, run_of}
use Rattle.run.specs.Answer.{asked_fresh, asked_assumed, asked_raised, resolved_all}
use Rattle.run.specs.Answer.{Verdict, accepted, refusal, concluded, verdict_of, verdict_read, answer_bytes, Result, written, given, solve}
use Rattle.run.specs.Answer.{judged_run, Judgement, assumed_facts, all_among, holds_from, judgement_of, judgement_read, judge}
use Rattle.room.proofs.Answers.{answer_room}

-- ---- the number of an equation

abbrev Numbered : Equation → Type 0
Numbered e = e.number < 64

-- A run that ends by an equation ends by one of these.
abbrev Ended : End → Type 0
Ended (limit n) = n < 64
Ended (run.refused r n) = n < 64
Ended (finished k bs ds) = Unit {0}

pending_numbered : (n : ℕ) → n < 64 → (qs : List (Side × Side)) → Every Numbered (pending n qs)
pending_numbered n h [] = tt
pending_numbered n h (q ∷ qs) = (h, pending_numbered n h qs)

next_ended : (onward : List Equation → List Binding → List Demand → End)
    → ((es : List Equation) (bs : List Binding) (ds : List Demand) → Every Numbered es → Ended (onward es bs ds))
    → (n : ℕ) → n < 64 → (es : List Equation) (bs : List Binding) (ds : List Demand) → Every Numbered es → (s : Step) → Ended (next onward n es bs ds s)
next_ended onward go n h es bs ds k (refuses r) = h
next_ended onward go n h es bs ds k (goes_on qs b d) =
    go (pending n qs ++ es) (bs ++ bindings n b) (ds ++ demands n d) ((every_append Numbered (pending n qs) es).1 (pending_numbered n h qs, k))

run_ended : (g : Ground) (k : ℕ) (es : List Equation) (bs : List Binding) (ds : List Demand) → Every Numbered es → Ended (run.run g k es bs ds)
unfolding run.run
run_ended g zero [] bs ds h = tt
run_ended g zero (e ∷ es) bs ds h = h.0
run_ended g (suc k) [] bs ds h = tt
run_ended g (suc k) (e ∷ es) bs ds h =
    next_ended (λ es' bs' ds'. run.run g k es' bs' ds') (λ es' bs' ds'. run_ended g k es' bs' ds')
    e.number h.0 es bs ds h.1 (step g bs e.left e.right)

start_numbered : (atoms i : ℕ) (es : List Equal) → i + length es ≤ 64 → Every Numbered (equations_from atoms i es)
start_numbered atoms i [] h = tt
start_numbered atoms i (e ∷ es) h = (omega arith, start_numbered atoms (suc i) es (omega arith))

-- A problem that was read has at most 64 equations: so has every run from its start, whatever is protected.
started_ended : (p : Problem) → Readable p → (g : Ground) → Ended (run.run g p.limit (equations_from p.atoms 0 p.equations) [] [])
started_ended p r g =
    run_ended g p.limit (equations_from p.atoms 0 p.equations) [] []
    (start_numbered p.atoms 0 p.equations (omega (arith, r.few_equations)))

-- ---- the solver

abbrev Placed : Verdict → Type 0
Placed (accepted k bs fs) = length (answer_bytes k bs fs) ≤ 16384
Placed (refusal n o) = o ≤ 65535

-- A verdict that is no acceptance, with a small place; an acceptance is told by `answer_room`.
placed : (v w : Verdict) → v ≡ w → ((k : ℕ) (bs : List Binding) (fs : List Fact) → v ≡ accepted k bs fs → length (answer_bytes k bs fs) ≤ 16384)
    → ((n o : ℕ) → v ≡ refusal n o → o ≤ 65535) → Placed w
placed v (accepted k bs fs) e f h = f k bs fs e
placed v (refusal n o) e f h = h n o e

concluded_place : (p : Problem) (k : ℕ) (bs : List Binding) (o : Option (List Fact)) (n i : ℕ) → concluded p k bs o ≡ refusal n i → i ≤ 65535
concluded_place p k bs none n i e = let z : ◌≡◌ {A = ℕ} 0 i = cc in omega arith
concluded_place p k bs (some fs) n i e = absurd (let z : ◌≡◌ {A = ℕ} 0 1 = cc in omega arith)

verdict_place : (p : Problem) (e : End) → Ended e → (n i : ℕ) → verdict_of p e ≡ refusal n i → i ≤ 65535
unfolding verdict_of
verdict_place p (limit m) h n i e = let z : m ≡ i = cc in omega arith
verdict_place p (run.refused r m) h n i e = let z : m ≡ i = cc in omega arith
verdict_place p (finished k bs ds) h n i e =
    let asked = asked_fresh p.nodes p.freshness ++ asked_assumed p.assumptions ++ asked_raised p.nodes ds in
    concluded_place p k bs (resolved_all (meaning p.nodes bs) asked) n i e

either_result : (b : Bool) (x y : Result) → x.place ≤ 65535 → y.place ≤ 65535 → (cond b x y).place ≤ 65535
either_result true x y h k = h
either_result false x y h k = k

-- The length of the answer is the place of both 0 and 13.
given_place : (v : Verdict) (output : List ℕ) → Placed v → (given v output).place ≤ 65535
unfolding given written
given_place (accepted k bs fs) output h =
    let answer : List ℕ = answer_bytes k bs fs in
    either_result (leb (length answer) (length output)) (record { number = 0; place = length answer; output = answer ++ drop (length answer) output })
    (record { number = 13; place = length answer; output = output }) (omega arith) (omega arith)
given_place (refusal n o) output h = h

-- A refused input is at fault within its bytes; a longer one is refused at 0.
refused_place : (s : List ℕ) (n o : ℕ) → reading base_tags s ≡ unreadable n o → o ≤ 65535
refused_place s n o e = by_length (leb (length s) 65535) refl
  where
    by_length : (b : Bool) → leb (length s) 65535 ≡ b → o ≤ 65535
    by_length true h = omega (arith, leb-true (length s) 65535 h, (numbers_right base_tags s n o e).0)
    by_length false h =
        let k : reading base_tags s ≡ unreadable 1 0 = one_first base_tags s (leb-false (length s) 65535 h) in
        let z : o ≡ 0 = cc in
        omega arith

read_placed : (s : List ℕ) → Bytes s → (r : Reading) → reading base_tags s ≡ r → Placed (verdict_read r)
unfolding verdict_read run_of
read_placed s b (read p) e =
    let r : Readable p = readable base_tags s p b e in
    placed (verdict_of p (run_of p)) (verdict_of p (run_of p)) refl (λ k bs fs q. answer_room p r k bs fs q)
    (verdict_place p (run_of p) (started_ended p r (ground_of p)))
read_placed s b (unreadable n o) e = refused_place s n o e

pub solver_place : (input output : List ℕ) → Bytes input → (solve input output).place ≤ 65535
unfolding solve
solver_place input output b = given_place (verdict_read (reading base_tags input)) output (read_placed input b (reading base_tags input) refl)

-- ---- the judge

either_place : (b : Bool) (j k : Judgement) → j.1 ≤ 65535 → k.1 ≤ 65535 → (cond b j k).1 ≤ 65535
either_place true j k h i = h
either_place false j k h i = i

holds_place : (p : Problem) (o : Option (List Fact)) → (holds_from p.assumptions o).1 ≤ 65535
holds_place p none = omega arith
holds_place p (some fs) = either_place (all_among (assumed_facts p.assumptions) fs) (0, 0) (14, 0) (omega arith) (omega arith)

judged_place : (p : Problem) (e : End) → Ended e → (judgement_of p e).1 ≤ 65535
unfolding judgement_of
judged_place p (limit n) h = omega arith
judged_place p (run.refused r n) h = omega arith
judged_place p (finished k bs ds) h = holds_place p (resolved_all (meaning p.nodes bs) (asked_fresh p.nodes p.freshness ++ asked_raised p.nodes ds))

read_judged : (s : List ℕ) → Bytes s → (r : Reading) → reading base_tags s ≡ r → (judgement_read r).1 ≤ 65535
unfolding judgement_read judged_run
read_judged s b (read p) e =
    let r : Readable p = readable base_tags s p b e in
    judged_place p (judged_run p) (started_ended p r (record { atoms = p.atoms; nodes = p.nodes; protected = λ X. true }))
read_judged s b (unreadable n o) e = refused_place s n o e

pub judge_place : (input : List ℕ) → Bytes input → (judge input).1 ≤ 65535
unfolding judge
judge_place input b = read_judged input b (reading base_tags input) refl
