-- What a turn adds to what was written, and all turns together.
use Rattle.std.proofs.Common.{◌≡◌, ℕ, ◌+◌, List, [], ◌∷◌, ◌++◌, length, take, refl, sym, ap, subst, ◌∙◌, arith, Result, Ok, Err}
use Rattle.std.proofs.Common.{append-nil, append_assoc, take_all, length-append}
use mathlib.Core.Logic.{inl, inr}
use lib.Seq.{take-nil}
use Rattle.std.specs.Prelude.{Option}
use Rattle.std.specs.Io.KnownBytes.{Appends}
use Rattle.std.proofs.KnownBytes.{Appends-nil, Appends-trans}
use Rattle.outlet.specs.declared.Taken.{Taken}
use Rattle.outlet.specs.declared.Unwritten as outlet
use Rattle.outlet.specs.Puts.{taken_of, Puts}
use Rattle.block.specs.Block.{block}
use Rattle.frames.specs.declared.Stop.{Stop}
use Rattle.frames.specs.declared.Stop.TheVariants as stop
use Rattle.intake.specs.declared.Filled.{Filled}
use Rattle.standing.specs.Settled.{standing_of, cut_of, said_of, written_of, Settled}
use Rattle.standing.specs.declared.Turn.{Turn}
use Rattle.standing.specs.declared.Ending.{Ending}
use Rattle.stream.specs.Turned.{text_of, taken_by, Hands, Turned}
use Rattle.stream.specs.Written.{blocks, IsPart, Last, Wrote}

-- Nothing beside it.
nothing_then : (a b c : Option (List ℕ)) (n : ℕ) (bytes : List ℕ) → Appends a b (take n []) → Appends b c bytes → Appends a c bytes
nothing_then a b c n bytes p q = Appends-trans a b c [] bytes (subst (Appends a b) (take-nil n) p) q

then_nothing : (a b c : Option (List ℕ)) (n : ℕ) (bytes : List ℕ) → Appends a b bytes → Appends b c (take n []) → Appends a c bytes
then_nothing a b c n bytes p q = subst (Appends a c) (append-nil bytes) (Appends-trans a b c bytes [] p (subst (Appends b c) (take-nil n) q))

-- One turn: what it wrote where the stream goes on, and where it does not.
module _ (input output out after : List ℕ) (count : ℕ) (a b c : Option (List ℕ)) where
  abbrev Step : Result Taken Ending → Type 0
  Step (Ok taken) = (problem : List ℕ) × ((before : List ℕ) × Appends a c (block problem before))
  Step (Err ending) = (bytes : List ℕ) × (Appends a c bytes × Last (Err ending) count bytes)

  worked : (filled : Filled) (problem before : List ℕ) (n : ℕ) (taken : Result Taken outlet.Unwritten) → Puts (length (block problem before)) taken
      → Appends a b (take (taken_of taken) (block problem before)) → Appends b c (take n []) → Step (standing_of filled taken)
  worked filled problem before n (Ok t) h p q =
      let text = block problem before in
      let k : t.count ≡ length text = h.0 in
      (problem, (before, then_nothing a b c n text (subst (Appends a b) (take_all t.count text (omega arith)) p) q))
  worked filled problem before n (Err u) h p q =
      let text = block problem before in
      let part : IsPart text (take u.count text) = record { count = u.count; fewer = h.0; front = refl } in
      (take u.count text, (then_nothing a b c n _ p q, inr (problem, (before, part))))

  abbrev line : Filled → List ℕ
  line filled = said_of count (Err (stop.Cut filled))

  cut : (filled : Filled) (n : ℕ) (taken : Result Taken outlet.Unwritten) → Puts (length (line filled)) taken
      → Appends a b (take n []) → Appends b c (take (taken_of taken) (line filled)) → Step (Err (cut_of filled taken))
  cut filled n (Ok t) h p q =
      let k : t.count ≡ length (line filled) = h.0 in
      (take t.count (line filled), (nothing_then a b c n _ p q, take_all t.count (line filled) (omega arith)))
  cut filled n (Err u) h p q =
      let part : IsPart (line filled) (take u.count (line filled)) = record { count = u.count; fewer = h.0; front = refl } in
      (take u.count (line filled), (nothing_then a b c n _ p q, inl part))

  taken_bytes : (filled : Filled) (taken : Result Taken outlet.Unwritten) → Appends b c (take (written_of (Err (cut_of filled taken))) (line filled))
      → Appends b c (take (taken_of taken) (line filled))
  taken_bytes filled (Ok t) q = q
  taken_bytes filled (Err u) q = q

  quiet : (n m : ℕ) → Appends a b (take n []) → Appends b c (take m []) → Appends a c []
  quiet n m p q = nothing_then a b c n [] p (subst (Appends b c) (take-nil m) q)

  step : (turned : Result Turn Stop) (r : Result Taken Ending) → Hands input output out turned → Settled count out after turned r
      → Appends a b (take (taken_by turned) (text_of input output turned)) → Appends b c (take (written_of r) (said_of count turned)) → Step r
  step (Ok turn) r h s p q =
      subst Step (sym s.0) (worked turn.frame.filled (take turn.frame.size input) output (written_of r) turn.taken h.puts p q)
  step (Err (stop.End filled)) r h s p q = subst Step (sym s) ([], (quiet 0 (written_of r) p q, refl))
  step (Err (stop.Cut filled)) r h s p q =
      let q' = subst (λ x. Appends b c (take (written_of x) (line filled))) s.2 q in
      subst Step (sym s.2) (cut filled 0 s.0 s.1.puts p (taken_bytes filled s.0 q'))
  step (Err (stop.Unreadable unread)) r h s p q = subst Step (sym s) ([], (quiet 0 (written_of r) p q, refl))

-- So many blocks were written, and nothing else: where the stream goes on.
pub record Blocks (old new : Option (List ℕ)) (count : ℕ) : Type 0 where
  pub problems : List (List ℕ × List ℕ)
  pub many : length problems ≡ count
  pub written : Appends old new (blocks problems)

pub no_blocks : (old : Option (List ℕ)) → Blocks old old 0
unfolding blocks
no_blocks old = record { problems = []; many = refl; written = Appends-nil old }

blocks_more : (ps : List (List ℕ × List ℕ)) (problem before : List ℕ) → blocks (ps ++ (problem, before) ∷ []) ≡ blocks ps ++ block problem before
unfolding blocks
blocks_more [] problem before = append-nil (block problem before)
blocks_more (p ∷ ps) problem before =
    ap (λ l. block p.0 p.1 ++ l) (blocks_more ps problem before) ∙ sym (append_assoc (block p.0 p.1) (blocks ps) (block problem before))

module _ {input output out : List ℕ} (after : List ℕ) {count : ℕ} {turned : Result Turn Stop} (r : Result Taken Ending) (old a b c : Option (List ℕ))
    (so_far : Blocks old a count) (t : Turned input output out turned) (s : Settled count out after turned r)
    (p : Appends a b (take (taken_by turned) (text_of input output turned)))
    (q : Appends b c (take (written_of r) (said_of count turned))) where
  stepped : Step input output out after count a b c r
  stepped = step input output out after count a b c turned r t.wrote s p q

  pub one_more : {x : Taken} → r ≡ Ok x → Blocks old c (count + 1)
  one_more {x} e =
      let turn = subst (Step input output out after count a b c) e stepped in
      record {
        problems = so_far.problems ++ (turn.0, turn.1.0) ∷ [];
        many = length-append so_far.problems ((turn.0, turn.1.0) ∷ []) ∙ ap (λ n. n + 1) so_far.many;
        written = subst (Appends old c) (sym (blocks_more so_far.problems turn.0 turn.1.0)) (Appends-trans old a c _ _ so_far.written turn.1.1);
      }

  pub ended : {x : Ending} → r ≡ Err x → Wrote old c (Err x)
  ended {x} e =
      let turn = subst (Step input output out after count a b c) e stepped in
      record {
        problems = so_far.problems;
        bytes = turn.0;
        written = Appends-trans old a c _ _ so_far.written turn.1.0;
        last = subst (λ n. Last (Err x) n turn.0) (sym so_far.many) turn.1.1;
      }
