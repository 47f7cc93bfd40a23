-- What is handed out to be written is the text, whole, where there was room for it.
use Prim.Native.Nat.{ℕ, ◌≤◌, ◌<◌}
use native.Mathlib.Omega.{arith}
use mathlib.Core.Path.{◌≡◌, refl, ◌∙◌, sym, ap}
use mathlib.Core.List.{List, [], ◌++◌}
use lib.ListN.{length, take, length-append}
use Rattle.outlet.specs.declared.Taken.{Taken}
use Rattle.outlet.specs.declared.Unwritten.{Unwritten}
use Rattle.std.specs.Prelude.{Result}
use Rattle.outlet.specs.Puts.{Puts}
use Rattle.printer.specs.Lines.{refused_word, cut_words, problems_word, newline, decimal, spaced, refused_line, cut_line}
use Rattle.printer.specs.Placed.{Placed}
use Rattle.printer.proofs.Fitting.{refused_length, placed_whole}
use Rattle.standing.specs.Settled.{Handed}

-- The front of the lent bytes is the text, and it was the front that was handed out.
pub wrote : {text out : List ℕ} {taken : Result Taken Unwritten} (end : ℕ) → take end out ≡ text
    → Puts (length (take end out)) taken → end ≡ length (take end out) → Handed text out taken
wrote {text} {out} {taken} end e p l =
    let n : length text ≡ end = sym (ap length e) ∙ sym l in
    record { stands = rw n e; puts = rw e at p }

-- Nothing was to be written, and nothing was.
pub quiet : {out : List ℕ} (taken : Result Taken Unwritten) → Puts 0 taken → Handed [] out taken
quiet taken p = record { stands = refl; puts = p }

-- A cut's line is short because a refusal's line with the same number in it is.
cut_length : (count : ℕ) → count < 18446744073709551616 → length (cut_line count) ≤ 67
unfolding refused_line spaced cut_line
cut_length count h =
    let refused = refused_word ++ decimal 0 in
    let cut = cut_words ++ decimal count in
    omega (
      arith,
      refused_length 0 count (omega arith) h,
      length-append (refused ++ spaced count) newline,
      length-append refused (spaced count),
      length-append refused_word (decimal 0),
      length-append (cut ++ problems_word) newline,
      length-append cut problems_word,
      length-append cut_words (decimal count),
    )

pub cut_whole : (count : ℕ) {d e : List ℕ} {r : ℕ} → count < 18446744073709551616 → 67 ≤ length d → Placed d 0 (cut_line count) r e → take r e ≡ cut_line count
cut_whole count h l p = placed_whole p (omega (arith, cut_length count h))
