-- From what was read and worked, and what telling and writing gave back, to how the problem was served.
use Rattle.std.specs.Prelude.{ℕ, List, [], ◌≡◌, length, take, Result, Ok, Err}
use mathlib.Core.Path.{refl, sym, ◌∙◌, ap, subst}
use Rattle.descriptor.specs.Answers.{failed_of}
use Rattle.intake.specs.Fills.{Fills}
use Rattle.outlet.specs.Puts.{Puts}
use Rattle.intake.specs.declared.Filled.{Filled}
use Rattle.intake.specs.declared.Unread as intake
use Rattle.notice.specs.Notices.{notice_of}
use Rattle.exchange.specs.Exchanges.{Gives, Works, Answered, Unread, Serves, reading_of, told_of, written_of}
use Rattle.exchange.specs.declared.Worked.{Worked}
use Rattle.exchange.specs.declared.Served.{Served}

answers :
    {n p : ℕ} {text problem out : List ℕ} (w : Worked) (r : Served) → Works n p text out w → r.notice ≡ notice_of w.given.number w.given.place problem →
    (r.end ≡ length (take w.end out)) × Puts (length (take w.end out)) r.taken → Answered n p text problem out r
answers {out = out} w r h t l = record {
  told = rw (h.number, h.place) at t;
  lines = ap (λ k. take k out) (l.0 ∙ sym h.counts) ∙ h.lines;
  wrote = rw h.lines at l.1;
}

-- For a program whose answer to a problem is such a number, place and text, of what the reads left in the input.
module _ (gives : List ℕ → Gives) (input before : List ℕ) where
  -- The filling that is given back is the one that was made: all that is said of the one holds of the other.
  abbrev Told : List ℕ → Result Served intake.Unread → Result Filled intake.Unread → Type 0
  Told after r g = Fills (length input) g × Serves gives input before after r

  module _ (f : Filled) (r : Served) (fills : Fills (length input) (Ok f)) where
    abbrev problem : List ℕ
    problem = take f.count input

    pub answered :
        {after : List ℕ} (w : Worked) → Works (gives problem).number (gives problem).place (gives problem).text after w →
        (r.filled ≡ f) × (r.notice ≡ notice_of w.given.number w.given.place problem) →
        (r.end ≡ length (take w.end after)) × Puts (length (take w.end after)) r.taken → Told after (Ok r) (reading_of (Ok r))
    answered {after} w h t l = (
      subst (λ (g : Filled). Fills (length input) (Ok g)) (sym t.0) fills,
      subst
          (λ (g : Filled).
          let q : List ℕ = take g.count input in
          Answered (gives q).number (gives q).place (gives q).text q after r)
          (sym t.0)
          (answers w r h t.1 l),
    )

  -- Where a read failed nothing is worked, told or written.
  pub unread :
      (u : intake.Unread) → Fills (length input) (Err u) →
      Told before (Err u) (reading_of (Err u)) × (told_of (Err u) ≡ []) × ((out : List ℕ) → written_of (Err u) out ≡ [])
  unread u fills = ((fills, record { unread = fills.1; kept = refl }), refl, λ out. refl)
