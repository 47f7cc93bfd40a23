-- Too long, no good head or one that is cut, and a good head: each way is a law of `Opened`.
use Rattle.std.proofs.Common.{ℕ, ◌≡◌, Result, Ok, Err, MatchResult, IsErrAnd, refl, sym, ap, ◌∙◌, arith, rules}
use Rattle.std.proofs.lemmas.Result.{err_from_is_err_and}
use Rattle.numbers.specs.declared.Reason.{Reason}
use Rattle.numbers.specs.declared.Refusal.{Refusal}
use Rattle.opening.specs.declared.Head.{Head}
use Rattle.sets.specs.declared.Set.{Set}
use Rattle.problem.specs.Reader.{started}
use Rattle.problem.specs.Told.{counts_of}
use Rattle.reader.specs.Tables.{reader_tables, sets_cleared}
use Rattle.reader.specs.Noting.{with}
use Rattle.reader.proofs.Opened.{good_head_lem, too_long, not_opened, well_opened}
use Rattle.reader.proofs.read.Goals as goal

-- What is handed on is what was opened, or its reason with a place.
module _ (P : Reason → Refusal → Type 0) where
  mapped_ok : (r : Result Head Reason) (m : Result Head Refusal) (h : Head) → MatchResult r (λ x. m ≡ Ok x) (λ e. IsErrAnd m (P e)) → m ≡ Ok h
      → r ≡ Ok h
  mapped_ok (Ok x) m h q e = cc
  mapped_ok (Err y) m h q e = absurd (rw e at q)

  mapped_err : (r : Result Head Reason) (m : Result Head Refusal) (f : Refusal) → MatchResult r (λ x. m ≡ Ok x) (λ e. IsErrAnd m (P e)) → m ≡ Err f
      → (y : Reason) × (r ≡ Err y) × P y f
  mapped_err (Ok x) m f q e = absurd (cc)
  mapped_err (Err y) m f q e = (y, refl, rw e at q)

no_fields : (h : Head) (p : Set ℕ) → p.0 ≡ 0
    → record {
      atoms = h.atoms;
      variables = h.variables;
      limit = h.limit;
      nodes = 0;
      equations = 0;
      freshness = 0;
      protected = p;
    } ≡ counts_of (started h.atoms h.variables h.limit)
unfolding counts_of started
no_fields h p e = ap (λ x. with (counts_of (started h.atoms h.variables h.limit)) 0 0 0 x) e

pub returns-then-s-gt-MOST_BYTES : goal.returns-then-s-gt-MOST_BYTES
returns-then-s-gt-MOST_BYTES c = rw c.refuse.ensures (too_long c.args.s.now _ (λ i. (c.type_inv.s i).fits) (omega arith))

pub returns-in_err-head : goal.returns-in_err-head
returns-in_err-head c =
    let p = err_from_is_err_and c.from_residual.result c.from_residual.ensures.1 in
    let q = mapped_err _ _ _ _ c.map_err.ensures.cases c.in_err-head.was in
    let e : c.in_err-head.field-0.0 ≡ record { reason = q.0; place = 0 } = search rules in
    rw (p.1, p.2, e) (not_opened c.args.s.now _ (λ i. (c.type_inv.s i).fits) c.if-s-gt-MOST_BYTES.false (sym c.opened.ensures ∙ q.1))

pub clear-requires : goal.clear-requires
clear-requires c =
    let head = good_head_lem c.args.s.now c.in_ok-head.head (sym c.opened.ensures ∙ mapped_ok _ _ _ _ c.map_err.ensures.cases c.in_ok-head.was) in
    omega (arith, head.few_variables)

pub fields-requires : goal.fields-requires
fields-requires c =
    let head = good_head_lem c.args.s.now c.in_ok-head.head (sym c.opened.ensures ∙ mapped_ok _ _ _ _ c.map_err.ensures.cases c.in_ok-head.was) in
    record {
      nothing = no_fields c.in_ok-head.head c.empty.result c.empty.ensures;
      readable = head.start_readable (λ i. (c.type_inv.s i).fits);
      nine = head.nine;
      short = c.if-s-gt-MOST_BYTES.false;
    }

pub returns : goal.returns
unfolding sets_cleared
returns c =
    let before = reader_tables c.args.places.now c.args.assumed.now c.args.node_variables.now in
    let opened = sym c.opened.ensures ∙ mapped_ok _ _ _ _ c.map_err.ensures.cases c.in_ok-head.was in
    well_opened c.args.s.now before (λ i. (c.type_inv.s i).fits) c.if-s-gt-MOST_BYTES.false _ _ c.fields.result opened
    (rw c.clear.ensures at c.fields.ensures)
