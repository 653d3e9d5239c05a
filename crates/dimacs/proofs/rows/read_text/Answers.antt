use Rattle.std.proofs.Common.{arith, ap, inr, Err, ◌∙◌, sym, length}
use Rattle.std.proofs.lemmas.Bool.{MatchBool-at_true, MatchBool-at_false}
use Rattle.std.proofs.lemmas.Result.{err_from_is_err_and}
use Rattle.dimacs.specs.inner.Words.{lines_left, left_len}
use Rattle.dimacs.proofs.RowLemmas.{answers_same, left_shorter, text_blank, text_end, text_fails, text_header}
use Rattle.dimacs.proofs.rows.read_text.Goals as goal

pub returns-in_err-rows : goal.returns-in_err-rows
returns-in_err-rows g c =
    let p = err_from_is_err_and c.from_residual.result c.from_residual.ensures.1 in
    let row = MatchBool-at_false _ _ c.if-not-is_blank.true c.is_blank.ensures in
    rw (p.1, p.2) (text_fails g.R.Rows.format c.args.limits g.R.Rows.no_memory c.loop-rest.lines (lines_left c.loop-rest.rest) (lines_left c.next_line.result.1) c.next_line.result.0.now c.in_err-rows.field-0.0 _ (ap lines_left c.in-Some.is ∙ c.next_line.ensures.line) row c.loop-rest.invariant.1 c.in_err-rows.ensures)

pub returns-then-not-is_blank : goal.returns-then-not-is_blank
returns-then-not-is_blank g c =
    let row = MatchBool-at_false _ _ c.if-not-is_blank.true c.is_blank.ensures in
    let e = text_header g.R.Rows.format c.args.limits c.loop-rest.lines (lines_left c.loop-rest.rest) (lines_left c.next_line.result.1) c.next_line.result.0.now c.in_ok-rows.rows (ap lines_left c.in-Some.is ∙ c.next_line.ensures.line) row c.in_ok-rows.ensures in
    answers_same g.R.Rows.no_memory _ _ _ (sym e ∙ c.loop-rest.invariant.1) c.read_lines.ensures

pub loop-rest-preserved : goal.loop-rest-preserved
loop-rest-preserved g c =
    let left = ap left_len c.in-Some.is in
    let less = left_shorter c.next_line.result.1 (length c.in-Some.text.now) c.next_line.ensures.shorter in (
      omega (arith, left, less),
      sym (text_blank g.R.Rows.format c.args.limits c.loop-rest.lines (lines_left c.loop-rest.rest) (lines_left c.next_line.result.1) c.next_line.result.0.now (ap lines_left c.in-Some.is ∙ c.next_line.ensures.line) (MatchBool-at_true _ _ c.if-not-is_blank.false c.is_blank.ensures)) ∙ c.loop-rest.invariant.1,
    )

pub returns : goal.returns
returns g c = inr (sym c.loop-rest.invariant.1 ∙ text_end g.R.Rows.format c.args.limits c.loop-rest.lines _ (ap lines_left c.in_default.is) ∙ ap Err (sym c.no_header.ensures))
