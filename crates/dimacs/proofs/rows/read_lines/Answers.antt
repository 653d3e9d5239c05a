use Rattle.std.proofs.Common.{arith, ap, ◌∙◌, sym, length}
use Rattle.std.proofs.lemmas.Result.{err_from_is_err_and}
use Rattle.dimacs.specs.inner.Words.{lines_left, left_len}
use Rattle.dimacs.proofs.RowLemmas.{answers_same, left_shorter, lines_end, lines_fails, lines_more}
use Rattle.dimacs.proofs.rows.read_lines.Goals as goal

pub returns-in_err-read_line : goal.returns-in_err-read_line
returns-in_err-read_line g c =
    let p = err_from_is_err_and c.from_residual.result c.from_residual.ensures.1 in
    rw (p.1, p.2) (lines_fails g.R.Rows.format g.R.Rows.no_memory c.loop-rest.lines (lines_left c.loop-rest.rest) (lines_left c.next_line.result.1) c.next_line.result.0.now c.loop-rest.rows c.in_err-read_line.field-0.0 _ (ap lines_left c.in-Some.is ∙ c.next_line.ensures.line) c.loop-rest.invariant.1 c.in_err-read_line.ensures)

pub loop-rest-preserved : goal.loop-rest-preserved
loop-rest-preserved g c =
    let left = ap left_len c.in-Some.is in
    let less = left_shorter c.next_line.result.1 (length c.in-Some.text.now) c.next_line.ensures.shorter in (
      omega (arith, left, less),
      sym (lines_more g.R.Rows.format c.loop-rest.lines (lines_left c.loop-rest.rest) (lines_left c.next_line.result.1) c.next_line.result.0.now c.loop-rest.rows c.read_line.new.self (ap lines_left c.in-Some.is ∙ c.next_line.ensures.line) c.in_ok-read_line.ensures) ∙ c.loop-rest.invariant.1,
    )

pub returns : goal.returns
returns g c =
    answers_same g.R.Rows.no_memory _ _ _ (sym (lines_end g.R.Rows.format c.loop-rest.lines _ c.loop-rest.rows (ap lines_left c.in_default.is)) ∙ c.loop-rest.invariant.1) c.finish.ensures
