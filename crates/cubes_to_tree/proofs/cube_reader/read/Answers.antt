use Rattle.std.proofs.Common.{◌∙◌, ap, arith, inr, length, sym}
use Rattle.std.proofs.lemmas.Result.{err_from_is_err_and}
use Rattle.dimacs.specs.inner.Words.{left_len, lines_left}
use Rattle.dimacs.proofs.RowLemmas.{left_shorter}
use Rattle.cubes_to_tree.proofs.LineLemmas.{ends_empty, ends_some, lines_end, lines_fail, lines_more}
use Rattle.cubes_to_tree.proofs.cube_reader.read.Goals as goal

pub returns-in_err-read_line : goal.returns-in_err-read_line
returns-in_err-read_line c =
    let p = err_from_is_err_and c.from_residual.result c.from_residual.ensures.1 in
    let i = c.loop-rest.invariant in
    rw (p.1, p.2) (lines_fail c.args.greatest c.loop-rest.lines (lines_left c.loop-rest.rest) (lines_left c.next_line.result.1) c.next_line.result.0.now i.cubes c.in_err-read_line.field-0.0 _
    (ap lines_left c.in-Some.is ∙ c.next_line.ensures.line) i.so_far (c.in_err-read_line.ensures i.cubes i.holds))

pub loop-rest-preserved : goal.loop-rest-preserved
loop-rest-preserved c =
    let i = c.loop-rest.invariant in
    let left = ap left_len c.in-Some.is in
    let less = left_shorter c.next_line.result.1 (length c.in-Some.more.now) c.next_line.ensures.shorter in
    let few = i.few in
    let z = c.in_ok-read_line.ensures i.cubes i.holds in
    record {
      few = omega (arith, left, less);
      cubes = z.0;
      holds = z.2;
      so_far = sym (lines_more c.args.greatest c.loop-rest.lines (lines_left c.loop-rest.rest) (lines_left c.next_line.result.1) c.next_line.result.0.now i.cubes z.0
          (ap lines_left c.in-Some.is ∙ c.next_line.ensures.line) z.1) ∙ i.so_far;
    }

pub returns-then-is_empty : goal.returns-then-is_empty
returns-then-is_empty c =
    let i = c.loop-rest.invariant in
    inr (sym i.so_far ∙ lines_end c.args.greatest c.loop-rest.lines (lines_left c.loop-rest.rest) i.cubes (ap lines_left c.in_default.is)
    ∙ ends_empty c.args.greatest c.loop-rest.lines i.cubes c.loop-rest.root i.holds (sym c.is_empty.ensures ∙ c.if-is_empty.true))

pub returns : goal.returns
returns c =
    let i = c.loop-rest.invariant in
    let cut = sym c.is_empty.ensures ∙ c.if-is_empty.false in (
      i.cubes,
      sym i.so_far ∙ lines_end c.args.greatest c.loop-rest.lines (lines_left c.loop-rest.rest) i.cubes (ap lines_left c.in_default.is)
          ∙ ends_some c.args.greatest c.loop-rest.lines i.cubes c.loop-rest.root i.holds cut,
      i.holds,
      cut,
    )
