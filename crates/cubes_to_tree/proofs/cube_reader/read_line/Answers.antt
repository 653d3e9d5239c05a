use Rattle.std.proofs.Common.{true, false, Ok, ◌∙◌, ap, subst, sym}
use Rattle.std.proofs.lemmas.Result.{err_from_is_err_and}
use Rattle.dimacs.specs.text.Words.{words}
use Rattle.cubes_to_tree.specs.inner.Cubes.{IsCube}
use Rattle.cubes_to_tree.specs.inner.Nodes.{ReadLine}
use Rattle.cubes_to_tree.proofs.LineLemmas.{blank_line, cube_read, cube_refused, line_is}
use Rattle.cubes_to_tree.proofs.cube_reader.read_line.Goals as goal

pub returns-in_default : goal.returns-in_default
returns-in_default c = λ cubes h. (cubes, blank_line c.args.greatest c.args.line cubes (words c.args.text.now) c.in_default.ensures.word, h)

pub returns-then-not-is_mark : goal.returns-then-not-is_mark
returns-then-not-is_mark c = λ cubes h. (
  cubes,
  line_is c.args.greatest c.args.line cubes false (words c.args.text.now) (words c.in-Some.rest.now) c.in-Some.word.now c.in-Some.ensures.word (sym c.is_mark.ensures ∙ c.if-not-is_mark.true),
  h,
)

pub returns-in_err-cube : goal.returns-in_err-cube
returns-in_err-cube c = λ cubes h.
    let p = err_from_is_err_and c.from_residual.result c.from_residual.ensures.1 in
    rw (p.1, p.2) (cube_refused c.args.greatest c.args.line cubes (words c.in-Some.rest.now) c.in_err-cube.field-0.0 _
    (line_is c.args.greatest c.args.line cubes true (words c.args.text.now) (words c.in-Some.rest.now) c.in-Some.word.now c.in-Some.ensures.word (sym c.is_mark.ensures ∙ c.if-not-is_mark.false))
    c.in_err-cube.ensures)

pub returns : goal.returns
returns c = λ cubes h.
    let g = c.args.greatest in
    let n = c.args.line in
    let is = c.deref.ensures.value in
    subst (ReadLine g c.put_cube.new.root c.put_cube.result)
    (sym (line_is g n cubes true (words c.args.text.now) (words c.in-Some.rest.now) c.in-Some.word.now c.in-Some.ensures.word (sym c.is_mark.ensures ∙ c.if-not-is_mark.false)
    ∙ cube_read g n cubes (words c.in-Some.rest.now) c.deref.result.now (c.in_ok-cube.ensures.0 ∙ ap Ok (sym is))))
    (c.put_cube.ensures g cubes h (subst (IsCube g) (sym is) c.in_ok-cube.ensures.1))
