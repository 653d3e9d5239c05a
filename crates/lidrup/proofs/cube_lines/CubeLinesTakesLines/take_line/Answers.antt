use Rattle.std.proofs.Common.{ap, ne_eqb}
use Rattle.lidrup.specs.declared.cube_lines.CubeLines.{CubeLines}
use Rattle.lidrup.proofs.ActingLemmas.{line_passes, line_takes}
use Rattle.lidrup.proofs.cube_lines.CubeLinesTakesLines.take_line.Goals as goal
use Rattle.lidrup.proofs.cube_lines.CubeLinesTakesLines.take_line.Goals.{then-self-eq0+in-Ok-take, else-self-eq0}

pub returns : goal.returns
returns c =
    let old = c.args.self.now in
    elim c.if-self-eq0.branch [
      | then-self-eq0+in-Ok-take w ↦ (tt, rw w.self-is (line_takes _ _ _ w.if-self-eq0.true w.in-Ok-take.ensures.took c.in-Ok.ensures.number))
      | else-self-eq0 w ↦
          (tt, line_passes _ _ _ (ne_eqb old.known.log.empty 0 w.if-self-eq0.false) (ap (λ (s : CubeLines). s.known) w.self-is) (ap (λ (s : CubeLines). s.out) w.self-is) c.in-Ok.ensures.number)
    ]
