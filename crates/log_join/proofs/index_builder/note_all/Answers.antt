use Rattle.std.proofs.Common.{◌≡◌, ◌+◌, ◌∙◌, ◌++◌, ◌∷◌, [], take, sym, ap, subst}
use Rattle.std.proofs.lemmas.List.{take_more, take_all}
use Rattle.dimacs.specs.logic.Literal.{Literal}
use Rattle.log_join.specs.Trees.{AreMet}
use Rattle.log_join.proofs.IndexLemmas.{met_more}
use Rattle.log_join.proofs.index_builder.note_all.Goals as goal

pub loop-l-preserved : goal.loop-l-preserved
loop-l-preserved c =
    let x : Literal = c.l-item.result in
    let i = c.loop-l.l-index in
    let longer : take (i + 1) c.args.cube.now ≡ take i c.args.cube.now ++ x ∷ [] =
    take_more c.args.cube.now i x c.loop-l-test.true ∙ ap (λ (l : Literal). take i c.args.cube.now ++ l ∷ []) (sym c.l-item.is) in
    record {
      met = subst (AreMet c.note.new.index c.args.place) (sym longer)
          (met_more c.note.new.index c.args.place (take i c.args.cube.now) x (λ l j low. c.in_ok-note.ensures.kept l c.args.place (c.loop-l.invariant.met l j low)) c.in_ok-note.ensures.here);
      kept = λ l p h. c.in_ok-note.ensures.kept l p (c.loop-l.invariant.kept l p h);
    }

pub returns-clause-met : goal.returns-clause-met
returns-clause-met c = subst (AreMet c.loop-l.index c.args.place) (take_all c.loop-l.l-index c.args.cube.now c.loop-l-test.false) c.loop-l.invariant.met
