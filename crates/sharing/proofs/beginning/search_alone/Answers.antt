use Rattle.std.proofs.Common.{[]}
use Rattle.sharing.proofs.LeafLemmas.{tells_nothing}
use Rattle.sharing.proofs.WritingLemmas.{beginning_whole, empty_text, fresh_writing, turned}
use Rattle.sharing.proofs.beginning.search_alone.Goals as goal

pub returns-then-len-gt-MOST_CLAUSES-clause-log : goal.returns-then-len-gt-MOST_CLAUSES-clause-log
returns-then-len-gt-MOST_CLAUSES-clause-log g c = λ f. ([], f, beginning_whole c.args.cell.formula.now [] [] [] (empty_text c.args.cell.formula.now))

pub returns-in-Err-clause-log : goal.returns-in-Err-clause-log
returns-in-Err-clause-log g c = λ f. ([], f, beginning_whole c.args.cell.formula.now [] [] [] (empty_text c.args.cell.formula.now))

pub returns-in_err-hand_out-clause-log : goal.returns-in_err-hand_out-clause-log
returns-in_err-hand_out-clause-log g c = λ f.
    let F = c.args.cell.formula.now in
    let e = c.in-Ok.ensures in
    let t = turned [] c.in-Ok-turn.how c.in-Ok.worker c.turn.new.self c.in-Ok-turn.ensures.stands c.in-Ok-turn.ensures.names F [] [] (fresh_writing F [] c.in-Ok.worker e.names e.stands) in
    c.hand_out.ensures.some F [] (t.0, t.2) f

pub returns-clause-log : goal.returns-clause-log
returns-clause-log g c = λ f.
    let F = c.args.cell.formula.now in
    let e = c.in-Ok.ensures in
    let t = turned [] c.in-Ok-turn.how c.in-Ok.worker c.turn.new.self c.in-Ok-turn.ensures.stands c.in-Ok-turn.ensures.names F [] [] (fresh_writing F [] c.in-Ok.worker e.names e.stands) in
    c.hand_out.ensures.some F [] (t.0, t.2) f

pub returns-clause-ended : goal.returns-clause-ended
returns-clause-ended g c = λ f.
    let F = c.args.cell.formula.now in
    let e = c.in-Ok.ensures in
    let t = turned [] c.in-Ok-turn.how c.in-Ok.worker c.turn.new.self c.in-Ok-turn.ensures.stands c.in-Ok-turn.ensures.names F [] [] (fresh_writing F [] c.in-Ok.worker e.names e.stands) in
    let x = c.in_ok-hand_out.ensures.handed F t.0 [] t.2 f in (
      x.0,
      x.1,
      record {
        names = x.2.names;
        steps = t.0;
        text = x.2.is;
        tells = tells_nothing c.args.cell.tree.now t.0;
        fits = c.ended-end.ensures F [] [] t.0 t.1;
      },
    )
