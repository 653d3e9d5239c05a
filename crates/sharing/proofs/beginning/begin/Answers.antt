use Rattle.std.proofs.Common.{[]}
use Rattle.sharing.proofs.WritingLemmas.{beginning_whole, empty_text, fresh_writing}
use Rattle.sharing.proofs.beginning.begin.Goals as goal

pub returns-in-Err-clause-log : goal.returns-in-Err-clause-log
returns-in-Err-clause-log g c = λ f. ([], f, beginning_whole c.args.cell.formula.now [] [] [] (empty_text c.args.cell.formula.now))

pub returns-in_err-hand_out-clause-log : goal.returns-in_err-hand_out-clause-log
returns-in_err-hand_out-clause-log g c = λ f.
    let F = c.args.cell.formula.now in
    let e = c.in-Ok.ensures in
    c.hand_out.ensures.some F [] ((e.begun).lines, fresh_writing F (e.begun).lines c.in-Ok.worker e.names (e.begun).written) f

pub returns-clause-log : goal.returns-clause-log
returns-clause-log g c = λ f.
    let F = c.args.cell.formula.now in
    let e = c.in-Ok.ensures in
    c.hand_out.ensures.some F [] ((e.begun).lines, fresh_writing F (e.begun).lines c.in-Ok.worker e.names (e.begun).written) f

pub returns-clause-stands : goal.returns-clause-stands
returns-clause-stands g c = λ f.
    let F = c.args.cell.formula.now in
    let e = c.in-Ok.ensures in
    let lines = (e.begun).lines in
    let x = c.in_ok-hand_out.ensures.handed F lines [] (fresh_writing F lines c.in-Ok.worker e.names (e.begun).written) f in
    (x.0, x.1, lines, x.2)
