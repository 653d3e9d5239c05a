use Rattle.std.proofs.Common.{◌++◌}
use Rattle.sharing.proofs.WritingLemmas.{extends_by, on_true_at, turned}
use Rattle.sharing.proofs.run.take_turn.Goals as goal

pub returns-in_err-hand_out-in-Ok-true-clause-log : goal.returns-in_err-hand_out-in-Ok-true-clause-log
returns-in_err-hand_out-in-Ok-true-clause-log g c = λ F log h f.
    let a = c.in-Ok-true.ensures.stands F h.0 log h.1 in
    let x = c.hand_out.ensures.some F log (a.0, a.2) (c.read.ensures log f) in
    (log ++ x.0, x.1, x.2)

pub returns-in-Ok-true-clause-log : goal.returns-in-Ok-true-clause-log
returns-in-Ok-true-clause-log g c = λ F log h f.
    let a = c.in-Ok-true.ensures.stands F h.0 log h.1 in
    let x = c.hand_out.ensures.some F log (a.0, a.2) (c.read.ensures log f) in
    (log ++ x.0, x.1, x.2)

pub returns-in-Ok-true-clause-ended : goal.returns-in-Ok-true-clause-ended
returns-in-Ok-true-clause-ended g c = λ F steps log h f.
    let i = on_true_at _ _ c.in-Ok-true.field-0-test c.in-Ok-true.ensures.closed F steps log h in
    let x = c.in_ok-hand_out-in-Ok-true.ensures.handed F i.0 log i.2 (c.read.ensures log f) in
    (log ++ x.0, x.1, record { longer = i.0; extends = i.1; stands = x.2; fits = i.3 })

pub returns-in_err-hand_out-clause-log : goal.returns-in_err-hand_out-clause-log
returns-in_err-hand_out-clause-log g c = λ F log h f.
    let a = c.in-Ok-false.ensures.stands F h.0 log h.1 in
    let t = turned c.args.query.now c.in-Ok.end c.take_over.new.worker c.turn.new.self c.in-Ok.ensures.stands c.in-Ok.ensures.names F a.0 log a.2 in
    let x = c.hand_out-2.ensures.some F log (a.0 ++ t.0, t.2) (c.read.ensures log f) in
    (log ++ x.0, x.1, x.2)

pub returns-clause-log : goal.returns-clause-log
returns-clause-log g c = λ F log h f.
    let a = c.in-Ok-false.ensures.stands F h.0 log h.1 in
    let t = turned c.args.query.now c.in-Ok.end c.take_over.new.worker c.turn.new.self c.in-Ok.ensures.stands c.in-Ok.ensures.names F a.0 log a.2 in
    let x = c.hand_out-2.ensures.some F log (a.0 ++ t.0, t.2) (c.read.ensures log f) in
    (log ++ x.0, x.1, x.2)

pub returns-clause-ended : goal.returns-clause-ended
returns-clause-ended g c = λ F steps log h f.
    let a = c.in-Ok-false.ensures.stands F steps log h in
    let t = turned c.args.query.now c.in-Ok.end c.take_over.new.worker c.turn.new.self c.in-Ok.ensures.stands c.in-Ok.ensures.names F a.0 log a.2 in
    let x = c.in_ok-hand_out.ensures.handed F (a.0 ++ t.0) log t.2 (c.read.ensures log f) in
    (log ++ x.0, x.1, record { longer = a.0 ++ t.0; extends = extends_by steps a.0 t.0 a.1; stands = x.2; fits = c.ended.ensures F c.args.query.now a.0 t.0 t.1 })
