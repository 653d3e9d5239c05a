use Rattle.std.proofs.Common.{◌++◌, sym, subst, ◌∙◌}
use Rattle.cell_worker.specs.WorkerLog.{HasWritten}
use Rattle.sharing.proofs.WritingLemmas.{beginning_whole, writes}
use Rattle.sharing.proofs.run.hand_out.Goals as goal

pub returns-clause-handed : goal.returns-clause-handed
returns-clause-handed g c = λ F steps log h f.
    let text = c.written.ensures.text F h.names steps log h.written in (
      c.written.result.now,
      c.offer.ensures.logged (log ++ c.written.result.now) (c.in_ok-log.ensures.logged log f),
      record {
        writing = writes F h.names steps (log ++ c.written.result.now) c.args.worker.now c.forget_offers.new.self (c.forget_offers.ensures.names ∙ c.forget.ensures.names) h.named
            (subst (λ x. HasWritten F h.names steps (log ++ x) c.forget_offers.new.self) (sym c.written.ensures.bytes) (c.forget_offers.ensures.stands F h.names steps (log ++ c.args.worker.now.log.items) (c.forget.ensures.stands F h.names steps log h.written)));
        names = h.names;
        is = text;
      },
    )

pub returns-clause-some : goal.returns-clause-some
returns-clause-some g c = λ F log h f.
    let text = c.written.ensures.text F h.1.names h.0 log h.1.written in
    (c.written.result.now, c.offer.ensures.logged (log ++ c.written.result.now) (c.in_ok-log.ensures.logged log f), beginning_whole F h.1.names h.0 (log ++ c.written.result.now) text)
