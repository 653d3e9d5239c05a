use Rattle.std.proofs.Common.{◌∙◌, sym, arith}
use Rattle.worker_core.proofs.DeliveryLemmas.{notes}
use Rattle.worker_core.proofs.worker.Worker.deliver_fetch.Goals as goal

pub returns : goal.returns
returns c =
    rw (← c.self.view_is) (notes _ c.args.attempt.now c.args.offset c.in-Found.name c.in-Found.answer c.in-Found.bytes c.in-Found.noted c.in-Found.is
    (sym c.number.ensures.value ∙ c.if-number.false ∙ c.number-2.ensures.value) c.if-attempt-self.false c.if-name-attempt.false c.if-name-attempt-2.false
    (omega (arith, c.if-offset-len.false, c.len.ensures)))
