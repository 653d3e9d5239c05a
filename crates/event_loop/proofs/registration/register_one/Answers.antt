use Rattle.event_loop.proofs.RegistrationLemmas.{settled_waits}
use Rattle.event_loop.proofs.registration.register_one.Goals as goal

pub returns-clause-waits : goal.returns-clause-waits
returns-clause-waits g c =
    settled_waits c.register-turn.result c.close_if_broken.result c.register-turn.new.connection c.close_if_broken.new.connection c.args.may_register c.register-turn.ensures.waits c.close_if_broken.ensures.closed c.close_if_broken.ensures.memory
    (λ still. (c.close_if_broken.ensures.same still).0)
