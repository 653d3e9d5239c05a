use Rattle.hmac.specs.Hmac.{hmac_of}
use Rattle.hmac.proofs.mac.Mac.finish.Goals as goal

pub returns : goal.returns
unfolding hmac_of
returns c key text held =
    let inner = c.finalize.ensures _ held.inner in
    let taken = c.update.ensures _ held.outer in
    rw (inner) at (c.finalize-2.ensures _ taken)
