use Rattle.std.proofs.Common.{◌∙◌, ap, arith, refl}
use Rattle.event_loop.specs.inner.Registrations.{registered_worker}
use Rattle.event_loop.proofs.AccountLemmas.{refuses_none, spends_none}
use Rattle.event_loop.proofs.Polls.{handled_by}
use Rattle.event_loop.proofs.dispatcher.handle_bytes.Goals as goal

pub returns-in-Err : goal.returns-in-Err
returns-in-Err g c = record {
  formula = refl;
  spends = spends_none _ _ _;
  refusals = refuses_none _ _ _ _ _ (omega arith);
  handled = tt;
  owner = ap registered_worker c.take.ensures.same;
}

pub returns : goal.returns
returns g c = record {
  formula = c.handle_frames.ensures.formula;
  spends = c.handle_frames.ensures.spends;
  refusals = c.handle_frames.ensures.refusals;
  handled = handled_by c.handle_frames.result c.args.bytes.now c.args.connection.now c.take.new.self c.handle_frames.new.connection c.args.dispatcher.now.coordinator c.handle_frames.new.coordinator
      c.in_default.ensures.taken c.handle_frames.ensures.reader (ap registered_worker c.take.ensures.same) c.handle_frames.ensures.none_waits c.handle_frames.ensures.delivered;
  owner = c.handle_frames.ensures.owner ∙ ap registered_worker c.take.ensures.same;
}
