use Rattle.std.proofs.Common.{◌≡◌, ◌∙◌, None, Some, ap, arith, refl, sym}
use Rattle.std.proofs.lemmas.Result.{on_ok_weaker}
use Rattle.event_loop.specs.declared.connection.Connection.{Connection}
use Rattle.event_loop.specs.inner.Registrations.{queued_worker, registered_worker}
use Rattle.event_loop.proofs.AccountLemmas.{refuses_none, refuses_on, spends_none, spends_on, spends_within}
use Rattle.event_loop.proofs.Polls.{delivered_first}
use Rattle.event_loop.proofs.RegistrationLemmas.{is_named, nobody_waits, none_is_some, registered_not_queued}
use Rattle.event_loop.proofs.receiver.register.Goals as goal

pub returns-in_default : goal.returns-in_default
returns-in_default g c =
    let nobody : queued_worker c.args.connection.now ≡ None = sym c.queued.ensures ∙ c.in_default.is in record {
      formula = refl;
      none = λ none. (refl, refl, refl);
      spends = spends_none _ _ _;
      refusals = refuses_none _ _ _ _ _ (omega arith);
      owner = λ worker waits. absurd (nobody_waits _ worker nobody waits);
      waits = nobody;
      none_waits = λ some. absurd (none_is_some _ nobody some);
      delivered = λ worker waits. absurd (nobody_waits _ worker nobody waits);
    }

pub returns-in-Err : goal.returns-in-Err
returns-in-Err g c =
    let waits : queued_worker c.args.connection.now ≡ Some c.in-Some.worker = sym c.queued.ensures ∙ c.in-Some.is in record {
      formula = c.handle_frame.ensures.formula;
      none = λ none. absurd (nobody_waits _ c.in-Some.worker none waits);
      spends = spends_within _ _ _ _ _ c.handle_frame.ensures.spends (omega arith);
      refusals = c.in-Err.ensures.refusals;
      owner = λ worker is. c.handle_frame.ensures.link.owner ∙ (ap registered_worker c.set_idle.ensures ∙ is_named c.args.connection.now worker is);
      waits = tt;
      none_waits = tt;
      delivered = tt;
    }

pub returns : goal.returns
returns g c =
    let waits : queued_worker c.args.connection.now ≡ Some c.in-Some.worker = sym c.queued.ensures ∙ c.in-Some.is in
    let idle : registered_worker c.set_idle.new.self ≡ Some c.in-Some.worker = ap registered_worker c.set_idle.ensures ∙ is_named c.args.connection.now c.in-Some.worker waits in record {
      formula = c.handle_frames.ensures.formula ∙ c.handle_frame.ensures.formula;
      none = λ none. absurd (nobody_waits _ c.in-Some.worker none waits);
      spends = spends_on _ _ _ _ _ _ _ c.handle_frame.ensures.spends c.handle_frames.ensures.spends (omega arith);
      refusals = refuses_on _ _ _ _ _ _ _ _ c.in_default-handle_frame.ensures.refusals c.handle_frames.ensures.refusals (omega arith);
      owner = λ worker is. c.handle_frames.ensures.owner ∙ (c.handle_frame.ensures.link.owner ∙ (ap registered_worker c.set_idle.ensures ∙ is_named c.args.connection.now worker is));
      waits = on_ok_weaker c.handle_frames.result (λ none. registered_not_queued c.handle_frames.new.connection c.in-Some.worker (c.handle_frames.ensures.owner ∙ (c.handle_frame.ensures.link.owner ∙ idle))) c.handle_frames.ensures.none_waits;
      none_waits = on_ok_weaker c.handle_frames.result (λ none some. none) c.handle_frames.ensures.none_waits;
      delivered = delivered_first c.handle_frames.result _ _ _ c.in-Some.worker c.incarnation.result c.args.connection.now.incarnation _ _ _ _ _ waits idle c.handle_frame.ensures.link.owner
          (c.incarnation.ensures ∙ ap (λ (l : Connection). l.incarnation) c.set_idle.ensures) (c.handle_frame.ensures.link.waiting ∙ ap (λ (l : Connection). l.waiting.items) c.set_idle.ensures)
          c.in_default-handle_frame.ensures.delivered c.handle_frames.ensures.delivered;
    }
