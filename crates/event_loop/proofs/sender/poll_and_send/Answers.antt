use Rattle.std.proofs.Common.{◌≡◌, ◌∙◌, ℕ, Option, None, Some, ap, arith, refl, subst, sym}
use Rattle.std.specs.Prelude.{is_some}
use Rattle.coordinator_core.specs.Coordinator.{coordinator_poll}
use Rattle.frames.specs.declared.frame.Frame.TheVariants.{Rest}
use Rattle.event_loop.specs.declared.connection.Connection.{Connection}
use Rattle.event_loop.specs.inner.Deliveries.{PolledFor}
use Rattle.event_loop.specs.inner.Registrations.{idle_worker, registered_worker}
use Rattle.event_loop.proofs.AccountLemmas.{refuses_none, spends_none}
use Rattle.event_loop.proofs.Polls.{asked_on, has_nothing, nobody_is_idle}
use Rattle.event_loop.proofs.Runs.{on_ok_any}
use Rattle.event_loop.proofs.RegistrationLemmas.{nobody_idle, nobody_waits, same_worker, registered_as}
use Rattle.event_loop.proofs.sender.poll_and_send.Goals as goal

pub returns-in_default : goal.returns-in_default
returns-in_default g c =
    let nobody : registered_worker c.args.connection.now ≡ None = sym c.registered.ensures ∙ c.in_default.is in record {
      formula = refl;
      verdict = refl;
      spends = spends_none _ _ _;
      refusals = refuses_none _ _ _ _ _ (omega arith);
      link = record { owner = refl; waiting = refl; reader = refl };
      asked = subst (λ (k : Option ℕ). PolledFor k c.args.coordinator.now c.args.coordinator.now) (sym nobody) refl;
      pending = λ has_pending. refl;
      told = λ worker is_owner none tells. absurd (nobody_waits _ worker nobody is_owner);
      idle = λ worker is_idle_now. absurd (nobody_idle c.args.connection.now worker nobody is_idle_now);
    }

pub returns-in-Err : goal.returns-in-Err
returns-in-Err g c = record {
  formula = c.poll.ensures.formula;
  verdict = c.poll.ensures.verdict;
  spends = spends_none _ _ _;
  refusals = refuses_none _ _ _ _ _ (omega arith);
  link = record { owner = refl; waiting = refl; reader = refl };
  asked = tt;
  pending = λ has_pending. refl;
  told = tt;
  idle = tt;
}

pub returns-in-Ok-Some : goal.returns-in-Ok-Some
returns-in-Ok-Some g c =
    let is_owner : registered_worker c.args.connection.now ≡ Some c.in-Some.worker = sym c.registered.ensures ∙ c.in-Some.is in record {
      formula = c.poll.ensures.formula;
      verdict = c.poll.ensures.verdict;
      spends = c.send_unless_pending.ensures.spends;
      refusals = c.send_unless_pending.ensures.refusals;
      link = c.send_unless_pending.ensures.link (ap is_some is_owner);
      asked = asked_on c.send_unless_pending.result _ c.in-Some.worker c.args.coordinator.now c.poll.new.coordinator is_owner c.in-Ok-Some.ensures.after;
      pending = c.send_unless_pending.ensures.pending;
      told = on_ok_any c.send_unless_pending.result (λ worker owner none tells. c.send_unless_pending.ensures.told none);
      idle = nobody_is_idle c.send_unless_pending.result _ c.poll.new.coordinator c.send_unless_pending.ensures.idle;
    }

pub returns-in-Ok-None : goal.returns-in-Ok-None
returns-in-Ok-None g c =
    let is_owner : registered_worker c.args.connection.now ≡ Some c.in-Some.worker = sym c.registered.ensures ∙ c.in-Some.is in
    let is_named = registered_as c.args.connection.now c.in-Some.worker is_owner in
    let rest = rw c.in-Ok-None.field-0-is at c.in-Ok-None.ensures.frame in record {
      formula = c.poll.ensures.formula;
      verdict = c.poll.ensures.verdict;
      spends = spends_none _ _ _;
      refusals = refuses_none _ _ _ _ _ (omega arith);
      link = record {
        owner = ap registered_worker c.set_idle.ensures ∙ (is_named ∙ sym is_owner);
        waiting = ap (λ (l : Connection). l.waiting.items) c.set_idle.ensures;
        reader = ap (λ (l : Connection). l.reader) c.set_idle.ensures;
      };
      asked = subst (λ (k : Option ℕ). PolledFor k c.args.coordinator.now c.poll.new.coordinator) (sym is_owner) c.in-Ok-None.ensures.after;
      pending = λ has_pending. refl;
      told = λ worker owner none tells.
          let who : c.in-Some.worker ≡ worker = same_worker _ _ _ is_owner owner in
          absurd (tells (subst (λ (w : ℕ). (coordinator_poll c.args.coordinator.now w).frame ≡ Rest) who rest));
      idle = has_nothing c.args.coordinator.now c.poll.new.coordinator c.in-Some.worker _ rest c.in-Ok-None.ensures.after (ap idle_worker c.set_idle.ensures ∙ is_named);
    }
