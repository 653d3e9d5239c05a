use Rattle.std.proofs.Common.{◌∙◌, ap, arith}
use Rattle.event_loop.specs.declared.connection.Connection.{Connection}
use Rattle.event_loop.specs.inner.Registrations.{registered_worker}
use Rattle.event_loop.proofs.AccountLemmas.{refuses_on, refuses_within, spends_on, spends_within}
use Rattle.event_loop.proofs.Polls.{delivered_on, none_left}
use Rattle.event_loop.proofs.receiver.handle_frames.Goals as goal

pub returns-in_default : goal.returns-in_default
returns-in_default g c =
    let none = c.in_default.ensures.0 in
    let same = c.in_default.ensures.1 in record {
      formula = c.loop.invariant.formula;
      spends = spends_within _ _ _ _ _ c.loop.invariant.spends (omega (arith, c.loop.auto.counter-end));
      refusals = refuses_within _ _ _ _ _ _ c.loop.invariant.refusals (omega arith);
      owner = ap registered_worker same ∙ c.loop.invariant.owner;
      reader = ap (λ (l : Connection). l.reader) same ∙ c.loop.invariant.reader;
      none_waits = ap (λ (l : Connection). l.waiting.items) same ∙ none;
      delivered = c.loop.invariant.delivered c.loop.coordinator (none_left _ _ _ none);
    }

pub returns-in-Err : goal.returns-in-Err
returns-in-Err g c =
    let out = c.in-Some.ensures.1 in record {
      formula = c.handle_frame.ensures.formula ∙ c.loop.invariant.formula;
      spends = spends_on _ _ _ _ _ _ _ c.loop.invariant.spends c.handle_frame.ensures.spends (omega (arith, c.loop-test.true));
      refusals = refuses_on _ _ _ _ _ _ _ _ c.loop.invariant.refusals c.in-Err.ensures.refusals (omega arith);
      owner = c.handle_frame.ensures.link.owner ∙ (ap registered_worker out ∙ c.loop.invariant.owner);
      reader = c.handle_frame.ensures.link.reader ∙ (ap (λ (l : Connection). l.reader) out ∙ c.loop.invariant.reader);
      none_waits = tt;
      delivered = tt;
    }

pub returns-then-has_next : goal.returns-then-has_next
returns-then-has_next g c =
    record {
      formula = c.loop.invariant.formula;
      spends = spends_within _ _ _ _ _ c.loop.invariant.spends (omega (arith, c.loop.auto.counter-end));
      refusals = refuses_within _ _ _ _ _ _ c.loop.invariant.refusals (omega arith);
      owner = c.loop.invariant.owner;
      reader = c.loop.invariant.reader;
      none_waits = tt;
      delivered = tt;
    }

pub returns : goal.returns
returns g c =
    record {
      formula = c.loop.invariant.formula;
      spends = spends_within _ _ _ _ _ c.loop.invariant.spends (omega (arith, c.loop.auto.counter-end));
      refusals = refuses_within _ _ _ _ _ _ c.loop.invariant.refusals (omega arith);
      owner = c.loop.invariant.owner;
      reader = c.loop.invariant.reader;
      none_waits = c.if-has_next.ensures;
      delivered = c.loop.invariant.delivered c.loop.coordinator (none_left _ _ _ c.if-has_next.ensures);
    }

pub loop-preserved : goal.loop-preserved
loop-preserved g c =
    let out = c.in-Some.ensures.1 in
    let asked = ap registered_worker out ∙ c.loop.invariant.owner in record {
      formula = c.handle_frame.ensures.formula ∙ c.loop.invariant.formula;
      spends = spends_on _ _ _ _ _ _ _ c.loop.invariant.spends c.handle_frame.ensures.spends (omega arith);
      refusals = refuses_on _ _ _ _ _ _ _ _ c.loop.invariant.refusals c.in_default-handle_frame.ensures.refusals (omega arith);
      owner = c.handle_frame.ensures.link.owner ∙ asked;
      reader = c.handle_frame.ensures.link.reader ∙ (ap (λ (l : Connection). l.reader) out ∙ c.loop.invariant.reader);
      delivered = λ new rest. c.loop.invariant.delivered new (delivered_on _ _ c.in-Some.frame c.loop.connection.waiting.items _ _ _ _ _ c.in-Some.ensures.0 c.handle_frame.ensures.link.waiting asked c.in_default-handle_frame.ensures.delivered rest);
    }
