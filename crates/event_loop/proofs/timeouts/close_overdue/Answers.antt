use Rattle.std.proofs.Common.{◌∙◌, ap, le_refl, refl, subst, sym}
use Rattle.event_loop.specs.inner.Connections.{IsFresh}
use Rattle.event_loop.specs.inner.Registrations.{registered_in}
use Rattle.event_loop.proofs.AccountLemmas.{refuses_closed, refuses_none, spends_none}
use Rattle.event_loop.proofs.RegistrationLemmas.{nobody_waits, not_both}
use Rattle.event_loop.proofs.timeouts.close_overdue.Goals as goal

pub returns-then-not-is_overdue : goal.returns-then-not-is_overdue
returns-then-not-is_overdue g c = record {
  formula = refl;
  verdict = refl;
  spends = spends_none _ _ _;
  refusals = refuses_none _ _ _ _ _ (le_refl _);
  fresh = λ fresh. fresh;
  ended = λ late. absurd (not_both _ late (sym c.is_overdue.ensures ∙ c.if-not-is_overdue.true));
  stays = λ timely. (refl, refl, refl);
  owner = λ worker is. is;
}

pub returns-in-Some : goal.returns-in-Some
returns-in-Some g c =
    let gone = c.close.ensures.closed in record {
      formula = c.close.ensures.formula;
      verdict = c.close.ensures.verdict;
      spends = c.close.ensures.spends;
      refusals = refuses_closed g.A.Arrivals _ _ _ _ _ c.close.ensures.refusals gone;
      fresh = λ fresh. subst IsFresh (sym gone) tt;
      ended = λ late. (gone, c.close.ensures.lost);
      stays = λ timely. absurd (not_both _ (sym c.is_overdue.ensures ∙ c.if-not-is_overdue.false) timely);
      owner = λ worker is. absurd (nobody_waits _ worker (ap registered_in gone) is);
    }

pub returns-in-None : goal.returns-in-None
returns-in-None g c =
    let gone = c.close.ensures.closed in record {
      formula = c.close.ensures.formula;
      verdict = c.close.ensures.verdict;
      spends = c.close.ensures.spends;
      refusals = refuses_closed g.A.Arrivals _ _ _ _ _ c.close.ensures.refusals gone;
      fresh = λ fresh. subst IsFresh (sym gone) tt;
      ended = λ late. (gone, c.close.ensures.lost);
      stays = λ timely. absurd (not_both _ (sym c.is_overdue.ensures ∙ c.if-not-is_overdue.false) timely);
      owner = λ worker is. absurd (nobody_waits _ worker (ap registered_in gone) is);
    }
