-- How the counts of the links add up from call to call.
use Rattle.std.proofs.Common.{◌≡◌, ◌≢◌, ◌∙◌, ◌≤◌, ℕ, ◌+◌, Option, None, ap, arith, le_refl, refl}
use Rattle.links.specs.Counts.{one_more}
use Rattle.links.specs.declared.arrivals.Arrivals.{Ghosts}
use Rattle.event_loop.specs.Accounts.{one_if_open}
use Rattle.event_loop.specs.declared.connection.Connection.{Connection}
use Rattle.event_loop.specs.inner.Accounts.{Refuses, Spends}
use Rattle.event_loop.proofs.Runs.{at_least, one_at_most, rises_one}

-- no call was made
pub spends_none : {A : Type 0} (g : Ghosts A) (n : ℕ) (links : A) → Spends g n links links
spends_none g n links = record {
  most = at_least _ _;
  rises = le_refl _;
  arrivals = refl;
  over = refl;
  begun = λ place. refl;
}

-- a call that is not counted, as `hang_up` and `show`
pub spends_uncounted : {A : Type 0} (g : Ghosts A) (n : ℕ) (old new : A) → g.call_count new ≡ g.call_count old → g.arrival_count new ≡ g.arrival_count old
    → g.has_ended new ≡ g.has_ended old → ((place : ℕ) → g.link_count new place ≡ g.link_count old place) → Spends g n old new
spends_uncounted g n old new calls arrivals over begun = record {
  most = omega (arith, calls);
  rises = omega (arith, calls);
  arrivals = arrivals;
  over = over;
  begun = begun;
}

-- a call that is counted, as `send_to`
pub spends_one : {A : Type 0} (g : Ghosts A) (old new : A) → g.call_count new ≡ one_more (g.call_count old) → g.arrival_count new ≡ g.arrival_count old
    → g.has_ended new ≡ g.has_ended old → ((place : ℕ) → g.link_count new place ≡ g.link_count old place) → Spends g 1 old new
spends_one g old new calls arrivals over begun = record {
  most = one_at_most _ _ calls;
  rises = rises_one _ _ _ calls (le_refl _);
  arrivals = arrivals;
  over = over;
  begun = begun;
}

-- a number that is larger
pub spends_within : {A : Type 0} (g : Ghosts A) (n most : ℕ) (old new : A) → Spends g n old new → n ≤ most → Spends g most old new
spends_within g n most old new spends few = record {
  most = omega (arith, spends.most, few);
  rises = spends.rises;
  arrivals = spends.arrivals;
  over = spends.over;
  begun = spends.begun;
}

-- some calls after others
pub spends_on : {A : Type 0} (g : Ghosts A) (m n most : ℕ) (old mid new : A) → Spends g m old mid → Spends g n mid new → m + n ≤ most → Spends g most old new
spends_on g m n most old mid new first second few = record {
  most = omega (arith, first.most, second.most, few);
  rises = omega (arith, first.rises, second.rises);
  arrivals = second.arrivals ∙ first.arrivals;
  over = second.over ∙ first.over;
  begun = λ place. second.begun place ∙ first.begun place;
}

-- no call was refused
pub refuses_none : {A : Type 0} (g : Ghosts A) (place had left : ℕ) (links : A) → left ≤ had → Refuses g place had left links links
refuses_none g place had left links few = record {
  here = omega (arith, few);
  elsewhere = λ other differs. le_refl _;
}

-- a call that was refused
pub refuses_one : {A : Type 0} (g : Ghosts A) (place : ℕ) (old new : A) → g.refusal_count new place ≡ one_more (g.refusal_count old place)
    → ((p : ℕ) → p ≢ place → g.refusal_count new p ≡ g.refusal_count old p) → Refuses g place 1 0 old new
refuses_one g place old new refusal same = record {
  here = let few = one_at_most (g.refusal_count old place) (g.refusal_count new place) refusal in omega (arith, few);
  elsewhere = λ other differs. let x = same other differs in omega (arith, x);
}

-- more could be refused before
pub refuses_within : {A : Type 0} (g : Ghosts A) (place few had : ℕ) (old new : A) → Refuses g place few 0 old new → few ≤ had → Refuses g place had 0 old new
refuses_within g place few had old new refuses fewer = record {
  here = omega (arith, refuses.here, fewer);
  elsewhere = refuses.elsewhere;
}

-- some refusals after others
pub refuses_on : {A : Type 0} (g : Ghosts A) (place m n had : ℕ) (old mid new : A) → Refuses g place m 0 old mid → Refuses g place n 0 mid new → m + n ≤ had
    → Refuses g place had 0 old new
refuses_on g place m n had old mid new first second few = record {
  here = omega (arith, first.here, second.here, few);
  elsewhere = λ other differs.
      let x = first.elsewhere other differs in
      let y = second.elsewhere other differs in
      omega (arith, x, y);
}

-- the connection of a slot was closed
pub refuses_closed : {A : Type 0} (g : Ghosts A) (place : ℕ) (was now : Option Connection) (old new : A) → ((p : ℕ) → g.refusal_count new p ≡ g.refusal_count old p)
    → now ≡ None → Refuses g place (one_if_open was) (one_if_open now) old new
refuses_closed g place was now old new same closed = record {
  here =
      let gone = ap one_if_open closed in
      let x = same place in
      omega (arith, gone, x);
  elsewhere = λ other differs. let x = same other in omega (arith, x);
}
