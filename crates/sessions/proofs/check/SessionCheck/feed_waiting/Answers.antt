use Rattle.std.proofs.Common.{List, ℕ, ◌++◌, refl, sym, subst}
use Rattle.sessions.specs.Check.{HasTaken}
use Rattle.sessions.proofs.FeedLemmas.{taken_front}
use Rattle.sessions.proofs.check.SessionCheck.feed_waiting.Goals as goal

pub returns-in-Some-clause-taken : goal.returns-in-Some-clause-taken
returns-in-Some-clause-taken c = λ L e p h.
    subst (λ (b : List ℕ). HasTaken L (e ++ b) p c.end_with.new.self) (sym (taken_front c.args.piece.now c.in-Some.text.now c.in-Some.field-0-1.now _ c.in-Some.ensures refl))
    (c.end_with.ensures.taken L e p c.in-Some.ensures.1 h)
