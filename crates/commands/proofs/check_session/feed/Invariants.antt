use Rattle.std.proofs.Common.{◌≡◌, List, Option, ℕ}
use Rattle.dimacs.specs.logic.Limits.{Limits}
use Rattle.commands.specs.inner.Texts.{IsRead, left}
use Rattle.commands.proofs.check_session.feed.Given as goal

abbrev pub invariant-loop : goal.invariant-loop
invariant-loop g l =
    ((L : Limits) (e p : Option (List ℕ)) → IsRead L e p (left g.E.Read.remaining l.initial.events) (left g.P.Read.remaining l.initial.proof) l.initial.check
    → IsRead L e p (left g.E.Read.remaining l.events) (left g.P.Read.remaining l.proof) l.check)
    × (l.events.pieces.refusal ≡ l.initial.events.pieces.refusal)
    × (l.proof.pieces.refusal ≡ l.initial.proof.pieces.refusal)
