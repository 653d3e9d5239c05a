use Rattle.std.proofs.Common.{List, ℕ, ◌++◌, refl, sym, subst}
use Rattle.sessions.specs.Follows.{Follows}
use Rattle.sessions.proofs.FeedLemmas.{taken_all, taken_front}
use Rattle.sessions.proofs.proof_side.ProofSide.feed.Goals as goal

pub returns-in-Some-clause-follows : goal.returns-in-Some-clause-follows
returns-in-Some-clause-follows c = λ L E p f.
    subst (λ (b : List ℕ). Follows L E (p ++ b) c.end_with.new.self) (sym (taken_front c.args.piece.now c.in-Some.text.now c.in-Some.field-0-1.now _ c.in-Some.ensures refl))
    (c.end_with.ensures.follows L E p c.requires c.in-Some.ensures.1 f)

pub returns-in-None-clause-follows : goal.returns-in-None-clause-follows
returns-in-None-clause-follows c = λ L E p f.
    subst (λ (b : List ℕ). Follows L E (p ++ b) c.begin_with.new.self) (sym (taken_all c.args.piece.now _ refl)) (c.begin_with.ensures.follows L E p c.requires c.in-None.ensures f)
