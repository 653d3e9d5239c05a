use Rattle.std.proofs.Common.{◌≡◌, List, ℕ, ◌++◌, subst, sym}
use Rattle.dimacs.specs.logic.Cnf.{Cnf}
use Rattle.lrat_trim.specs.TrimmedProof.{TrimProgress, HasTaken}
use Rattle.lrat_trim.proofs.FeedLemmas.{refused, fed}
use Rattle.lrat_trim.proofs.trimmer.Trimmer.feed.Goals as goal

pub returns-in_err-feed-clause-taken : goal.returns-in_err-feed-clause-taken
returns-in_err-feed-clause-taken c = λ F bytes h.
    let P : TrimProgress → Type 0 = λ t. HasTaken F t bytes in
    refused c.self.inside.formula c.self.inside.text c.args.piece.now c.self.inside.is_cut c.self.inside.checker c.feed.new.self c.in_err-feed.field-0.0 c.if-self.false c.in_err-feed.ensures.taken F bytes
    (subst P (sym c.self.view_is) h)

pub returns-in-Ok-clause-taken : goal.returns-in-Ok-clause-taken
returns-in-Ok-clause-taken c = λ F bytes h.
    let P : TrimProgress → Type 0 = λ t. HasTaken F t bytes in
    fed c.self.inside.formula c.self.inside.text c.extend.new.self c.args.piece.now c.self.inside.is_cut c.self.inside.checker c.feed.new.self c.if-self.false c.in-Ok.ensures.ok c.in_ok-feed.ensures.taken F bytes
    (subst P (sym c.self.view_is) h)
