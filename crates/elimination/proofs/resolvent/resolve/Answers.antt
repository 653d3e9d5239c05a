use Rattle.std.proofs.Common.{Bool, MatchBool, sym, ◌∙◌, ap, subst}
use Rattle.std.proofs.lemmas.Bool.{MatchBool-at_true}
use Rattle.std.proofs.lemmas.Result.{IfOk-weaker}
use Rattle.dimacs.specs.logic.Literal.{Literal, Clause, has}
use Rattle.elimination.specs.inner.Gathered.{IsGathered, IsRefused}
use Rattle.elimination.proofs.GatherLemmas.{resolved_or_none}
use Rattle.elimination.proofs.resolvent.resolve.Goals as goal

pub returns : goal.returns
returns c =
    let C = c.args.left.now in
    let D = c.args.right.now in
    let a = c.gather.new.out.items in
    let R = c.gather-2.new.out.items in
    let first = subst (λ (xs : Clause). IsGathered C c.args.on xs a) c.clear.ensures.items
    (MatchBool-at_true (IsGathered C c.args.on c.clear.new.self.items a) (IsRefused C c.args.on c.clear.new.self.items) c.if-not-branch.false c.in_ok-gather.ensures) in
    IfOk-weaker c.gather-2.result _ _
    (λ (b : Bool) h.
    resolved_or_none C D c.args.on a R b (sym c.has_literal.ensures ∙ c.if-not-has_literal.false)
    (ap (has D) (sym c.negate-negation.ensures) ∙ sym c.has_literal-else-not-has_literal.ensures ∙ c.if-not-has_literal-2.false) first
    (subst (λ (n : Literal). MatchBool b (IsGathered D n a R) (IsRefused D n a)) c.negate-negation.ensures h))
    c.gather-2.ensures
