use Rattle.std.proofs.Common.{ap, sym, subst, ◌∙◌, List, ◌++◌, ◌∷◌, []}
use Rattle.std.specs.List.{All}
use Rattle.std.proofs.lemmas.List.Elements.{All-push}
use Rattle.clause_arena.specs.declared.reference.Ref.{Ref}
use Rattle.watches.specs.inner.LiveClauses.{IsLiveWithin}
use Rattle.watches.proofs.scan.ScanPropagator.attach.Goals as goal

pub returns-in_err-push-clause-ready : goal.returns-in_err-push-clause-ready
returns-in_err-push-clause-ready c = subst (All (IsLiveWithin c.args._arena.now c.args._trail.now.vars)) (sym (c.in_err-push.ensures.items ∙ c.self.view_is)) c.requires.ready

pub returns-clause-ready : goal.returns-clause-ready
returns-clause-ready c =
    let l = c.requires.live in
    subst (All (IsLiveWithin c.args._arena.now c.args._trail.now.vars)) (sym (c.in_ok-push.ensures.items ∙ ap (λ (xs : List Ref). xs ++ c.args.at ∷ []) c.self.view_is))
    (All-push (IsLiveWithin c.args._arena.now c.args._trail.now.vars) c.args.self.now c.args.at c.requires.ready (l.0, l.1, c.requires.within l.0 l.1))
