use Rattle.std.proofs.Common.{◌≡◌, ℕ, List, not, eqb, sym, subst, ap, ◌∙◌, rules}
use Rattle.std.specs.List.{All}
use Rattle.std.proofs.lemmas.List.Elements.{All-filter}
use Rattle.std.proofs.lemmas.Fn.{filter_same}
use Rattle.clause_arena.specs.declared.reference.Ref.{Ref}
use Rattle.watches.specs.Law.{AreWithout}
use Rattle.watches.specs.ClauseNumbers.{numbers}
use Rattle.watches.specs.inner.LiveClauses.{IsLiveWithin}
use Rattle.watches.proofs.Without.{without, are_without}
use Rattle.watches.proofs.scan.ScanPropagator.detach.Goals as goal

left : (c : goal.After-retain) → c.retain.new.self.items ≡ without c.args.self.now c.args.at.number
left c = filter_same _ (λ (a : Ref). not (eqb a.number c.number-number.result)) _ (λ x b q r. search rules) _ _ c.retain.ensures.filtered
    ∙ ap (λ (n : ℕ). without c.self.inside.clauses.items n) c.number-number.ensures ∙ ap (λ (xs : List Ref). without xs c.args.at.number) c.self.view_is

pub returns-clause-ready : goal.returns-clause-ready
returns-clause-ready c = λ t h. subst (All (IsLiveWithin c.args._arena.now t.vars)) (sym (left c)) (All-filter (λ (a : Ref). not (eqb a.number c.args.at.number)) (IsLiveWithin c.args._arena.now t.vars) c.args.self.now h)

pub returns-clause-attached : goal.returns-clause-attached
returns-clause-attached c = subst (λ (xs : List Ref). AreWithout (numbers c.args.self.now) c.args.at.number (numbers xs)) (sym (left c)) (are_without c.args.self.now c.args.at.number)
