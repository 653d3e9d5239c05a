use Rattle.std.proofs.Common.{◌≡◌, ap, sym, subst, ◌∙◌, arith}
use Rattle.std.specs.List.{All}
use Rattle.std.specs.Vec.{with_items}
use Rattle.std.proofs.lemmas.List.{with_items_is}
use Rattle.watches.specs.ClauseNumbers.{numbers}
use Rattle.watches.specs.inner.LiveClauses.{IsLiveWithin}
use Rattle.watches.proofs.MovedRefsLemmas.{all_here_followed, numbers_followed}
use Rattle.watches.proofs.scan.ScanPropagator.moved.Goals as goal

after : (c : goal.After-self-1) → (with_items c.self.inside.clauses c.update_refs.new.clauses).items ≡ c.update_refs.new.clauses
after c = with_items_is c.self.inside.clauses c.update_refs.new.clauses (omega (arith, c.update_refs.ensures.long, c.deref_mut.ensures.len))

before : (c : goal.After-self-1) → c.deref_mut.result.now ≡ c.args.self.now
before c = c.deref_mut.ensures.value ∙ c.self.view_is

pub returns-clause-ready : goal.returns-clause-ready
returns-clause-ready c = λ m k t h r. subst (All (IsLiveWithin k t.vars)) (sym (after c))
    (all_here_followed m k c.args.moves.now t.vars c.deref_mut.result.now c.update_refs.new.clauses h c.update_refs.ensures (subst (All (IsLiveWithin m t.vars)) (sym (before c)) r))

pub returns-clause-attached : goal.returns-clause-attached
returns-clause-attached c = λ m k h. ap numbers (after c) ∙ numbers_followed c.args.moves.now c.deref_mut.result.now c.update_refs.new.clauses c.update_refs.ensures ∙ ap numbers (before c)
