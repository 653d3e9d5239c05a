use Rattle.std.proofs.Common.{◌∙◌, subst, List}
use Rattle.std.specs.Option.{IfNone}
use Rattle.clause_arena.specs.declared.reference.Ref.{Ref}
use Rattle.watches.specs.Law.{IsFixpoint}
use Rattle.watches.specs.inner.ScanLaws.{here_pushed}
use Rattle.watches.proofs.ScanLemmas.{among}
use Rattle.watches.proofs.scan.ScanPropagator.propagate.Goals as goal

pub returns-clause-ready : goal.returns-clause-ready
returns-clause-ready c = here_pushed c.args.arena.now c.args.trail.now c.sweep_all.new.trail c.args.self.now c.requires c.sweep_all.ensures.trail.vars

pub returns-clause-quiet : goal.returns-clause-quiet
returns-clause-quiet c = subst (λ (xs : List Ref). IfNone c.sweep_all.result (IsFixpoint (among xs c.args.arena.now) c.sweep_all.new.trail.entries)) (c.deref.ensures.value ∙ c.self.view_is) c.sweep_all.ensures.quiet
