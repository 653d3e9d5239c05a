use Rattle.std.proofs.Common.{sym, ◌∙◌, subst}
use Rattle.std.specs.List.{All}
use Rattle.dimacs.specs.logic.Literal.{Clause, IsWithin}
use Rattle.cube_solve.proofs.SessionLemmas.{picked, within_map}
use Rattle.cube_solve.proofs.session.Session.core_of.Goals as goal

pub without_repeats-requires-clause-within : goal.without_repeats-requires-clause-within
without_repeats-requires-clause-within g c =
    subst (λ (C : Clause). All (IsWithin c.args.self.now.search.state.trail.vars) C) (sym (c.deref.ensures.value ∙ c.in_ok-others.ensures)) (within_map c.args.self.now.search.state.trail.vars c.args.clause.now c.requires.within)

pub returns-clause-picked : goal.returns-clause-picked
returns-clause-picked g c =
    picked c.args.query.now c.args.clause.now c.deref.result.now c.in_ok-_kept._kept.items c.without_repeats.new.self.marks.stamps.items c.without_repeats.new.self.marks.stamp c.in_ok-core.core.items
    (c.deref.ensures.value ∙ c.in_ok-others.ensures) c.in_ok-_kept.ensures.marks c.in_ok-core.ensures

pub returns-clause-tells : goal.returns-clause-tells
returns-clause-tells g c = c.in_ok-_kept.ensures.tells
