use Rattle.std.proofs.Common.{◌≡◌, ◌==◌, ◌∙◌, sym, ap, subst, get_or, List}
use Rattle.watches.specs.declared.trail.Assigned.{Assigned}
use Rattle.conflict_analysis.specs.inner.Seen.{met}
use Rattle.conflict_analysis.proofs.BlockLemmas.{default, unplaced, walk_past}
use Rattle.conflict_analysis.proofs.PassedEntryLemmas.{passed, passes_unmet, passes_present, passes_lower}
use Rattle.conflict_analysis.proofs.first_uip.TrailWalk.step_past.Goals as goal

pub returns-then-not-has_at-clause-walk : goal.returns-then-not-has_at-clause-walk
returns-then-not-has_at-clause-walk c =
    let unmarked = sym c.has_at.ensures ∙ c.if-not-has_at.true in
    walk_past c.args.trail.now c.args.self.now c.args.i c.requires.within (unplaced c.args.trail.now _ c.args.self.now c.args.i default c.requires.walk c.requires.within unmarked) c.requires.walk

pub returns-then-not-has_at-clause-here : goal.returns-then-not-has_at-clause-here
returns-then-not-has_at-clause-here c d =
    sym (unplaced c.args.trail.now _ c.args.self.now c.args.i d c.requires.walk c.requires.within (sym c.has_at.ensures ∙ c.if-not-has_at.true))

pub returns-then-not-has-clause-walk : goal.returns-then-not-has-clause-walk
returns-then-not-has-clause-walk c =
    let w = c.args.self.now in
    let es = c.args.trail.now.entries in
    let e = c.index-entries-i.result in
    let is = subst (λ (xs : List Assigned). e ≡ get_or xs c.args.i e) c.entries.ensures.entries c.index-entries-i.is in
    let unmet = ap (met w.seen) (sym c.var.ensures) ∙ sym c.has.ensures ∙ c.if-not-has.true in
    passed c.args.trail.now _ w c.args.i w.pending w.rest w.notes c.requires.walk (passes_unmet es c.args.i c.requires.within e is (met w.seen) w.pending w.rest (c.requires.walk).counted unmet)

pub returns-then-self-clause-walk : goal.returns-then-self-clause-walk
returns-then-self-clause-walk c =
    let w = c.args.self.now in
    let es = c.args.trail.now.entries in
    let e = c.index-entries-i.result in
    let is = subst (λ (xs : List Assigned). e ≡ get_or xs c.args.i e) c.entries.ensures.entries c.index-entries-i.is in
    let seen = ap (met w.seen) (sym c.var.ensures) ∙ sym c.has.ensures ∙ c.if-not-has.false in
    let level = ap (λ p. e.level == p) (sym (c.requires.walk).level) ∙ c.if-self.true in
    passed c.args.trail.now _ w c.args.i _ w.rest (e.level == w.present) c.requires.walk (passes_present es c.args.i c.requires.within e is (met w.seen) w.pending w.rest (c.requires.walk).counted seen level)

pub returns-else-self-clause-walk : goal.returns-else-self-clause-walk
returns-else-self-clause-walk c =
    let w = c.args.self.now in
    let es = c.args.trail.now.entries in
    let e = c.index-entries-i.result in
    let is = subst (λ (xs : List Assigned). e ≡ get_or xs c.args.i e) c.entries.ensures.entries c.index-entries-i.is in
    let seen = ap (met w.seen) (sym c.var.ensures) ∙ sym c.has.ensures ∙ c.if-not-has.false in
    let level = ap (λ p. e.level == p) (sym (c.requires.walk).level) ∙ c.if-self.false in
    passed c.args.trail.now _ w c.args.i w.pending _ (e.level == w.present) c.requires.walk (passes_lower es c.args.i c.requires.within e is (met w.seen) w.pending w.rest (c.requires.walk).counted seen level)
