use Rattle.std.proofs.Common.{◌++◌, subst}
use Rattle.lrat_text.specs.Log.{Closes, Cube}
use Rattle.commands.proofs.WeaveLemmas.{kept_so}
use Rattle.commands.proofs.weave.weave_plan.Goals as goal

pub returns-in-Ok-kept : goal.returns-in-Ok-kept
returns-in-Ok-kept g c = λ are.
    let s = c.args.searched.now in
    let F = s.formula.now in
    let x = c.in-Ok-pour.ensures.poured F c.in-Ok.ensures.woven in
    kept_so g.D.Drafts.made F s.tree.now s.is_split c.args.part.now c.pour.new.part x.pours.handed c.args.told.notes.items _ x.pours.grew are
    (c.in-Ok-kept.ensures F x.pours.handed x.pours.woven (λ whole. subst (λ (q : Cube). Closes F q (x.pours.handed ++ c.pour.new.weaver.text.out.items)) (c.in-Ok.ensures.cube whole) x.closes))
