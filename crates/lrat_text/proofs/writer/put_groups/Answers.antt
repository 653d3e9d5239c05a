use Rattle.std.proofs.Common.{◌∙◌, ap, ◌++◌, ℕ, List, take, arith}
use Rattle.std.specs.List.{flat_map}
use Rattle.std.proofs.lemmas.List.{take_all}
use Rattle.dimacs.specs.logic.Rat.{Group}
use Rattle.lrat_text.specs.inner.LineParts.{group_text}
use Rattle.lrat_text.proofs.WrittenLineLemmas.{groups_more, begins_more}
use Rattle.lrat_text.proofs.writer.put_groups.Goals as goal

pub returns-clause-ok : goal.returns-clause-ok
returns-clause-ok c = c.loop-i.invariant ∙ ap (λ (gs : List Group). c.args.out.now.items ++ flat_map group_text gs) (take_all c.loop-i.i c.args.groups.now (omega (arith, c.len-i-end.ensures.value, c.loop-i-test.false)))

pub returns-clause-begins : goal.returns-clause-begins
returns-clause-begins c = (flat_map group_text (take c.loop-i.i c.args.groups.now), c.loop-i.invariant)

pub loop-i-preserved : goal.loop-i-preserved
loop-i-preserved c =
    c.in_ok-put_group.ensures.ok ∙ ap (λ (old : List ℕ). old ++ group_text (c.get-candidate.result.0, c.get-candidate.result.1.now)) c.loop-i.invariant ∙ groups_more c.args.out.now.items c.args.groups.now c.loop-i.i _ c.get-candidate.ensures

pub returns-in_err-put_group-clause-begins : goal.returns-in_err-put_group-clause-begins
returns-in_err-put_group-clause-begins c =
    begins_more c.args.out.now.items c.loop-i.out.items c.put_group.new.out.items (flat_map group_text (take c.loop-i.i c.args.groups.now), c.loop-i.invariant) c.put_group.ensures.begins
