use Rattle.std.proofs.Common.{sym, subst}
use Rattle.log_join.specs.Trees.{AreCovered}
use Rattle.log_join.specs.declared.tree.Node.{Node}
use Rattle.log_join.proofs.IndexLemmas.{covered_more}
use Rattle.log_join.proofs.ResultLemmas.{ok_both}
use Rattle.log_join.proofs.index_builder.+cover_below.Goals as goal

pub returns-in_ok-cover_below-in-Fork-clause-covered : goal.returns-in_ok-cover_below-in-Fork-clause-covered
returns-in_ok-cover_below-in-Fork-clause-covered t c =
    let mid = c.cover_below.new.index in
    let new = c.cover_below-in-Fork.new.index in
    let first : AreCovered mid c.args.from c.in-Fork.left.value = subst (λ (n : Node). AreCovered mid c.args.from n) c.deref-in-Fork.ensures c.in_ok-cover_below-in-Fork.ensures.covered in
    ok_both c.cover_below-in-Fork.result _ _ _
    (λ second kept. subst (λ (n : Node). AreCovered new c.args.from n) (sym c.in-Fork.is)
    (covered_more mid new kept c.args.from c.in-Fork.left.value first, subst (λ (n : Node). AreCovered new c.in-Fork.middle n) c.deref-in-Fork-2.ensures second))
    c.cover_below-in-Fork.ensures.covered c.cover_below-in-Fork.ensures.kept
