use Rattle.std.specs.Prelude.{All}
use Rattle.std.proofs.Common.{sym, subst}
use Rattle.std.proofs.lemmas.List.Elements.{All-push}
use Rattle.lrat_text.specs.Grammar.{IsClauseNumber}
use Rattle.lrat_trim.proofs.rewriter.keep_numbers.Goals.{then-stays+in_ok-push, else-stays}
use Rattle.lrat_trim.proofs.rewriter.keep_numbers.Goals as goal

pub loop-id-preserved : goal.loop-id-preserved
loop-id-preserved c = elim c.if-stays.branch [
  | then-stays+in_ok-push w ↦
      subst (λ v. All IsClauseNumber v.items) (sym w.out-is) (subst (All IsClauseNumber) (sym w.in_ok-push.ensures.items)
      (All-push IsClauseNumber c.loop-id.out.items _ c.loop-id.invariant (c.requires c.loop-id.id-index 0 c.loop-id-test.true)))
  | else-stays w ↦ subst (λ v. All IsClauseNumber v.items) (sym w.out-is) c.loop-id.invariant
]
