use Rattle.std.specs.Prelude.{All}
use Rattle.std.proofs.Common.{sym, subst}
use Rattle.std.proofs.lemmas.List.Elements.{All-push}
use Rattle.lrat_text.specs.Grammar.{IsClauseNumber}
use Rattle.proof_trim.proofs.needs.Needs.numbers.Goals.{in-Some+in_ok-push, in_default}
use Rattle.proof_trim.proofs.needs.Needs.numbers.Goals as goal

pub loop-number-preserved : goal.loop-number-preserved
loop-number-preserved c = elim c.match-number.branch [
  | in-Some+in_ok-push w ↦
      subst (λ v. All IsClauseNumber v.items) (sym w.out-is) (subst (All IsClauseNumber) (sym w.in_ok-push.ensures.items)
      (All-push IsClauseNumber c.loop-number.out.items _ c.loop-number.invariant w.in-Some.ensures))
  | in_default w ↦ subst (λ v. All IsClauseNumber v.items) (sym w.out-is) c.loop-number.invariant
]
