use Rattle.std.proofs.Common.{◌≡◌, ◌∙◌, ℕ, List, length, All, false, sym, ap, subst}
use Rattle.std.proofs.lemmas.List.Elements.{All-drop}
use Rattle.lrat_text.specs.Grammar.{IsClauseNumber}
use Rattle.log_join.proofs.DeletionLemmas.{line_more}
use Rattle.std.specs.Prelude.{nat_eq}
use Rattle.std.proofs.lemmas.Bool.{true≢false}
use Rattle.log_join.proofs.log_end.deletion_lines.Goals as goal

empty_not : (xs : List ℕ) → nat_eq (length xs) 0 ≡ false → length xs ≡ 0 → ⊥
empty_not xs e z = true≢false (sym (ap (λ (n : ℕ). nat_eq n 0) z) ∙ e)

pub loop-rest-preserved : goal.loop-rest-preserved
loop-rest-preserved c = record {
  numbers = subst (All IsClauseNumber) (sym c.split_at.ensures.back) (All-drop IsClauseNumber c.min.result c.loop-rest.rest.now c.loop-rest.invariant.numbers);
  text = line_more c.args.top c.min.result c.args.ids.now c.loop-rest.rest.now c.split_at.result.0.now c.split_at.result.1.now c.loop-rest.text.items c.put_ref.new.out.items
      (λ z. let t = c.loop-rest-test.true in let e = c.is_empty.ensures in empty_not c.loop-rest.rest.now (sym e ∙ t) z) (c.min.ensures) c.split_at.ensures.front c.split_at.ensures.back c.loop-rest.invariant.text c.in_ok-put_ref.ensures.ok;
}
