use Rattle.std.proofs.Common.{ℕ, [], subst}
use Rattle.lrat_forms.specs.Pieces.{HasGivenWithin}
use Rattle.text_or_binary.proofs.form_join.FormJoin.of.Goals as goal

pub returns-clause-holds : goal.returns-clause-holds
returns-clause-holds c =
    let F = c.args.split.formula in
    let holds = c.in_ok-join.ensures.holds in
    record {
      text = [];
      given = subst (λ (n : ℕ). HasGivenWithin n c.within-form.result [] []) (c.most.ensures.value F c.args.split.tree [] [] [] holds) c.within-form.ensures;
      holds = holds;
    }
