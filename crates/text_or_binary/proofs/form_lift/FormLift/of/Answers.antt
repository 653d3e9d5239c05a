use Rattle.std.proofs.Common.{◌≡◌, ◌∙◌, ℕ, [], Option, ap, subst}
use Rattle.leaves.specs.Leaf.{leaf_at}
use Rattle.leaves.specs.LeafLift as of_text
use Rattle.leaves.specs.declared.leaf_lift.Lift.{Lift}
use Rattle.lrat_forms.specs.Pieces.{HasGivenWithin}
use Rattle.lrat_text.specs.Log.{log_top}
use Rattle.text_or_binary.proofs.FormLemmas.{begins_none, begins_some}
use Rattle.text_or_binary.proofs.form_lift.FormLift.of.Goals as goal

pub returns-in-Some : goal.returns-in-Some
returns-in-Some c =
    let F = c.args.split.formula in
    let q = leaf_at c.args.split.tree c.args.leaf in
    let most : c.log_top-most.result ≡ log_top F = c.log_top-most.ensures.value ∙ ap log_top (c.as_base.ensures ∙ c.formula.ensures) in
    begins_some F q c.within.result c.in-Some.lift (subst (λ (l : Option Lift). of_text.BeginsCube F q l) c.in-Some.is c.in_ok-lift.ensures)
    (subst (λ (n : ℕ). HasGivenWithin n c.within.result [] []) most c.within.ensures)

pub returns-in-None : goal.returns-in-None
returns-in-None c =
    let F = c.args.split.formula in
    let q = leaf_at c.args.split.tree c.args.leaf in
    begins_none F q (subst (λ (l : Option Lift). of_text.BeginsCube F q l) c.in-None.is c.in_ok-lift.ensures)
