use Rattle.std.proofs.Common.{◌≡◌, inl, inr, ◌∙◌, Some, None, [], sym, ap}
use Rattle.proof_lift.specs.TrimmedLemma.{used_before}
use Rattle.proof_lift.specs.HintWalk.{Gone, Kept, Passed}
use Rattle.proof_lift.specs.inner.Images.{image_in, images_of}
use Rattle.proof_lift.specs.inner.Tables.{marked}
use Rattle.proof_lift.specs.inner.Walks.{passed_in}
use Rattle.proof_lift.proofs.ChainLemmas.{stands_kept}
use Rattle.proof_lift.proofs.lemma_trim.keep_hint.Goals as goal

pub returns-in-Kept-clause-used : goal.returns-in-Kept-clause-used
returns-in-Kept-clause-used c =
    c.use_others.ensures.used c.in-Kept.number
    ∙ ap (λ p. used_before p (marked c.args.marks.now c.args.stamp)) (stands_kept (images_of c.args.images.now) c.args.link (Some (Kept c.in-Kept.number c.in-Kept.clause.now)) (sym (ap image_in c.in-Kept.is) ∙ c.get.ensures))

pub returns-in-Gone : goal.returns-in-Gone
returns-in-Gone c =
    let T = images_of c.args.images.now in
    let nothing : record { number = 0; clause = []; unit = c.args.link.unit } ≡ passed_in T c.args.link = elim c.in-Gone.is [
      | inl gone ↦ stands_kept T c.args.link (Some Gone) (sym (ap image_in gone) ∙ c.get.ensures)
      | inr none ↦ stands_kept T c.args.link None (sym (ap image_in none) ∙ c.get.ensures)
    ] in
    record {
      number = ap (λ (p : Passed). p.number) nothing;
      used = c.use_others-in-Gone.ensures.used 0 ∙ ap (λ (p : Passed). used_before p (marked c.args.marks.now c.args.stamp)) nothing;
      places = c.use_others-in-Gone.ensures.places;
      below = c.use_others-in-Gone.ensures.below;
    }
