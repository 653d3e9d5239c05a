use Rattle.std.proofs.Common.{ℕ, ◌<◌, ◌≡◌, ◌∙◌, List, Some, refl, sym, ap, subst, set, length, vec_len, arith}
use Rattle.lrat_check.specs.StepFaults.{Unit, status}
use Rattle.proof_lift.specs.HintWalk.{Kept}
use Rattle.proof_lift.specs.inner.Images.{image_in, images_of}
use Rattle.proof_lift.specs.inner.Reached.{unmarked}
use Rattle.proof_lift.specs.inner.Tables.{marked}
use Rattle.proof_lift.proofs.HintLemmas.{in_table}
use Rattle.proof_lift.proofs.ReachedLemmas.{unit_marks, unit_joins}
use Rattle.proof_lift.proofs.cube_propagation.Reached.visit.Goals as goal

pub index_mut-requires : goal.index_mut-requires
index_mut-requires c =
    let places = vec_len c.args.self.now.truth in
    subst (λ (i : ℕ). i < places) (sym c.index.ensures.value)
    (in_table (images_of c.args.images.now) c.args.number c.in-Kept.field-0 places places c.in-Kept.clause.now (marked c.deref.result.now 1) c.in-Unit.l c.requires.fits (sym (ap image_in c.in-Kept.is) ∙ c.get.ensures) c.in-Unit.ensures refl)

pub returns-in_ok-push-in-Unit-clause-shifts : goal.returns-in_ok-push-in-Unit-clause-shifts
returns-in_ok-push-in-Unit-clause-shifts c =
    let places = vec_len c.args.self.now.truth in
    let room : c.index.result < places = subst (λ (i : ℕ). i < places) (sym c.index.ensures.value)
    (in_table (images_of c.args.images.now) c.args.number c.in-Kept.field-0 places places c.in-Kept.clause.now (marked c.deref.result.now 1) c.in-Unit.l c.requires.fits (sym (ap image_in c.in-Kept.is) ∙ c.get.ensures) c.in-Unit.ensures refl) in (
      subst (λ (xs : List ℕ). unmarked (set xs c.index.result 1) < unmarked xs) c.deref.ensures.value
          (unit_marks c.deref.result.now c.in-Kept.clause.now c.in-Unit.l c.index.result (omega (arith, c.deref.ensures.len)) c.in-Unit.ensures c.index.ensures.value),
      refl,
    )

pub returns-in_ok-push-in-Unit-clause-comes : goal.returns-in_ok-push-in-Unit-clause-comes
returns-in_ok-push-in-Unit-clause-comes c = λ A r.
    let T = images_of c.args.images.now in
    let places = vec_len c.args.self.now.truth in
    let at : Some (Kept c.in-Kept.field-0 c.in-Kept.clause.now) ≡ T c.args.number = sym (ap image_in c.in-Kept.is) ∙ c.get.ensures in
    let room : c.index.result < places = subst (λ (i : ℕ). i < places) (sym c.index.ensures.value)
    (in_table T c.args.number c.in-Kept.field-0 places places c.in-Kept.clause.now (marked c.deref.result.now 1) c.in-Unit.l c.requires.fits at c.in-Unit.ensures refl) in
    let is : Unit c.in-Unit.l ≡ status (marked c.args.self.now.truth.items 1) c.in-Kept.clause.now
    = subst (λ (xs : List ℕ). Unit c.in-Unit.l ≡ status (marked xs 1) c.in-Kept.clause.now) c.deref.ensures.value c.in-Unit.ensures in
    let inside : c.index.result < length c.args.self.now.truth.items = subst (λ (xs : List ℕ). c.index.result < length xs) c.deref.ensures.value (omega (arith, c.deref.ensures.len)) in
    unit_joins T A c.args.self.now.truth.items c.args.self.now.hints.items c.push-in-Unit.new.self.items c.args.number c.in-Kept.field-0 c.in-Kept.clause.now c.in-Unit.l c.index.result r c.requires.number (sym at) is inside
    c.index.ensures.value c.in_ok-push-in-Unit.ensures.items
