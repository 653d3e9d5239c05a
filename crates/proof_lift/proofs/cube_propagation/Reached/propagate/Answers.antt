use Rattle.std.proofs.Common.{ℕ, ◌≡◌, ◌∙◌, sym, subst}
use Rattle.proof_lift.specs.inner.Images.{images_of}
use Rattle.proof_lift.specs.inner.Propagation.{AreSettled}
use Rattle.proof_lift.specs.inner.Reached.{ComesTo, IsReached, Shifts, true_in}
use Rattle.proof_lift.specs.inner.Walks.{ImagesFit}
use Rattle.proof_lift.specs.declared.cube_propagation.Look.{Look}
use Rattle.proof_lift.specs.declared.cube_propagation.Reached.{Reached}
use Rattle.proof_lift.proofs.cube_propagation.Reached.propagate.Goals as goal

pub visit_all-requires-clause-fits : goal.visit_all-requires-clause-fits
visit_all-requires-clause-fits c = subst (λ (n : ℕ). ImagesFit n (images_of c.args.images.now)) (sym c.loop.invariant.places) c.requires.fits

pub returns-in-Conflict : goal.returns-in-Conflict
returns-in-Conflict c = λ A r.
    subst (λ (k : Look). ComesTo (images_of c.args.images.now) A c.args.numbers.now c.loop.self c.visit_all.new.self k) c.in-Conflict.is (c.in_ok-visit_all.ensures.comes A (c.loop.invariant.reached A r))

pub returns-in-Still : goal.returns-in-Still
returns-in-Still c = λ A r.
    let T = images_of c.args.images.now in
    let ns = c.args.numbers.now in
    let same : c.visit_all.new.self ≡ c.loop.self = subst (λ (k : Look). Shifts c.loop.self c.visit_all.new.self k) c.in-Still.is c.in_ok-visit_all.ensures.shifts in
    let before = c.loop.invariant.reached A r in (
      subst (λ (x : Reached). IsReached T A x) (sym same) before,
      subst (λ (x : Reached). AreSettled T (true_in x) ns) (sym same)
          (subst (λ (k : Look). ComesTo T A ns c.loop.self c.visit_all.new.self k) c.in-Still.is (c.in_ok-visit_all.ensures.comes A before)),
    )

pub loop-preserved : goal.loop-preserved
loop-preserved c = record {
  reached = λ A r. subst (λ (k : Look). ComesTo (images_of c.args.images.now) A c.args.numbers.now c.loop.self c.visit_all.new.self k) c.in-Moved.is (c.in_ok-visit_all.ensures.comes A (c.loop.invariant.reached A r));
  places = (subst (λ (k : Look). Shifts c.loop.self c.visit_all.new.self k) c.in-Moved.is c.in_ok-visit_all.ensures.shifts).1 ∙ c.loop.invariant.places;
}
