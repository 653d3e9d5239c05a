use Rattle.std.proofs.Common.{ℕ, Bool, false, [], List, sym, subst, vec_len}
use Rattle.std.specs.Prelude.{Contains}
use Rattle.dimacs.specs.logic.Propagation.{negations}
use Rattle.proof_lift.specs.TrimmedLemma.{union}
use Rattle.proof_lift.specs.inner.Images.{images_of}
use Rattle.proof_lift.specs.inner.Reached.{ComesTo, EndsAs, IsReached}
use Rattle.proof_lift.specs.inner.Walks.{ImagesFit}
use Rattle.proof_lift.specs.declared.cube_propagation.Look.{Look}
use Rattle.proof_lift.specs.declared.cube_propagation.Reached.{Reached}
use Rattle.proof_lift.proofs.ReachedLemmas.{gives_none, reached_then, places_then, stands_fit}
use Rattle.proof_lift.proofs.cube_propagation.refuting_hints.Goals as goal
use Rattle.proof_lift.proofs.cube_propagation.refuting_hints.Goals.{then-numbers_fit+in_ok-visit_all+in_default, else-numbers_fit}

pub visit_all-requires-clause-fits : goal.visit_all-requires-clause-fits
visit_all-requires-clause-fits c = stands_fit c.args.places (vec_len c.in_ok-reached.reached.truth) (images_of c.args.images.now) c.in_ok-reached.ensures.places c.requires.fits

pub returns-in-Conflict : goal.returns-in-Conflict
returns-in-Conflict c =
    let T = images_of c.args.images.now in
    let A = negations (union c.args.cube.now []) in
    subst (λ (k : Look). ComesTo T A c.deref-then-numbers_fit.result.now c.in_ok-reached.reached c.visit_all.new.self k) c.in-Conflict.is (c.in_ok-visit_all.ensures.comes A (c.in_ok-reached.ensures.reached T))

pub propagate-requires-clause-fits : goal.propagate-requires-clause-fits
propagate-requires-clause-fits c =
    let T = images_of c.args.images.now in
    let fits = stands_fit c.args.places (vec_len c.in_ok-reached.reached.truth) T c.in_ok-reached.ensures.places c.requires.fits in
    elim c.if-numbers_fit.branch [
      | then-numbers_fit+in_ok-visit_all+in_default w ↦
          subst (λ (x : Reached). ImagesFit (vec_len x.truth) T) (sym w.reached-is)
          (subst (λ (n : ℕ). ImagesFit n T) (sym (places_then c.in_ok-reached.reached w.visit_all.new.self w.in_ok-visit_all.field-0 w.in_default.not-Conflict w.in_ok-visit_all.ensures.shifts)) fits)
      | else-numbers_fit w ↦ subst (λ (x : Reached). ImagesFit (vec_len x.truth) T) (sym w.reached-is) fits
    ]

pub returns-then-branch : goal.returns-then-branch
returns-then-branch c =
    let T = images_of c.args.images.now in
    let A = negations (union c.args.cube.now []) in
    let begun = c.in_ok-reached.ensures.reached T in
    let joined : IsReached T A c.if-numbers_fit.reached = elim c.if-numbers_fit.branch [
      | then-numbers_fit+in_ok-visit_all+in_default w ↦
          subst (λ (x : Reached). IsReached T A x) (sym w.reached-is)
          (reached_then T A w.deref-then-numbers_fit.result.now c.in_ok-reached.reached w.visit_all.new.self w.in_ok-visit_all.field-0 w.in_default.not-Conflict w.in_ok-visit_all.ensures.shifts (w.in_ok-visit_all.ensures.comes A begun) begun)
      | else-numbers_fit w ↦ subst (λ (x : Reached). IsReached T A x) (sym w.reached-is) begun
    ] in
    subst (λ (b : Bool). EndsAs T A c.deref-3.result.now c.propagate.new.self b) c.if-branch.true (c.in_ok-propagate.ensures A joined)

pub returns : goal.returns
returns c =
    let T = images_of c.args.images.now in
    let A = negations (union c.args.cube.now []) in
    let begun = c.in_ok-reached.ensures.reached T in
    let joined : IsReached T A c.if-numbers_fit.reached = elim c.if-numbers_fit.branch [
      | then-numbers_fit+in_ok-visit_all+in_default w ↦
          subst (λ (x : Reached). IsReached T A x) (sym w.reached-is)
          (reached_then T A w.deref-then-numbers_fit.result.now c.in_ok-reached.reached w.visit_all.new.self w.in_ok-visit_all.field-0 w.in_default.not-Conflict w.in_ok-visit_all.ensures.shifts (w.in_ok-visit_all.ensures.comes A begun) begun)
      | else-numbers_fit w ↦ subst (λ (x : Reached). IsReached T A x) (sym w.reached-is) begun
    ] in
    let e : EndsAs T A c.deref-3.result.now c.propagate.new.self false = subst (λ (b : Bool). EndsAs T A c.deref-3.result.now c.propagate.new.self b) c.if-branch.false (c.in_ok-propagate.ensures A joined) in
    gives_none T c.args.cube.now c.deref-3.result.now c.propagate.new.self
    (λ n i D at u. subst (λ (ns : List ℕ). Contains ns n) (sym c.deref-3.ensures.value) (c.in_ok-numbers.ensures.all n i D at u)) e.0 e.1
