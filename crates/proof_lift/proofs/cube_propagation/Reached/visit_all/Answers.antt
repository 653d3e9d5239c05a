use Rattle.std.proofs.Common.{ℕ, ◌+◌, ◌<◌, ◌≡◌, Bool, true, false, [], ◌∷◌, List, sym, subst, take, length, get_or, arith}
use Rattle.std.proofs.lemmas.List.{take_all}
use Rattle.proof_lift.specs.inner.Images.{images_of}
use Rattle.proof_lift.specs.inner.Reached.{ComesTo, Shifts, look_of}
use Rattle.proof_lift.specs.inner.Walks.{ImagesFit}
use Rattle.proof_lift.specs.declared.cube_propagation.Look.{Look}
use Rattle.proof_lift.proofs.ReachedLemmas.{reached_on, places_on, shifts_more, shifts_on, comes_on}
use Rattle.proof_lift.proofs.cube_propagation.Reached.visit_all.Goals as goal
use Rattle.proof_lift.proofs.cube_propagation.Reached.visit_all.Goals.{in-Moved, in-Still}

pub visit-requires-clause-fits : goal.visit-requires-clause-fits
visit-requires-clause-fits c =
    subst (λ (n : ℕ). ImagesFit n (images_of c.args.images.now)) (sym (places_on c.args.self.now c.loop-number.self c.loop-number.moved c.loop-number.invariant.shifts)) c.requires.fits

pub returns-in-Conflict-clause-comes : goal.returns-in-Conflict-clause-comes
returns-in-Conflict-clause-comes c = λ A r.
    let T = images_of c.args.images.now in
    let ns = c.args.numbers.now in
    let i = c.loop-number.number-index in
    let mid = c.loop-number.self in
    subst (λ (k : Look). ComesTo T A (get_or ns i 0 ∷ []) mid c.visit.new.self k) c.in-Conflict.is
    (c.in_ok-visit.ensures.comes A (reached_on T A (take i ns) c.args.self.now mid c.loop-number.moved c.loop-number.invariant.shifts (c.loop-number.invariant.so_far A r) r))

pub loop-number-preserved : goal.loop-number-preserved
loop-number-preserved c =
    let T = images_of c.args.images.now in
    let ns = c.args.numbers.now in
    let i = c.loop-number.number-index in
    let old = c.args.self.now in
    let mid = c.loop-number.self in
    let new = c.visit.new.self in
    let moved = c.loop-number.moved in
    let inv = c.loop-number.invariant in
    let inside : i < length ns = omega arith in
    elim c.match-branch-2.branch [
      | in-Moved w ↦ record {
        so_far = λ A r.
            subst (λ (b : Bool). ComesTo T A (take (i + 1) ns) old new (look_of b)) (sym w.moved-is)
            (subst (λ (k : Look). ComesTo T A (get_or ns i 0 ∷ []) mid new k) w.in-Moved.is (c.in_ok-visit.ensures.comes A (reached_on T A (take i ns) old mid moved inv.shifts (inv.so_far A r) r)));
        shifts = subst (λ (b : Bool). Shifts old new (look_of b)) (sym w.moved-is) (shifts_more old mid new moved inv.shifts (subst (λ (k : Look). Shifts mid new k) w.in-Moved.is c.in_ok-visit.ensures.shifts));
      }
      | in-Still w ↦
          let same : new ≡ mid = subst (λ (k : Look). Shifts mid new k) w.in-Still.is c.in_ok-visit.ensures.shifts in
          record {
            so_far = λ A r.
                subst (λ (b : Bool). ComesTo T A (take (i + 1) ns) old new (look_of b)) (sym w.moved-is)
                (comes_on T A ns i old mid new moved inside inv.shifts same (inv.so_far A r)
                (subst (λ (k : Look). ComesTo T A (get_or ns i 0 ∷ []) mid new k) w.in-Still.is (c.in_ok-visit.ensures.comes A (reached_on T A (take i ns) old mid moved inv.shifts (inv.so_far A r) r))));
            shifts = subst (λ (b : Bool). Shifts old new (look_of b)) (sym w.moved-is) (shifts_on old mid new moved inv.shifts same);
          }
    ]

pub returns-then-moved-clause-comes : goal.returns-then-moved-clause-comes
returns-then-moved-clause-comes c = λ A r.
    let T = images_of c.args.images.now in
    subst (λ (ns : List ℕ). ComesTo T A ns c.args.self.now c.loop-number.self (look_of true)) (take_all c.loop-number.number-index c.args.numbers.now c.loop-number-test.false)
    (subst (λ (b : Bool). ComesTo T A (take c.loop-number.number-index c.args.numbers.now) c.args.self.now c.loop-number.self (look_of b)) c.if-moved.true (c.loop-number.invariant.so_far A r))

pub returns-else-moved-clause-comes : goal.returns-else-moved-clause-comes
returns-else-moved-clause-comes c = λ A r.
    let T = images_of c.args.images.now in
    subst (λ (ns : List ℕ). ComesTo T A ns c.args.self.now c.loop-number.self (look_of false)) (take_all c.loop-number.number-index c.args.numbers.now c.loop-number-test.false)
    (subst (λ (b : Bool). ComesTo T A (take c.loop-number.number-index c.args.numbers.now) c.args.self.now c.loop-number.self (look_of b)) c.if-moved.false (c.loop-number.invariant.so_far A r))
