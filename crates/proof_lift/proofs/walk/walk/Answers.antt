use Rattle.std.proofs.Common.{ℕ, ◌+◌, ◌∙◌, List, sym, ap, subst, length, drop, set, get_or, arith}
use Rattle.lrat_check.proofs.Places.{assumed_by-set}
use Rattle.dimacs.specs.logic.Literal.{index_of}
use Rattle.proof_lift.specs.HintWalk.{lift_walk, along}
use Rattle.proof_lift.specs.inner.Images.{image_in, images_of}
use Rattle.proof_lift.specs.inner.Tables.{marked, AllBelow}
use Rattle.proof_lift.specs.inner.Walks.{from_there, passed_by}
use Rattle.proof_lift.proofs.HintLemmas.{walk_gone, walk_passed, walk_joined, from_joined, in_table}
use Rattle.proof_lift.proofs.MarkLemmas.{below_set}
use Rattle.proof_lift.proofs.walk.walk.Goals as goal
use Rattle.proof_lift.proofs.walk.walk.Goals.{in-Gone, in-Kept+in-Satisfied, in-Kept+in-Unit+in_ok-push-in-Unit}

pub bounds-marks-index : goal.bounds-marks-index
bounds-marks-index c =
    rw c.index.ensures.value
    (in_table (images_of c.args.images.now) (get_or c.args.hints.now c.loop-hint.hint-index 0) c.in-Kept.number (length c.args.marks.now) (length c.loop-hint.marks) c.in-Kept.clause.now
    (marked c.loop-hint.marks c.args.stamp) c.in-Unit.l c.requires.fits (sym (ap image_in c.in-Kept.is) ∙ c.get.ensures) c.in-Unit.ensures c.loop-hint.auto.marks)

pub loop-hint-preserved : goal.loop-hint-preserved
loop-hint-preserved c =
    let T = images_of c.args.images.now in
    let hints = c.args.hints.now in
    let i = c.loop-hint.hint-index in
    let stamp = c.args.stamp in
    let A = marked c.loop-hint.marks stamp in
    let chain = c.loop-hint.chain.items in
    let front = passed_by T chain in
    elim c.match-get.branch [
      | in-Gone w ↦ record {
        walk_on =
            ap (λ v. from_there (passed_by T v.items) (lift_walk T (drop (i + 1) hints) (marked c.match-get.marks stamp))) w.chain-is
            ∙ ap (λ m. from_there front (lift_walk T (drop (i + 1) hints) (marked m stamp))) w.marks-is
            ∙ ap (from_there front) (sym (walk_gone T hints i A c.loop-hint-test.true (sym (ap image_in w.in-Gone.is) ∙ c.get.ensures)))
            ∙ c.loop-hint.invariant.walk_on;
        below = subst (λ (m : List ℕ). AllBelow (stamp + 1) m) (sym w.marks-is) c.loop-hint.invariant.below;
        places = c.match-get.auto.marks ∙ c.loop-hint.auto.marks;
      }
      | in-Kept+in-Satisfied w ↦ record {
        walk_on =
            ap (λ v. from_there (passed_by T v.items) (lift_walk T (drop (i + 1) hints) (marked c.match-get.marks stamp))) w.chain-is
            ∙ ap (λ m. from_there front (lift_walk T (drop (i + 1) hints) (marked m stamp))) w.marks-is
            ∙ ap (from_there front) (sym (walk_passed T hints i w.in-Kept.number w.in-Kept.clause.now A c.loop-hint-test.true (sym (ap image_in w.in-Kept.is) ∙ c.get.ensures) w.in-Satisfied.ensures))
            ∙ c.loop-hint.invariant.walk_on;
        below = subst (λ (m : List ℕ). AllBelow (stamp + 1) m) (sym w.marks-is) c.loop-hint.invariant.below;
        places = c.match-get.auto.marks ∙ c.loop-hint.auto.marks;
      }
      | in-Kept+in-Unit+in_ok-push-in-Unit w ↦
          let l = w.in-Unit.l in
          let hint = get_or hints i 0 in
          let is = sym (ap image_in w.in-Kept.is) ∙ c.get.ensures in
          let room = in_table T hint w.in-Kept.number (length c.args.marks.now) (length c.loop-hint.marks) w.in-Kept.clause.now A l c.requires.fits is w.in-Unit.ensures c.loop-hint.auto.marks in
          let now = w.marks-is ∙ ap (λ (j : ℕ). set c.loop-hint.marks j stamp) w.index.ensures.value in
          record {
            walk_on =
                ap (λ v. from_there (passed_by T v.items) (lift_walk T (drop (i + 1) hints) (marked c.match-get.marks stamp))) w.chain-is
                ∙ ap (λ ys. from_there (passed_by T ys) (lift_walk T (drop (i + 1) hints) (marked c.match-get.marks stamp))) w.in_ok-push-in-Unit.ensures.items
                ∙ from_joined T chain hint l w.in-Kept.number w.in-Kept.clause.now (lift_walk T (drop (i + 1) hints) (marked c.match-get.marks stamp)) is
                ∙ ap (λ m. from_there front (along (record { number = w.in-Kept.number; clause = w.in-Kept.clause.now; unit = l }) (lift_walk T (drop (i + 1) hints) (marked m stamp)))) now
                ∙ ap (λ B. from_there front (along (record { number = w.in-Kept.number; clause = w.in-Kept.clause.now; unit = l }) (lift_walk T (drop (i + 1) hints) B))) (assumed_by-set c.loop-hint.marks stamp stamp l room)
                ∙ ap (from_there front) (sym (walk_joined T hints i w.in-Kept.number w.in-Kept.clause.now A l c.loop-hint-test.true is w.in-Unit.ensures))
                ∙ c.loop-hint.invariant.walk_on;
            below = subst (λ (m : List ℕ). AllBelow (stamp + 1) m) (sym now) (below_set (stamp + 1) c.loop-hint.marks (index_of l) stamp room (omega arith) c.loop-hint.invariant.below);
            places = c.match-get.auto.marks ∙ c.loop-hint.auto.marks;
          }
    ]
