use Rattle.std.proofs.Common.{◌≡◌, ◌≢◌, ℕ, ◌<◌, ◌+◌, List, length, set, arith, ◌∙◌, ap, sym, subst, not, eqb, Bool, refl, true, false}
use Rattle.std.proofs.lemmas.List.{take_all, length-set}
use Rattle.std.proofs.lemmas.Bool.{both_ways, eqb-true, eq-eqb, not-true}
use Rattle.dimacs.specs.logic.Literal.{index_of, negation}
use Rattle.dimacs.specs.logic.Literal.{Clause}
use Rattle.lrat_check.proofs.Places.{negation_below, index_of-injective}
use Rattle.proof_lift.specs.TrimmedLemma.{used_before}
use Rattle.proof_lift.specs.inner.Tables.{marked, AllBelow}
use Rattle.proof_lift.proofs.MarkLemmas.{below_set, used_begin, used_unit, used_other}
use Rattle.proof_lift.proofs.lemma_trim.use_others.Goals as goal
use Rattle.proof_lift.proofs.lemma_trim.use_others.Goals.{then-ne, else-ne}

pub loop-l-init : goal.loop-l-init
loop-l-init c =
    let now = ap (λ (j : ℕ). set c.args.marks.now j 0) c.index.ensures.value in
    record {
      used = used_begin c.args.marks.now (set c.args.marks.now c.index.result 0) c.args.stamp c.args.unit c.requires.positive c.requires.unit now;
      below = subst (λ (m : List ℕ). AllBelow (c.args.stamp + 1) m) (sym now) (below_set (c.args.stamp + 1) c.args.marks.now (index_of c.args.unit) 0 c.requires.unit (omega arith) c.requires.below);
    }

pub loop-l-preserved : goal.loop-l-preserved
loop-l-preserved c =
    let l = c.l-item.result in
    let marks = c.loop-l.marks in
    let stamp = c.args.stamp in
    let C = c.args.clause.now in
    let i = c.loop-l.l-index in
    elim c.if-ne.branch [
      | then-ne w ↦
          let apart : l ≢ c.args.unit = λ e. both_ways (eqb (index_of l) (index_of c.args.unit)) (not-true (eqb (index_of l) (index_of c.args.unit)) (sym c.ne.ensures ∙ w.if-ne.true)) (eq-eqb (index_of l) (index_of c.args.unit) (ap index_of e)) in
          let long : length marks ≡ length c.args.marks.now = c.loop-l.auto.marks ∙ length-set c.args.marks.now c.index.result 0 in
          let room : index_of (negation l) < length marks = negation_below C i l (length c.args.marks.now) (length marks) c.loop-l-test.true c.l-item.is c.requires.table long in
          let now : c.if-ne.marks ≡ set marks (index_of (negation l)) stamp = w.marks-is ∙ ap (λ (j : ℕ). set marks j stamp) (w.index-then-ne.ensures.value ∙ ap index_of w.negate.ensures) in
          record {
            used = ap (λ m. marked m stamp) now ∙ used_other marks stamp C i l c.args.unit (marked c.args.marks.now stamp) c.loop-l-test.true c.l-item.is apart room c.loop-l.invariant.used;
            below = subst (λ (m : List ℕ). AllBelow (stamp + 1) m) (sym now) (below_set (stamp + 1) marks (index_of (negation l)) stamp room (omega arith) c.loop-l.invariant.below);
          }
      | else-ne w ↦
          let same : l ≡ c.args.unit = index_of-injective l c.args.unit (eqb-true (index_of l) (index_of c.args.unit) (not_false (eqb (index_of l) (index_of c.args.unit)) (sym c.ne.ensures ∙ w.if-ne.false))) in
          record {
            used = ap (λ m. marked m stamp) w.marks-is ∙ used_unit marks stamp C i l c.args.unit (marked c.args.marks.now stamp) c.loop-l-test.true c.l-item.is same c.loop-l.invariant.used;
            below = subst (λ (m : List ℕ). AllBelow (stamp + 1) m) (sym w.marks-is) c.loop-l.invariant.below;
          }
    ]
  where
    not_false : (b : Bool) → not b ≡ false → b ≡ true
    not_false true e = refl
    not_false false e = absurd cc

pub returns-clause-used : goal.returns-clause-used
returns-clause-used c = λ n.
    c.loop-l.invariant.used
    ∙ ap (λ (D : Clause). used_before (record { number = 0; clause = D; unit = c.args.unit }) (marked c.args.marks.now c.args.stamp)) (take_all c.loop-l.l-index c.args.clause.now c.loop-l-test.false)
