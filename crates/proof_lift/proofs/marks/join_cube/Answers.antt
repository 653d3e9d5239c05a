use Rattle.std.proofs.Common.{◌≡◌, ℕ, ◌<◌, ◌+◌, ◌∙◌, List, [], ◌∷◌, ◌++◌, ap, sym, subst, set, true, false, length, arith, drop}
use Rattle.dimacs.specs.logic.Literal.{Literal, index_of, negation}
use Rattle.dimacs.specs.logic.Propagation.{negations}
use Rattle.proof_lift.specs.TrimmedLemma.{union}
use Rattle.proof_lift.specs.inner.Tables.{marked, AllBelow}
use Rattle.proof_lift.proofs.MarkLemmas.{below_set, union_in, union_out, joined_assumed, literal_below}
use Rattle.proof_lift.proofs.marks.join_cube.Goals as goal
use Rattle.proof_lift.proofs.marks.join_cube.Goals.{then-not-is_marked+in_ok-push, else-not-is_marked}

pub returns-in_err-push-clause-below : goal.returns-in_err-push-clause-below
returns-in_err-push-clause-below c = c.loop-x.invariant.below

pub loop-x-preserved : goal.loop-x-preserved
loop-x-preserved c =
    let cube = c.args.cube.now in
    let i = c.loop-x.x-index in
    let x = c.x-item.result in
    let marks = c.loop-x.marks in
    let C = c.loop-x.clause.items in
    let stamp = c.args.stamp in
    let room : index_of x < length marks = literal_below cube i x (length c.args.marks.now) (length marks) c.loop-x-test.true c.x-item.is c.requires.table c.loop-x.auto.marks in
    elim c.if-not-is_marked.branch [
      | then-not-is_marked+in_ok-push w ↦
          let free : marked marks stamp x ≡ false = sym c.is_marked.ensures ∙ w.if-not-is_marked.true in
          let clause : c.if-not-is_marked.clause.items ≡ C ++ negation x ∷ [] = ap (λ v. v.items) w.clause-is ∙ w.in_ok-push.ensures.items ∙ ap (λ (y : Literal). C ++ y ∷ []) w.negate.ensures in
          let now : c.if-not-is_marked.marks ≡ set marks (index_of x) stamp = w.marks-is ∙ ap (λ (j : ℕ). set marks j stamp) w.index.ensures.value in
          record {
            clause = ap (union (drop (i + 1) cube)) clause ∙ sym (union_out marks stamp cube i x C c.loop-x-test.true c.x-item.is c.loop-x.invariant.assumed free) ∙ c.loop-x.invariant.clause;
            assumed = ap (λ m. marked m stamp) now ∙ joined_assumed marks stamp C x room c.loop-x.invariant.assumed ∙ ap negations (sym clause);
            below = subst (λ (m : List ℕ). AllBelow (stamp + 1) m) (sym now) (below_set (stamp + 1) marks (index_of x) stamp room (omega arith) c.loop-x.invariant.below);
          }
      | else-not-is_marked w ↦
          let is_in : marked marks stamp x ≡ true = sym c.is_marked.ensures ∙ w.if-not-is_marked.false in
          record {
            clause = ap (λ v. union (drop (i + 1) cube) v.items) w.clause-is ∙ sym (union_in marks stamp cube i x C c.loop-x-test.true c.x-item.is c.loop-x.invariant.assumed is_in) ∙ c.loop-x.invariant.clause;
            assumed = ap (λ m. marked m stamp) w.marks-is ∙ c.loop-x.invariant.assumed ∙ ap (λ v. negations v.items) (sym w.clause-is);
            below = subst (λ (m : List ℕ). AllBelow (stamp + 1) m) (sym w.marks-is) c.loop-x.invariant.below;
          }
    ]
