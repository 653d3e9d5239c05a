use Rattle.std.proofs.Common.{◌≡◌, ◌∙◌, ◌||◌, List, ap, map, sym, true}
use Rattle.std.specs.Global.{Vec}
use Rattle.std.specs.List.{filter}
use Rattle.std.proofs.lemmas.List.{take_all}
use Rattle.dimacs.specs.logic.Literal.{Literal, has, negation}
use Rattle.log_join.proofs.ResolveLemmas.{kept_one, left_one, none_of, one_of, other_of}
use Rattle.log_join.proofs.forks.resolve.Goals.{then-has_literal+in_ok-push, then-has_literal-via-then-has_literal, then-has_literal-via-else-has_literal+then-has_literal-2, else-has_literal+else-has_literal-2}
use Rattle.log_join.proofs.forks.resolve.Goals as goal

pub loop-l-preserved : goal.loop-l-preserved
loop-l-preserved c = elim c.if-has_literal.branch [
  | then-has_literal+in_ok-push w ↦
      let holds : (has c.args.left.now c.negate-negated.result || has c.args.right.now c.negate-negated.result) ≡ true = elim w.then-has_literal.branch [
        | then-has_literal-via-then-has_literal v ↦ one_of _ _ (sym c.has_literal.ensures ∙ v.if-has_literal.true)
        | then-has_literal-via-else-has_literal+then-has_literal-2 v ↦ other_of _ _ (sym v.has_literal-else-has_literal.ensures ∙ v.if-has_literal-2.true)
      ] in
      kept_one c.args.path.now c.args.left.now c.args.right.now c.loop-l.l-index c.l-item.result c.negate-negated.result c.loop-l.clause.items c.if-has_literal.clause.items
      c.loop-l-test.true c.l-item.is c.negate-negated.ensures c.loop-l.invariant (ap (λ (v : Vec Literal). v.items) w.clause-is ∙ w.in_ok-push.ensures.items) holds
  | else-has_literal+else-has_literal-2 w ↦
      left_one c.args.path.now c.args.left.now c.args.right.now c.loop-l.l-index c.l-item.result c.negate-negated.result c.loop-l.clause.items c.if-has_literal.clause.items
      c.loop-l-test.true c.l-item.is c.negate-negated.ensures c.loop-l.invariant (ap (λ (v : Vec Literal). v.items) w.clause-is)
      (none_of _ _ (sym c.has_literal.ensures ∙ w.if-has_literal.false) (sym w.has_literal-else-has_literal.ensures ∙ w.if-has_literal-2.false))
]

pub returns : goal.returns
returns c =
    c.loop-l.invariant ∙ ap (λ (path : List Literal). filter (λ k. has c.args.left.now k || has c.args.right.now k) (map negation path)) (take_all c.loop-l.l-index c.args.path.now c.loop-l-test.false)
