use Rattle.std.proofs.Common.{◌≡◌, [], ◌∷◌, ◌++◌, nat_eq, slice_index_or, take, sym, ◌∙◌, ap, subst}
use Rattle.std.specs.List.{filter}
use Rattle.std.proofs.lemmas.List.{take_more}
use Rattle.dimacs.specs.logic.Literal.{Literal, index_of}
use Rattle.cube_solve.proofs.MarkLemmas.{filter_step}
use Rattle.cube_solve.proofs.marks.marked_of.Goals as goal

pub loop-literal-preserved : goal.loop-literal-preserved
loop-literal-preserved c =
    let m = c.args.marks.now in
    let xs = take c.loop-literal.literal-index c.args.literals.now in
    subst (λ ys. c.keep_if.new.literals.items ≡ filter (λ (k : Literal). nat_eq (slice_index_or m.stamps.items (index_of k) 0) m.stamp) ys)
    (sym (take_more c.args.literals.now c.loop-literal.literal-index c.literal-item.result c.loop-literal-test.true ∙ ap (λ (x : Literal). xs ++ x ∷ []) (sym c.literal-item.is)))
    (filter_step (λ (k : Literal). nat_eq (slice_index_or m.stamps.items (index_of k) 0) m.stamp) xs c.loop-literal.kept.items c.keep_if.new.literals.items _ c.loop-literal.invariant
    (λ t. c.in_ok-keep_if.ensures.yes (c.is_marked.ensures ∙ t)) (λ f. c.in_ok-keep_if.ensures.no (c.is_marked.ensures ∙ f)))
