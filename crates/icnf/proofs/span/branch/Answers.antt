use Rattle.std.proofs.Common.{arith, rules, ◌≡◌, ◌+◌, ◌<◌, ◌++◌, ◌∷◌, [], ◌∙◌, ap, length, get_or, set, List}
use Rattle.std.specs.List.{insert}
use Rattle.icnf.specs.declared.span.Span.{Span}
use Rattle.icnf.specs.Spans.{cube_in, cubes_in}
use Rattle.icnf.proofs.SpanLemmas.{branched_cubes, branches_appended, leaf_short}
use Rattle.icnf.proofs.span.branch.Goals as goal

pub returns-clause-ok : goal.returns-clause-ok
returns-clause-ok c =
    let spans : c.insert.new.self.items ≡ insert (set c.args.spans.now.items c.args.i c.append_branch-left.result) (c.args.i + 1) c.append_branch-right.result = search rules in
    let is : c.index-leaf.result.now ≡ get_or c.args.spans.now.items c.args.i c.index-leaf.result.now = search rules in
    let left : c.append_branch-left.new.literals.items ≡ c.args.literals.now.items ++ (cube_in c.args.literals.now.items c.index-leaf.result.now ++ c.positive.result ∷ []) = search rules in
    let below : c.args.i < length c.args.spans.now.items = omega arith in
    let literals = branches_appended c.args.literals.now.items c.append_branch-left.new.literals.items c.append_branch-right.new.literals.items c.args.spans.now.items c.args.i c.args.var c.index-leaf.result.now c.positive.result c.negative.result c.requires.lie below is c.positive.ensures c.negative.ensures left c.append_branch-right.ensures.items in
    let short = leaf_short c.args.literals.now.items c.args.spans.now.items c.args.i c.index-leaf.result.now c.requires.lie below is c.requires.short in
    ap (λ (xs : List Span). cubes_in c.append_branch-right.new.literals.items xs) spans
    ∙ branched_cubes c.args.literals.now.items c.append_branch-right.new.literals.items c.args.spans.now.items c.args.i c.args.var c.index-leaf.result.now c.append_branch-left.result c.append_branch-right.result c.requires.lie below is literals short
    (omega arith) (omega arith) (omega arith) (omega arith)
