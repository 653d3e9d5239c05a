use Rattle.std.proofs.Common.{arith, rules, ◌≡◌, ◌++◌, ◌∷◌, [], ◌∙◌, ap, List, length, length-append}
use Rattle.dimacs.specs.logic.Literal.{Literal}
use Rattle.icnf.specs.declared.span.Span.{Span}
use Rattle.icnf.specs.Spans.{cubes_in}
use Rattle.icnf.proofs.SpanLemmas.{cubes_push}
use Rattle.icnf.proofs.span.push_literals.Goals as goal

pub returns-clause-ok : goal.returns-clause-ok
returns-clause-ok c =
    let span : Span = record { from = c.len-from.result; to = c.len-to.result } in
    let items : c.push.new.self.items ≡ c.args.spans.now.items ++ span ∷ [] = search rules in
    let literals : c.extend_from_slice.new.self.items ≡ c.args.literals.now.items ++ c.args.cube.now = search rules in
    ap (λ (xs : List Span). cubes_in c.extend_from_slice.new.self.items xs) items
    ∙ cubes_push c.args.literals.now.items c.extend_from_slice.new.self.items c.args.cube.now c.args.spans.now.items span c.requires.lie literals (search rules) (omega (arith, ap (λ (xs : List Literal). length xs) literals, length-append c.args.literals.now.items c.args.cube.now))
