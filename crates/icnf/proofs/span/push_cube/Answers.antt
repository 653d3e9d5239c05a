use Rattle.std.proofs.Common.{arith, rules, ◌≡◌, ◌++◌, ◌∷◌, [], ◌∙◌, ap, List, length}
use Rattle.std.proofs.lemmas.List.{length-map}
use Rattle.icnf.specs.declared.span.Span.{Span}
use Rattle.icnf.specs.Spans.{cubes_in}
use Rattle.icnf.specs.Walk.{literals_of}
use Rattle.icnf.proofs.SpanLemmas.{cubes_push}
use Rattle.icnf.proofs.span.push_cube.Goals as goal

pub returns-clause-ok : goal.returns-clause-ok
returns-clause-ok c =
    let span : Span = record { from = c.len-from.result; to = c.len-to.result } in
    let items : c.push.new.self.items ≡ c.args.spans.now.items ++ span ∷ [] = search rules in
    let literals : c.append_literals.new.literals.items ≡ c.args.literals.now.items ++ literals_of c.args.path.now = search rules in
    let size : length (literals_of c.args.path.now) ≡ length c.args.path.now = length-map c.args.path.now _ in
    ap (λ (xs : List Span). cubes_in c.append_literals.new.literals.items xs) items ∙ cubes_push c.args.literals.now.items c.append_literals.new.literals.items (literals_of c.args.path.now) c.args.spans.now.items span c.requires.lie literals (search rules) (omega arith)
