use Rattle.std.proofs.Common.{◌≡◌, ℕ, ◌+◌, List, [], ◌∷◌, ◌++◌, ap, subst, ◌∙◌}
use Rattle.std.proofs.lemmas.Result.{err_from_is_err_and}
use Rattle.lrat_text.specs.WrittenLine.{line_of}
use Rattle.lrat_text.specs.declared.step.Step.TheVariants.{Add}
use Rattle.cube_split.specs.Definitions.{both_clause, part_clause}
use Rattle.proof_join.specs.inner.Steps.{Writes}
use Rattle.proof_join.proofs.AppendLemmas.{after_one, after_two, after_three, both_line, part_line}
use Rattle.proof_join.proofs.SubtreeLemmas.{writes_more}
use Rattle.proof_join.proofs.preamble.put_definition.Goals as goal

pub returns-in_err-put_line : goal.returns-in_err-put_line
returns-in_err-put_line c =
    let out : List ℕ = c.args.out.now in
    let one : List ℕ = line_of c.args.top (Add (c.args.top + 1) (both_clause c.args.variable c.args.pair) [] []) in
    let two : List ℕ = line_of c.args.top (Add (c.args.top + 2) (part_clause c.args.variable c.args.pair.first) [] ((c.args.top + 1, []) ∷ [])) in
    let three : List ℕ = line_of c.args.top (Add (c.args.top + 3) (part_clause c.args.variable c.args.pair.second) [] ((c.args.top + 1, []) ∷ [])) in
    let e1 : line_of (c.args.top + 1) (Add (c.args.top + 1) (c.positive-defined.result ∷ c.negate.result ∷ c.negate-2.result ∷ []) [] c.new-none.result) ≡ line_of c.args.top (Add (c.args.top + 1) (both_clause c.args.variable c.args.pair) [] []) = both_line c.args.top c.args.variable c.args.pair c.positive-defined.result c.negate.result c.negate-2.result c.new-none.result c.positive-defined.ensures c.negate.ensures c.negate-2.ensures c.new-none.ensures in
    let p = err_from_is_err_and c.from_residual-in_err-put_line.result c.from_residual-in_err-put_line.ensures.1 in
    rw (p.1, p.2) (writes_more (Unit {0}) (Unit {0}) c.in_err-put_line.field-0.0 c.put_line.new.out (out ++ line_of (c.args.top + 1) (Add (c.args.top + 1) (c.positive-defined.result ∷ c.negate.result ∷ c.negate-2.result ∷ []) [] c.new-none.result)) (two ++ (three ++ [])) (out ++ (one ++ (two ++ (three ++ []))))
    (ap (λ (l : List ℕ). (out ++ l) ++ (two ++ (three ++ []))) e1 ∙ after_one out one (two ++ (three ++ []))) c.in_err-put_line.ensures)

pub returns-in_err-put_line-2 : goal.returns-in_err-put_line-2
returns-in_err-put_line-2 c =
    let out : List ℕ = c.args.out.now in
    let one : List ℕ = line_of c.args.top (Add (c.args.top + 1) (both_clause c.args.variable c.args.pair) [] []) in
    let two : List ℕ = line_of c.args.top (Add (c.args.top + 2) (part_clause c.args.variable c.args.pair.first) [] ((c.args.top + 1, []) ∷ [])) in
    let three : List ℕ = line_of c.args.top (Add (c.args.top + 3) (part_clause c.args.variable c.args.pair.second) [] ((c.args.top + 1, []) ∷ [])) in
    let e1 : line_of (c.args.top + 1) (Add (c.args.top + 1) (c.positive-defined.result ∷ c.negate.result ∷ c.negate-2.result ∷ []) [] c.new-none.result) ≡ line_of c.args.top (Add (c.args.top + 1) (both_clause c.args.variable c.args.pair) [] []) = both_line c.args.top c.args.variable c.args.pair c.positive-defined.result c.negate.result c.negate-2.result c.new-none.result c.positive-defined.ensures c.negate.ensures c.negate-2.ensures c.new-none.ensures in
    let e2 : line_of (c.args.top + 2) (Add (c.args.top + 2) (c.negate-3.result ∷ c.args.pair.first ∷ []) [] c.push.new.self) ≡ line_of c.args.top (Add (c.args.top + 2) (part_clause c.args.variable c.args.pair.first) [] ((c.args.top + 1, []) ∷ [])) = part_line c.args.top (c.args.top + 2) c.args.variable c.args.top c.positive-defined.result c.negate-3.result c.args.pair.first c.push.new.self c.new-first_line.result c.negate-3.ensures c.positive-defined.ensures c.in_ok-push.ensures.ok c.new-first_line.ensures in
    let so_far : c.put_line.new.out ≡ out ++ one = c.in_ok-put_line.ensures.0 ∙ ap (λ (l : List ℕ). out ++ l) e1 in
    let p = err_from_is_err_and c.from_residual-in_err-put_line-2.result c.from_residual-in_err-put_line-2.ensures.1 in
    rw (p.1, p.2) (writes_more (Unit {0}) (Unit {0}) c.in_err-put_line-2.field-0.0 c.put_line-2.new.out (c.put_line.new.out ++ line_of (c.args.top + 2) (Add (c.args.top + 2) (c.negate-3.result ∷ c.args.pair.first ∷ []) [] c.push.new.self)) (three ++ []) (out ++ (one ++ (two ++ (three ++ []))))
    (ap (λ (o : List ℕ). (o ++ line_of (c.args.top + 2) (Add (c.args.top + 2) (c.negate-3.result ∷ c.args.pair.first ∷ []) [] c.push.new.self)) ++ (three ++ [])) so_far ∙ ap (λ (l : List ℕ). ((out ++ one) ++ l) ++ (three ++ [])) e2 ∙ after_two out one two (three ++ [])) c.in_err-put_line-2.ensures)

pub returns : goal.returns
returns c =
    let out : List ℕ = c.args.out.now in
    let one : List ℕ = line_of c.args.top (Add (c.args.top + 1) (both_clause c.args.variable c.args.pair) [] []) in
    let two : List ℕ = line_of c.args.top (Add (c.args.top + 2) (part_clause c.args.variable c.args.pair.first) [] ((c.args.top + 1, []) ∷ [])) in
    let three : List ℕ = line_of c.args.top (Add (c.args.top + 3) (part_clause c.args.variable c.args.pair.second) [] ((c.args.top + 1, []) ∷ [])) in
    let e1 : line_of (c.args.top + 1) (Add (c.args.top + 1) (c.positive-defined.result ∷ c.negate.result ∷ c.negate-2.result ∷ []) [] c.new-none.result) ≡ line_of c.args.top (Add (c.args.top + 1) (both_clause c.args.variable c.args.pair) [] []) = both_line c.args.top c.args.variable c.args.pair c.positive-defined.result c.negate.result c.negate-2.result c.new-none.result c.positive-defined.ensures c.negate.ensures c.negate-2.ensures c.new-none.ensures in
    let e2 : line_of (c.args.top + 2) (Add (c.args.top + 2) (c.negate-3.result ∷ c.args.pair.first ∷ []) [] c.push.new.self) ≡ line_of c.args.top (Add (c.args.top + 2) (part_clause c.args.variable c.args.pair.first) [] ((c.args.top + 1, []) ∷ [])) = part_line c.args.top (c.args.top + 2) c.args.variable c.args.top c.positive-defined.result c.negate-3.result c.args.pair.first c.push.new.self c.new-first_line.result c.negate-3.ensures c.positive-defined.ensures c.in_ok-push.ensures.ok c.new-first_line.ensures in
    let e3 : line_of (c.args.top + 3) (Add (c.args.top + 3) (c.negate-4.result ∷ c.args.pair.second ∷ []) [] c.push.new.self) ≡ line_of c.args.top (Add (c.args.top + 3) (part_clause c.args.variable c.args.pair.second) [] ((c.args.top + 1, []) ∷ [])) = part_line c.args.top (c.args.top + 3) c.args.variable c.args.top c.positive-defined.result c.negate-4.result c.args.pair.second c.push.new.self c.new-first_line.result c.negate-4.ensures c.positive-defined.ensures c.in_ok-push.ensures.ok c.new-first_line.ensures in
    let first : c.put_line.new.out ≡ out ++ one = c.in_ok-put_line.ensures.0 ∙ ap (λ (l : List ℕ). out ++ l) e1 in
    let second : c.put_line-2.new.out ≡ (out ++ one) ++ two = c.in_ok-put_line-2.ensures.0 ∙ ap (λ (o : List ℕ). o ++ line_of (c.args.top + 2) (Add (c.args.top + 2) (c.negate-3.result ∷ c.args.pair.first ∷ []) [] c.push.new.self)) first ∙ ap (λ (l : List ℕ). (out ++ one) ++ l) e2 in
    subst (Writes c.put_line-3.result c.put_line-3.new.out)
    (ap (λ (o : List ℕ). o ++ line_of (c.args.top + 3) (Add (c.args.top + 3) (c.negate-4.result ∷ c.args.pair.second ∷ []) [] c.push.new.self)) second ∙ ap (λ (l : List ℕ). ((out ++ one) ++ two) ++ l) e3 ∙ after_three out one two three) c.put_line-3.ensures
