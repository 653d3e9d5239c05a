use Rattle.std.proofs.Common.{map, ◌++◌, ◌∷◌, []}
use Rattle.std.specs.List.{flat_map}
use Rattle.std.proofs.lemmas.Result.{on_ok_weaker}
use Rattle.dimacs.specs.logic.Literal.{index_of}
use Rattle.lrat_binary.specs.Grammar.{clause_code, group_codes}
use Rattle.lrat_forms.proofs.CodeLemmas.{adds_append, adds_one}
use Rattle.lrat_forms.proofs.step_encoder.put_addition.Goals as goal

pub returns : goal.returns
returns c =
    let o0 = c.args.out.now.items in
    let o1 = c.put_code.new.out.items in
    let o2 = c.put_literals.new.out.items in
    let o3 = c.put_code-2.new.out.items in
    let o4 = c.put_reasons.new.out.items in
    let id = clause_code c.args.id in
    let lits = map index_of c.args.lits.now in
    let reasons = map clause_code c.args.hints.now ++ flat_map group_codes c.args.groups.now ++ 0 ∷ [] in
    on_ok_weaker c.put_reasons.result
    (λ last.
    adds_append o0 o1 o4 (id ∷ []) (lits ++ 0 ∷ reasons) (adds_one o0 o1 id c.in_ok-put_code.ensures)
    (adds_append o1 o2 o4 lits (0 ∷ reasons) c.in_ok-put_literals.ensures
    (adds_append o2 o3 o4 (0 ∷ []) reasons (adds_one o2 o3 0 c.in_ok-put_code-2.ensures) last)))
    c.put_reasons.ensures
