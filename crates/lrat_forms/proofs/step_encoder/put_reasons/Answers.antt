use Rattle.std.proofs.Common.{map, ◌++◌, ◌∷◌, []}
use Rattle.std.specs.List.{flat_map}
use Rattle.std.proofs.lemmas.Result.{on_ok_weaker}
use Rattle.lrat_binary.specs.Grammar.{clause_code, group_codes}
use Rattle.lrat_forms.proofs.CodeLemmas.{adds_append, adds_one}
use Rattle.lrat_forms.proofs.step_encoder.put_reasons.Goals as goal

pub returns : goal.returns
returns c =
    let old = c.args.out.now.items in
    let mid = c.put_groups.new.out.items in
    let new = c.put_code.new.out.items in
    let hints = map clause_code c.args.hints.now in
    let groups = flat_map group_codes c.args.groups.now in
    on_ok_weaker c.put_code.result
    (λ zero. adds_append old mid new (hints ++ groups) (0 ∷ []) (adds_append old c.put_numbers.new.out.items mid hints groups c.in_ok-put_numbers.ensures c.in_ok-put_groups.ensures) (adds_one mid new 0 zero))
    c.put_code.ensures
