use Rattle.std.proofs.Common.{map, ◌∷◌, []}
use Rattle.std.proofs.lemmas.Result.{on_ok_weaker}
use Rattle.lrat_binary.specs.Grammar.{clause_code}
use Rattle.lrat_forms.proofs.CodeLemmas.{adds_append, adds_one}
use Rattle.lrat_forms.proofs.step_encoder.put_deletion.Goals as goal

pub returns : goal.returns
returns c =
    let mid = c.put_numbers.new.out.items in
    let new = c.put_code.new.out.items in
    on_ok_weaker c.put_code.result
    (λ zero. adds_append c.args.out.now.items mid new (map clause_code c.args.ids.now) (0 ∷ []) c.in_ok-put_numbers.ensures (adds_one mid new 0 zero))
    c.put_code.ensures
