use Rattle.std.proofs.Common.{◌++◌, [], codes, decimal, refl, sym, ◌∙◌, append_assoc}
use Rattle.std.proofs.lemmas.Result.{on_ok_weaker}
use Rattle.lrat_text.specs.WrittenLine.{literals_text}
use Rattle.incremental.proofs.lidrup_lines.put_given.Goals as goal

pub returns : goal.returns
returns c = on_ok_weaker c.put_part.result (λ f. f ([]) (decimal c.args.id ++ literals_text c.args.clause.now) (codes " 0\n") (c.deref.ensures.value ∙ c.in_ok-write_addition.ensures.bytes ∙ sym (append_assoc (decimal c.args.id) (literals_text c.args.clause.now) (codes " 0\n"))) refl refl) c.put_part.ensures
