use Rattle.std.proofs.Common.{codes, refl, ◌∙◌}
use Rattle.std.proofs.lemmas.Result.{on_ok_weaker}
use Rattle.lrat_text.specs.WrittenLine.{literals_text}
use Rattle.incremental.proofs.LineLemmas.{listed_bytes}
use Rattle.incremental.proofs.lidrup_lines.put_listed.Goals as goal

pub returns : goal.returns
returns c = on_ok_weaker c.put_part.result (λ f. f (codes "1") (literals_text c.args.literals.now) (codes " 0\n") (c.deref.ensures.value ∙ c.in_ok-write_addition.ensures.bytes ∙ listed_bytes c.args.literals.now) refl refl) c.put_part.ensures
