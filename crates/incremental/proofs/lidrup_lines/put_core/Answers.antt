use Rattle.std.proofs.Common.{◌++◌, codes, refl, ◌∙◌}
use Rattle.std.proofs.lemmas.Result.{on_ok_weaker}
use Rattle.lrat_text.specs.WrittenLine.{literals_text}
use Rattle.std.specs.List.{flat_map}
use Rattle.lrat_text.specs.inner.LineParts.{number_text}
use Rattle.incremental.proofs.LineLemmas.{core_bytes}
use Rattle.incremental.proofs.lidrup_lines.put_core.Goals as goal

pub returns : goal.returns
returns c = on_ok_weaker c.put_part.result (λ f. f (codes "1") (literals_text c.args.core.now ++ (flat_map number_text c.args.hints.now ++ codes " 0")) (codes "\n") (c.deref.ensures.value ∙ c.in_ok-write_addition.ensures.bytes ∙ core_bytes c.args.core.now c.args.hints.now) refl refl) c.put_part.ensures
