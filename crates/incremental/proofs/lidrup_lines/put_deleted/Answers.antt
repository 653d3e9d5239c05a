use Rattle.std.proofs.Common.{codes, refl, ◌∙◌}
use Rattle.std.proofs.lemmas.Result.{on_ok_weaker}
use Rattle.incremental.specs.inner.LidrupLines.{deleted_text}
use Rattle.incremental.proofs.lidrup_lines.put_deleted.Goals as goal

pub returns : goal.returns
returns c = on_ok_weaker c.put_part.result (λ f. f (codes "1 ") (deleted_text c.args.ids.now) (codes "\n") (c.deref.ensures.value ∙ c.in_ok-write_deletion.ensures.bytes) refl refl) c.put_part.ensures
