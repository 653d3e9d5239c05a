use Rattle.std.proofs.Common.{List, ℕ, ◌++◌, ◌∙◌, ap}
use Rattle.std.proofs.lemmas.Result.{on_ok_weaker}
use Rattle.lrat_text.specs.WrittenLine.{line_of}
use Rattle.lrat_text.specs.declared.step.Step.TheVariants.{Delete}
use Rattle.incremental.proofs.LineLemmas.{deletion_bytes}
use Rattle.incremental.proofs.lidrup_lines.write_deletion.Goals as goal

pub returns-clause-bytes : goal.returns-clause-bytes
returns-clause-bytes c =
    on_ok_weaker c.put_ref.result (λ e. e ∙ ap (λ (xs : List ℕ). xs ++ line_of 1 (Delete c.args.ids.now)) c.clear.ensures.items ∙ deletion_bytes c.args.ids.now) c.put_ref.ensures.ok
