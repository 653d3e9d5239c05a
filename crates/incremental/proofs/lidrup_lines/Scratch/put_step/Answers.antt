use Rattle.std.proofs.Common.{◌∙◌, ap, Ok, sym, subst}
use Rattle.std.proofs.lemmas.Result.{on_ok_weaker}
use Rattle.lrat_text.specs.Grammar.{IsStepWithin}
use Rattle.lrat_text.specs.Steps.{step_of}
use Rattle.lrat_text.proofs.SpellingLemmas.{found_spells_within}
use Rattle.incremental.proofs.LogLemmas.{puts_deleted, puts_learnt}
use Rattle.incremental.proofs.lidrup_lines.Scratch.put_step.Goals as goal

pub returns-in-Add : goal.returns-in-Add
returns-in-Add c = on_ok_weaker c.put_line.result
    (λ e most step le is plain. puts_learnt most le c.args.line.now c.args.out.now.items c.put_line.new.out.items c.in-Add.id c.in-Add.lits.now c.in-Add.hints.now c.in-Add.groups.now step c.requires.open e
    (c.in_ok-read_step.ensures ∙ ap Ok (sym c.as_ref.ensures ∙ ap step_of c.in-Add.is)) is plain)
    c.put_line.ensures

pub returns-in-Delete : goal.returns-in-Delete
returns-in-Delete c = on_ok_weaker c.put_deleted.result
    (λ e most step le is plain. puts_deleted most le c.args.line.now c.args.out.now.items c.put_deleted.new.out.items c.in-Delete.ids.now step e
    (c.in_ok-read_step.ensures ∙ ap Ok (sym c.as_ref.ensures ∙ ap step_of c.in-Delete.is)) is)
    c.put_deleted.ensures

pub put_deleted-requires : goal.put_deleted-requires
put_deleted-requires c = subst (IsStepWithin 199999999) (sym c.as_ref.ensures ∙ ap step_of c.in-Delete.is) (found_spells_within 199999999 c.args.line.now c.read_step.new.step c.in_ok-read_step.ensures).limits
